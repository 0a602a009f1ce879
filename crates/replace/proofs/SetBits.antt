-- What renewing bits leaves as it is: the keys, and so the number of records; and what it does to the bits. Rests on the definitions alone.
use Prim.Native.Nat.{ℕ, zero, suc}
use mathlib.Core.Path.{◌≡◌, refl, ◌∙◌}
use mathlib.Core.List.{List}
use lib.ListN.{length, get_or, length-set, get_or-map}
use lib.Seq.{map-set_same}
use Rattle.definitions.specs.List.{Record, record_of, keys_of}
use Rattle.definitions.specs.Standing.{place_of}
use Rattle.replace.specs.Family.{around, parent_bits}
use Rattle.replace.specs.Renew.{set_bits, renew}

-- setting bits leaves the keys
pub set-keys : (l : List Record) (i b : ℕ) → keys_of (set_bits l i b) ≡ keys_of l
unfolding set_bits
set-keys l i b =
    map-set_same (λ x. x.key) l i (record_of (get_or (keys_of l) i 0) b) (record_of 0 0) (get_or-map (λ x. x.key) l i (record_of 0 0))

-- and leaves the number of records
pub set-length : (l : List Record) (i b : ℕ) → length (set_bits l i b) ≡ length l
unfolding set_bits
set-length l i b = length-set l i _

-- renewing leaves the keys
pub renew_keys : (l : List Record) (κ b n h : ℕ) → keys_of (renew l κ b n h) ≡ keys_of l
unfolding renew
renew_keys l κ b zero h = refl
renew_keys l κ b (suc n) h =
    renew_keys (set_bits l (place_of (around (suc h) κ) l) (parent_bits l κ b h)) κ (parent_bits l κ b h) n (suc h)
    ∙ set-keys l (place_of (around (suc h) κ) l) (parent_bits l κ b h)

-- and the number of records
pub renew-length : (l : List Record) (κ b n h : ℕ) → length (renew l κ b n h) ≡ length l
unfolding renew
renew-length l κ b zero h = refl
renew-length l κ b (suc n) h =
    renew-length (set_bits l (place_of (around (suc h) κ) l) (parent_bits l κ b h)) κ (parent_bits l κ b h) n (suc h)
    ∙ set-length l (place_of (around (suc h) κ) l) (parent_bits l κ b h)
