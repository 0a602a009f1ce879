-- The place of a key among keys: what the search finds is the place among the first n keys, and on the records of two slices that is the place of
-- specification S5.2. Rests on Count.
use Prim.Native.Nat.{ℕ, zero, suc, ◌+◌, ◌-◌, ◌≤◌, ◌<◌}
use mathlib.Core.Path.{◌≡◌, refl, ◌∙◌, ap}
use mathlib.Core.Bool.{cond}
use mathlib.Core.List.{List, [], ◌∷◌}
use native.Mathlib.Omega.{arith}
use lib.ListN.{length, get_or, take, length-take}
use lib.Dec.{leb}
use Rattle.keys.proofs.Cases.{split}
use Rattle.definitions.specs.List.{Record, keys_of, values_of}
use Rattle.definitions.specs.Read.{room, records_of}
use Rattle.definitions.specs.Standing.{up_to, place_of}
use Rattle.laws.proofs.Records.{records_keys, records_values}
use Rattle.list.specs.Sorted.{Ascends, Sorted}
use Rattle.list.specs.Among.{keys_up_to, place_among}
use Rattle.list.proofs.Count.{up_to_none, up_to_one, up_to_skip, count_at}

-- at most all keys are at or before x
pub up_to_most : (x : ℕ) (keys : List ℕ) → keys_up_to x keys ≤ length keys
up_to_most x [] = let e = up_to_none x in omega arith
up_to_most x (κ ∷ keys) =
    let h = up_to_most x keys in
    split x κ (λ lt. let e = up_to_skip x κ keys lt in omega arith) (λ ge. let e = up_to_one x κ keys ge in omega arith)

-- where the first key is, one at least is
pub up_to_some : (x n : ℕ) (keys : List ℕ) → 1 ≤ n → n ≤ length keys → get_or keys 0 0 ≤ x → 1 ≤ keys_up_to x (take n keys)
up_to_some x zero keys some fits first = absurd (omega arith)
up_to_some x (suc n) [] some fits first = absurd (omega arith)
up_to_some x (suc n) (κ ∷ keys) some fits first = let e = up_to_one x κ (take n keys) first in omega arith

-- the count of a sorted list's keys at or before the key, as the search finds it
module _ {keys : List ℕ} {n key : ℕ} (s : Sorted keys n key) (count : ℕ) (is : count ≡ keys_up_to key (take n keys)) where
  pub found_some : 1 ≤ count
  found_some = let h = up_to_some key n keys s.some s.ascends.room s.first in omega arith

  pub found_most : count ≤ n
  found_most = let h = up_to_most key (take n keys) in let e = length-take n keys in omega arith

  pub found_place : count - 1 ≡ place_among key (take n keys)
  unfolding place_among
  found_place = ap (λ x. x - 1) is

-- the place among a sorted list's keys, as it was found
module _ {keys : List ℕ} {n key : ℕ} (s : Sorted keys n key) where
  pub place-below : place_among key (take n keys) < n
  unfolding place_among
  place-below =
      let some = found_some s (keys_up_to key (take n keys)) refl in
      let most = found_most s (keys_up_to key (take n keys)) refl in
      omega arith

-- and that of a key which is there
pub place_at : {keys : List ℕ} {n : ℕ} → Ascends keys n → (i x : ℕ) → i < n → get_or keys i 0 ≡ x → i ≡ place_among x (take n keys)
unfolding place_among
place_at {keys} {n} a i x there same = let e = count_at a i x there same in omega arith

-- records counted are keys counted
pub up_to_keys : (x : ℕ) (l : List Record) → up_to x l ≡ keys_up_to x (keys_of l)
unfolding up_to keys_up_to
up_to_keys x [] = refl
up_to_keys x (e ∷ l) = ap (λ y. cond (leb e.key x) 1 0 + y) (up_to_keys x l)

pub place_keys : (x : ℕ) (l : List Record) → place_of x l ≡ place_among x (keys_of l)
unfolding place_of place_among
place_keys x l = ap (λ y. y - 1) (up_to_keys x l)

-- of the first n records of two slices that hold them
module _ (keys bits : List ℕ) (n : ℕ) (fits : n ≤ room keys bits) where
  pub keys_of_records : keys_of (records_of keys bits n) ≡ take n keys
  keys_of_records = records_keys keys bits n (omega arith) (omega arith)

  pub values_of_records : values_of (records_of keys bits n) ≡ take n bits
  values_of_records = records_values keys bits n (omega arith) (omega arith)

  -- the place in the records is the place among the first n keys
  pub place-among : (κ : ℕ) → place_of κ (records_of keys bits n) ≡ place_among κ (take n keys)
  place-among κ = place_keys κ (records_of keys bits n) ∙ ap (place_among κ) keys_of_records
