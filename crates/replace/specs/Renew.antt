-- Renewing the bits of the blocks around a changed one, from its parent up to the root: each gets the union of its four children's. A model in
-- the code's order. Rests on Family.
use Rattle.std.specs.Prelude.{ℕ, zero, suc, List, get_or, set}
use Rattle.definitions.specs.List.{Record, record_of, keys_of}
use Rattle.definitions.specs.Standing.{place_of}
use Rattle.replace.specs.Family.{around, parent_bits}

-- the record at a place gets other bits, and keeps its key
unfoldable pub set_bits : List Record → ℕ → ℕ → List Record
set_bits l place b = set l place (record_of (get_or (keys_of l) place 0) b)

-- the block of height h around κ has got the bits b; so many levels above it are renewed, the lowest first
unfoldable pub renew : List Record → ℕ → ℕ → ℕ → ℕ → List Record
renew l κ b zero h = l
renew l κ b (suc levels) h =
    renew (set_bits l (place_of (around (suc h) κ) l) (parent_bits l κ b h)) κ (parent_bits l κ b h) levels (suc h)
