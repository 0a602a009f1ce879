-- The blocks around a key, level by level, and the bits of a parent by those of its four children: what a loop does that goes up from a block
-- to the root. A model in the code's order. Rests on Standing of the definitions.
use Rattle.std.specs.Prelude.{ℕ, suc, ◌+◌, ◌*◌, ◌/◌, ◌^◌, cond, List, get_or, eqb}
use Rattle.keys.specs.Key.{child_key}
use Rattle.definitions.specs.Bits.{union_of_four}
use Rattle.definitions.specs.List.{Record, values_of}
use Rattle.definitions.specs.Standing.{place_of}

-- the key of the block of height h that a key lies in
unfoldable pub around : ℕ → ℕ → ℕ
around h κ = κ / 5 ^ h * 5 ^ h

-- the bits of a block by the list: those of the last record at or before its key
unfoldable pub block_bits : ℕ → List Record → ℕ
block_bits x l = get_or (values_of l) (place_of x l) 0

-- the bits of the child with key x, where the child with key own has got the bits b
unfoldable pub child_bits : List Record → ℕ → ℕ → ℕ → ℕ
child_bits l own b x = cond (eqb x own) b (block_bits x l)

-- the bits of the block of height h + 1 around κ, where the one of height h has got the bits b
unfoldable pub parent_bits : List Record → ℕ → ℕ → ℕ → ℕ
parent_bits l κ b h =
    union_of_four (child_bits l (around h κ) b (child_key (around (suc h) κ) h 1))
    (child_bits l (around h κ) b (child_key (around (suc h) κ) h 2))
    (child_bits l (around h κ) b (child_key (around (suc h) κ) h 3))
    (child_bits l (around h κ) b (child_key (around (suc h) κ) h 4))

-- the same with step for 5 ^ h, as a loop has it that goes up
unfoldable pub wider_bits : List Record → ℕ → ℕ → ℕ → ℕ
wider_bits l κ b step =
    union_of_four (child_bits l (κ / step * step) b (κ / (step * 5) * (step * 5) + step))
    (child_bits l (κ / step * step) b (κ / (step * 5) * (step * 5) + 2 * step))
    (child_bits l (κ / step * step) b (κ / (step * 5) * (step * 5) + 3 * step))
    (child_bits l (κ / step * step) b (κ / (step * 5) * (step * 5) + 4 * step))
