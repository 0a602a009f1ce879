-- Climbing from a block that has got one feature to the largest block around it that has that feature alone. A model in the code's order.
-- Rests on Family.
use Rattle.std.specs.Prelude.{ℕ, zero, suc, cond, List, eqb}
use Rattle.definitions.specs.List.{Record}
use Rattle.replace.specs.Family.{parent_bits}

-- the block of height h around κ has got the bits b of one feature: up as long as the parent's bits are the same, so many levels at most
unfoldable pub climb : List Record → ℕ → ℕ → ℕ → ℕ → ℕ
climb l κ b zero h = h
climb l κ b (suc levels) h = cond (eqb (parent_bits l κ b h) b) (climb l κ b levels (suc h)) h
