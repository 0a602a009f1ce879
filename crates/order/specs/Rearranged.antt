-- A rearrangement of a run of paints: each paint comes as often in the one as in the other. Beside it the steps that lead from one to the other:
-- swaps of neighbours. Rests on the history's paints.
use Rattle.std.specs.Prelude.{ℕ, ◌+◌, ◌≡◌, Bool, cond, ◌&&◌, List, [], ◌∷◌, eqb}
use Rattle.order.specs.Paint.{BlockPaint}

-- the same block and the same feature
abbrev pub same_paint : BlockPaint → BlockPaint → Bool
same_paint x y = eqb x.key y.key && eqb x.feature y.feature

-- how often a paint comes in a run
unfoldable pub times_in : BlockPaint → List BlockPaint → ℕ
times_in x [] = 0
times_in x (y ∷ ys) = cond (same_paint x y) 1 0 + times_in x ys

-- each paint comes as often in both runs
abbrev pub Rearranged : List BlockPaint → List BlockPaint → Type 0
Rearranged xs ys = (x : BlockPaint) → times_in x xs ≡ times_in x ys

-- swaps of neighbours lead from the first run to the second
pub data Swapped : List BlockPaint → List BlockPaint → Type 0 where
  none : Swapped [] []
  further : {x : BlockPaint} {xs ys : List BlockPaint} → Swapped xs ys → Swapped (x ∷ xs) (x ∷ ys)
  swap : {x y : BlockPaint} {xs : List BlockPaint} → Swapped (x ∷ y ∷ xs) (y ∷ x ∷ xs)
  and-then : {xs ys zs : List BlockPaint} → Swapped xs ys → Swapped ys zs → Swapped xs zs
