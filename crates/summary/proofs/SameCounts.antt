-- A slice's `==` compares numbers as the definition does: pair by pair. Rests on the definition alone.
use Prim.Native.Nat.{ℕ, ◌+◌, ◌-◌}
use mathlib.Core.Path.{◌≡◌, refl, ap, ◌∙◌}
use mathlib.Core.List.{List, [], ◌∷◌}
use mathlib.Core.Bool.{◌&&◌}
use native.Mathlib.Omega.{arith}
use lib.Dec.{eqb}
use lib.ListN.{take, drop}
use lib.Pointwise.{pointwise}
use Rattle.definitions.specs.Area.{same_numbers}

pub pointwise_same : (xs ys : List ℕ) → pointwise eqb xs ys ≡ same_numbers xs ys
unfolding same_numbers
pointwise_same [] [] = refl
pointwise_same [] (y ∷ ys) = refl
pointwise_same (x ∷ xs) [] = refl
pointwise_same (x ∷ xs) (y ∷ ys) = ap (λ t. eqb x y && t) (pointwise_same xs ys)

-- so it is of a part that is cut out at a place
pub part_same : (s : ℕ) (counts summary : List ℕ) (at : ℕ)
    → pointwise eqb (take s counts) (take (at + s - at) (drop at summary)) ≡ same_numbers (take s counts) (take s (drop at summary))
part_same s counts summary at =
    let e : at + s - at ≡ s = omega arith in
    ap (λ n. pointwise eqb (take s counts) (take n (drop at summary))) e ∙ pointwise_same (take s counts) (take s (drop at summary))
