-- A rearrangement is what one thinks: each paint as often in both runs exactly when swaps of neighbours lead from one to the other. Rests on keys' Cases.
use Prim.Native.Nat.{◌+◌, ◌≤◌}
use mathlib.Core.Path.{◌≡◌, refl, sym, ap, ◌∙◌}
use mathlib.Core.Bool.{true, cond}
use mathlib.Core.List.{List, [], ◌∷◌}
use mathlib.Core.Logic.{◌↔◌}
use native.Mathlib.Omega.{arith}
use lib.Dec.{eqb}
use borrow.Author.Tests.{eqb-true, eq-eqb}
use Rattle.keys.proofs.Cases.{decide, and_left, and_right, and_both}
use Rattle.order.specs.Paint.{BlockPaint}
use Rattle.order.specs.Rearranged.{same_paint, times_in, Rearranged, Swapped, none, further, swap, and-then}

-- a paint comes no time in a run without paints
pub times_none : (x : BlockPaint) → times_in x [] ≡ 0
unfolding times_in
times_none x = refl

-- and once more where it comes first
times_more : (x y : BlockPaint) (ys : List BlockPaint) → times_in x (y ∷ ys) ≡ cond (same_paint x y) 1 0 + times_in x ys
unfolding times_in
times_more x y ys = refl

-- paints with the same key and feature are one
pub same_one : (x y : BlockPaint) → same_paint x y ≡ true → x ≡ y
same_one x y e =
    let κ : x.key ≡ y.key = eqb-true _ _ (and_left (eqb x.key y.key) (eqb x.feature y.feature) e) in
    let f : x.feature ≡ y.feature = eqb-true _ _ (and_right (eqb x.key y.key) (eqb x.feature y.feature) e) in
    λ i. record { key = κ i; feature = f i }

same_itself : (x : BlockPaint) → same_paint x x ≡ true
same_itself x = and_both (eqb x.key x.key) (eqb x.feature x.feature) (eq-eqb x.key x.key refl) (eq-eqb x.feature x.feature refl)

-- the first paint of a run comes at least once
times_first : (x : BlockPaint) (xs : List BlockPaint) → times_in x (x ∷ xs) ≡ 1 + times_in x xs
times_first x xs = times_more x x xs ∙ ap (λ t. cond t 1 0 + times_in x xs) (same_itself x)

-- a run without swaps leads to itself
swapped_itself : (xs : List BlockPaint) → Swapped xs xs
swapped_itself [] = none
swapped_itself (x ∷ xs) = further (swapped_itself xs)

-- swaps keep how often a paint comes
pub swapped_times : {xs ys : List BlockPaint} → Swapped xs ys → Rearranged xs ys
swapped_times none x = refl
swapped_times (further {x = y} {xs = xs} {ys = ys} d) x =
    times_more x y xs ∙ ap (λ n. cond (same_paint x y) 1 0 + n) (swapped_times d x) ∙ sym (times_more x y ys)
swapped_times (swap {x = y} {y = z} {xs = xs}) x =
    let a = times_more x y (z ∷ xs) in
    let b = times_more x z xs in
    let c = times_more x z (y ∷ xs) in
    let d = times_more x y xs in
    omega arith
swapped_times (and-then d e) x = swapped_times d x ∙ swapped_times e x

-- ys is a run with x at some place, and rest is what is left without it
pub record Brought (x : BlockPaint) (ys : List BlockPaint) : Type 0 where
  pub rest : List BlockPaint
  pub brought : Swapped (x ∷ rest) ys

-- a paint that comes in a run can be brought to its front
pub found_among : (x : BlockPaint) (ys : List BlockPaint) → 1 ≤ times_in x ys → Brought x ys
found_among x [] h = let e = times_none x in absurd (omega arith)
found_among x (y ∷ ys) h =
    decide (same_paint x y)
    (λ e. record { rest = ys; brought = rw (same_one x y e) (swapped_itself (y ∷ ys)) })
    (λ e.
    let more : times_in x (y ∷ ys) ≡ 0 + times_in x ys = times_more x y ys ∙ ap (λ t. cond t 1 0 + times_in x ys) e in
    let deeper = found_among x ys (omega arith) in
    record { rest = y ∷ deeper.rest; brought = and-then swap (further deeper.brought) })

-- a run with a paint is no rearrangement of one without
pub not_none : (y : BlockPaint) (ys : List BlockPaint) → Rearranged [] (y ∷ ys) → ⊥
not_none y ys h = let e = times_none y in let f = times_first y ys in let g = h y in omega arith

-- where each paint comes as often in both runs, swaps lead from one to the other
pub times_swapped : (xs ys : List BlockPaint) → Rearranged xs ys → Swapped xs ys
times_swapped [] [] h = none
times_swapped [] (y ∷ ys) h = absurd (not_none y ys h)
times_swapped (x ∷ xs) ys h =
    let first = times_first x xs in
    let same = h x in
    let at = found_among x ys (omega arith) in
    and-then (further (times_swapped xs at.rest (λ z.
    let a = times_more z x xs in
    let b = times_more z x at.rest in
    let c = swapped_times at.brought z in
    let d = h z in
    omega arith)))
    at.brought

-- a rearrangement is what swaps of neighbours reach
pub rearranged_means : (xs ys : List BlockPaint) → Rearranged xs ys ↔ Swapped xs ys
rearranged_means xs ys = (times_swapped xs ys, swapped_times)
