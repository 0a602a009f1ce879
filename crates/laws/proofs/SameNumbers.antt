-- The comparison of two lists of numbers is equality, and refusal 18 is given exactly where the summary is not the picture's. Rests on keys' Cases.
use Prim.Native.Nat.{ℕ}
use mathlib.Core.Path.{◌≡◌, refl, sym, ◌∙◌, ap, ap₂}
use mathlib.Core.Bool.{true, false, not, true≢false}
use mathlib.Core.List.{List, [], ◌∷◌}
use lib.Dec.{eqb}
use borrow.Author.Tests.{eqb-true, eq-eqb, not-false}
use Rattle.keys.proofs.Cases.{decide, and_left, and_right, and_both}
use Rattle.definitions.specs.Picture.{Picture}
use Rattle.definitions.specs.Area.{summary_of, same_numbers, no_summary}

-- what compares as the same is equal
pub same_numbers_to : (xs ys : List ℕ) → same_numbers xs ys ≡ true → xs ≡ ys
unfolding same_numbers
same_numbers_to [] [] e = refl
same_numbers_to [] (y ∷ ys) e = absurd (true≢false (sym e))
same_numbers_to (x ∷ xs) [] e = absurd (true≢false (sym e))
same_numbers_to (x ∷ xs) (y ∷ ys) e =
    ap₂ (λ z zs. z ∷ zs) (eqb-true x y (and_left (eqb x y) (same_numbers xs ys) e)) (same_numbers_to xs ys (and_right (eqb x y) (same_numbers xs ys) e))

same_itself : (xs : List ℕ) → same_numbers xs xs ≡ true
unfolding same_numbers
same_itself [] = refl
same_itself (x ∷ xs) = and_both (eqb x x) (same_numbers xs xs) (eq-eqb x x refl) (same_itself xs)

-- and what is equal compares as the same
pub same_from : (xs ys : List ℕ) → xs ≡ ys → same_numbers xs ys ≡ true
same_from xs ys e = ap (same_numbers xs) (sym e) ∙ same_itself xs

pub same_not : (xs ys : List ℕ) → (xs ≡ ys → ⊥) → same_numbers xs ys ≡ false
same_not xs ys h = decide (same_numbers xs ys) (λ e. absurd (h (same_numbers_to xs ys e))) (λ e. e)

-- no refusal 18 where the summary is the picture's
pub summary_right : (m s : ℕ) (p : Picture) (summary : List ℕ) → summary ≡ summary_of m s p → no_summary m s p summary ≡ false
unfolding no_summary
summary_right m s p summary e = ap not (same_from summary (summary_of m s p) e)

-- refusal 18 where it is not
pub summary_wrong : (m s : ℕ) (p : Picture) (summary : List ℕ) → (summary ≡ summary_of m s p → ⊥) → no_summary m s p summary ≡ true
unfolding no_summary
summary_wrong m s p summary h = ap not (same_not summary (summary_of m s p) h)

-- so what passes is the picture's summary
pub summary_is : (m s : ℕ) (p : Picture) (summary : List ℕ) → no_summary m s p summary ≡ false → summary ≡ summary_of m s p
unfolding no_summary
summary_is m s p summary e = same_numbers_to summary (summary_of m s p) (not-false (same_numbers summary (summary_of m s p)) e)
