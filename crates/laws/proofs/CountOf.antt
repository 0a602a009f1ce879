-- How many pixels have a feature: a block's count is the sum over its four quadrants, it depends only on the block's pixels, and a block of one
-- feature has all its pixels of that one and none of another. Rests on PixelSums.
use Prim.Native.Nat.{ℕ, zero, suc, ◌+◌, ◌^◌, ◌≤◌}
use mathlib.Core.Path.{◌≡◌, refl, sym, ◌∙◌, ap, ap₂}
use mathlib.Core.Bool.{true, cond}
use mathlib.Core.List.{List, [], ◌∷◌, ◌++◌}
use native.Mathlib.Nat.{mul-one, mul-zero, zero-add, pow-suc}
use native.Mathlib.Omega.{arith}
use lib.Dec.{eqb}
use borrow.Author.Tests.{eq-eqb, ne_eqb}
use Rattle.keys.proofs.Cases.{decide}
use Rattle.definitions.specs.Picture.{Picture, one_feature}
use Rattle.definitions.specs.Window.{features_of_row, features_of_rows}
use Rattle.definitions.specs.Area.{count_of, pixels_with}
use Rattle.laws.proofs.Pixels.{Agree}
use Rattle.laws.proofs.Features.{one_to}
use Rattle.laws.proofs.PixelSums.{sum_row, sum_rows, sum_pixels, sum_zero, sum_suc, sum_block, sum_same, sum_constant}

-- 1 at a pixel that has the feature, 0 at another
abbrev pub one_at : Picture → ℕ → ℕ → ℕ → ℕ
one_at p f r c = cond (eqb (p r c) f) 1 0

count_nothing : (f : ℕ) → count_of f [] ≡ 0
unfolding count_of
count_nothing f = refl

pub count-append : (f : ℕ) (xs ys : List ℕ) → count_of f (xs ++ ys) ≡ count_of f xs + count_of f ys
unfolding count_of
count-append f [] ys = sym (zero-add _)
count-append f (x ∷ xs) ys = let e = count-append f xs ys in omega arith

module _ (p : Picture) (f : ℕ) where
  count_row : (r c width : ℕ) → count_of f (features_of_row p r c width) ≡ sum_row (one_at p f) r c width
  unfolding count_of features_of_row sum_row
  count_row r c zero = refl
  count_row r c (suc width) = ap (λ x. one_at p f r c + x) (count_row r (suc c) width)

  -- a count of a rectangle's features is a sum over its pixels
  pub count_rows : (r c width height : ℕ) → count_of f (features_of_rows p r c width height) ≡ sum_rows (one_at p f) r c width height
  unfolding features_of_rows sum_rows
  count_rows r c width zero = count_nothing f
  count_rows r c width (suc height) =
      count-append f (features_of_row p r c width) (features_of_rows p (suc r) c width height)
      ∙ ap₂ (λ x y. x + y) (count_row r c width) (count_rows (suc r) c width height)

  -- so is a block's count, by its quadrants
  pub pixels_sum : (k r c : ℕ) → pixels_with p k r c f ≡ sum_pixels (one_at p f) k r c
  unfolding pixels_with
  pixels_sum k r c = count_rows r c (2 ^ k) (2 ^ k) ∙ sum_block (one_at p f) k r c

  -- a block's count is the sum over its four quadrants
  pub pixels_quadrants : (k r c : ℕ)
      → pixels_with p (suc k) r c f
      ≡ pixels_with p k r c f + pixels_with p k r (c + 2 ^ k) f + (pixels_with p k (r + 2 ^ k) c f + pixels_with p k (r + 2 ^ k) (c + 2 ^ k) f)
  pixels_quadrants k r c =
      pixels_sum (suc k) r c
      ∙ sum_suc (one_at p f) k r c
      ∙ sym (ap₂ (λ x y. x + y)
      (ap₂ (λ x y. x + y) (pixels_sum k r c) (pixels_sum k r (c + 2 ^ k)))
      (ap₂ (λ x y. x + y) (pixels_sum k (r + 2 ^ k) c) (pixels_sum k (r + 2 ^ k) (c + 2 ^ k))))

-- pictures that agree on a block have the same counts there
pub pixels_agree : (p q : Picture) (k r c f : ℕ) → Agree p q k r c → pixels_with p k r c f ≡ pixels_with q k r c f
pixels_agree p q k r c f h =
    pixels_sum p f k r c
    ∙ sum_same (one_at p f) (one_at q f) k r c (λ a b w. ap (λ x. cond (eqb x f) 1 0) (h a b w))
    ∙ sym (pixels_sum q f k r c)

module _ (p : Picture) (k r c : ℕ) (one : one_feature p k r c ≡ true) where
  -- a block of one feature has 4 ^ k pixels of that feature
  pub pixels_one : (f : ℕ) → f ≡ p r c → pixels_with p k r c f ≡ 4 ^ k
  pixels_one f e =
      pixels_sum p f k r c
      ∙ sum_constant (one_at p f) 1 k r c (λ a b w. ap (λ x. cond x 1 0) (eq-eqb _ _ (one_to p k r c one a b w ∙ sym e)))
      ∙ mul-one (4 ^ k)

  -- and none of another
  pub pixels_none : (f : ℕ) → (f ≡ p r c → ⊥) → pixels_with p k r c f ≡ 0
  pixels_none f other =
      pixels_sum p f k r c
      ∙ sum_constant (one_at p f) 0 k r c (λ a b w. ap (λ x. cond x 1 0) (ne_eqb _ _ (λ e. other (sym e ∙ one_to p k r c one a b w))))
      ∙ mul-zero (4 ^ k)

one_most : (p : Picture) (f r c : ℕ) → one_at p f r c ≤ 1
one_most p f r c = decide (eqb (p r c) f) (λ e. rw e (omega arith)) (λ e. rw e (omega arith))

-- no feature has more pixels than the block
pub pixels_most : (p : Picture) (k r c f : ℕ) → pixels_with p k r c f ≤ 4 ^ k
pixels_most p zero r c f = let e = pixels_sum p f zero r c in let g = sum_zero (one_at p f) r c in let h = one_most p f r c in omega arith
pixels_most p (suc k) r c f =
    let e = pixels_quadrants p f k r c in
    let g = pow-suc 4 k in
    let nw = pixels_most p k r c f in
    let ne = pixels_most p k r (c + 2 ^ k) f in
    let sw = pixels_most p k (r + 2 ^ k) c f in
    let se = pixels_most p k (r + 2 ^ k) (c + 2 ^ k) f in
    omega arith
