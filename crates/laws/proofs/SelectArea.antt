-- The blocks that select gives for a feature have together exactly its area in the window. Rests on AreaOf.
use Prim.Native.Nat.{ℕ, zero, suc, ◌+◌, ◌^◌}
use mathlib.Core.Path.{◌≡◌, sym, ◌∙◌, ap}
use mathlib.Core.Bool.{true, false, cond, ◌&&◌}
use mathlib.Core.List.{List, [], ◌∷◌, ◌++◌}
use native.Mathlib.Nat.{mul-one, zero-add, add-zero}
use native.Mathlib.Omega.{arith}
use lib.Dec.{eqb}
use Rattle.keys.specs.Key.{height_of, child_key}
use Rattle.keys.proofs.Cases.{decide}
use Rattle.keys.specs.Under.{here, nw, ne, sw, se, MapBlock}
use Rattle.keys.proofs.Under.{under_trans}
use Rattle.keys.proofs.Valid.{block_valid}
use Rattle.definitions.specs.Picture.{Picture}
use Rattle.definitions.specs.Window.{is_window, in_window, is_given, blocks_from, select_from, select_in}
use Rattle.definitions.specs.Area.{area_in}
use Rattle.definitions.specs.declared.Window.{Window}
use Rattle.laws.proofs.Pixels.{every_to, every_zero}
use Rattle.laws.proofs.PixelSums.{sum_same_four, sum_pixels, sum_zero, sum_suc, sum_constant}
use Rattle.laws.proofs.AreaOf.{one_inside, area_sum}

-- the pixels of all the blocks with the given keys
unfoldable pub pixels_of_blocks : ℕ → List ℕ → ℕ
pixels_of_blocks m [] = 0
pixels_of_blocks m (κ ∷ keys) = 4 ^ height_of m κ + pixels_of_blocks m keys

pixels-append : (m : ℕ) (xs ys : List ℕ) → pixels_of_blocks m (xs ++ ys) ≡ pixels_of_blocks m xs + pixels_of_blocks m ys
unfolding pixels_of_blocks
pixels-append m [] ys = sym (zero-add _)
pixels-append m (κ ∷ xs) ys = let e = pixels-append m xs ys in omega arith

four-append : (m : ℕ) (a b c d : List ℕ) → pixels_of_blocks m (a ++ (b ++ (c ++ d))) ≡ pixels_of_blocks m a + pixels_of_blocks m b + (pixels_of_blocks m c + pixels_of_blocks m d)
four-append m a b c d =
    let x = pixels-append m a (b ++ (c ++ d)) in
    let y = pixels-append m b (c ++ d) in
    let z = pixels-append m c d in
    omega arith

module _ (p : Picture) (w : Window) (f : ℕ) where
  -- a block that is given has its pixels, all of them in the window and with the feature
  given_area : {m k r c κ : ℕ} → MapBlock m k r c κ → is_given p w f k r c ≡ true → pixels_of_blocks m (κ ∷ []) ≡ sum_pixels (one_inside p w f) k r c
  unfolding is_given pixels_of_blocks
  given_area {m} {k} {r} {c} {κ} b e =
      add-zero (4 ^ height_of m κ)
      ∙ ap (λ h. 4 ^ h) (block_valid b).height
      ∙ sym (sum_constant (one_inside p w f) 1 k r c
      (λ a d i. ap (λ x. cond x 1 0) (every_to (λ x y. in_window w x y && eqb (p x y) f) k r c e a d i))
      ∙ mul-one (4 ^ k))

  -- a pixel that is not given adds nothing
  pixel_area : (m r c : ℕ) → is_given p w f zero r c ≡ false → pixels_of_blocks m [] ≡ sum_pixels (one_inside p w f) zero r c
  unfolding is_given pixels_of_blocks
  pixel_area m r c e = sym (sum_zero (one_inside p w f) r c ∙ ap (λ x. cond x 1 0) (sym (every_zero (λ x y. in_window w x y && eqb (p x y) f) r c) ∙ e))

  select_area : {m : ℕ} (k : ℕ) {r c κ : ℕ} → MapBlock m k r c κ → pixels_of_blocks m (select_from p w f k r c κ) ≡ sum_pixels (one_inside p w f) k r c
  unfolding blocks_from is_given
  select_area {m} zero {r} {c} b =
      decide (is_given p w f zero r c)
      (λ e. rw e (given_area b e))
      (λ e. rw e (pixel_area m r c e))
  select_area {m} (suc k) {r} {c} {κ} b =
      decide (is_given p w f (suc k) r c)
      (λ e. rw e (given_area b e))
      (λ e. rw e
      (four-append m
      (select_from p w f k r c (child_key κ k 1))
      (select_from p w f k r (c + 2 ^ k) (child_key κ k 2))
      (select_from p w f k (r + 2 ^ k) c (child_key κ k 3))
      (select_from p w f k (r + 2 ^ k) (c + 2 ^ k) (child_key κ k 4))
      ∙ sum_same_four (select_area k (under_trans b (nw here))) (select_area k (under_trans b (ne here))) (select_area k (under_trans b (sw here))) (select_area k (under_trans b (se here)))
      ∙ sym (sum_suc (one_inside p w f) k r c)))

  -- the blocks that select gives have the area of the feature
  pub selected_area : (m : ℕ) → is_window m w ≡ true → pixels_of_blocks m (select_in m p w f) ≡ area_in p w f
  unfolding select_in
  selected_area m e = select_area m here ∙ sym (area_sum p w f m e)
