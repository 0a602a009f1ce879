-- The area of a feature in a window is what the window's largest blocks have of it together. Rests on laws' AreaOf and on walk's Largest.
use Prim.Native.Nat.{ℕ, zero, suc, ◌+◌, ◌^◌}
use mathlib.Core.Path.{◌≡◌, sym, ◌∙◌, ap}
use mathlib.Core.Bool.{true, false, cond, ◌&&◌}
use mathlib.Core.List.{List, [], ◌∷◌, ◌++◌}
use native.Mathlib.Nat.{zero-add, add-zero}
use native.Mathlib.Omega.{arith}
use lib.Dec.{eqb}
use Rattle.keys.specs.Key.{height_of, child_key}
use Rattle.keys.specs.Block.{row_of, column_of}
use Rattle.keys.proofs.Cases.{decide}
use Rattle.keys.specs.Under.{here, nw, ne, sw, se, MapBlock}
use Rattle.keys.proofs.Under.{under_trans}
use Rattle.keys.proofs.Valid.{block_valid}
use Rattle.definitions.specs.Picture.{Picture}
use Rattle.definitions.specs.Window.{is_window, in_window, is_given, blocks_from, select_from, select_in}
use Rattle.definitions.specs.Area.{area_in, pixels_with}
use Rattle.definitions.specs.declared.Window.{Window}
use Rattle.laws.proofs.SelectMeans.{given_inside}
use Rattle.laws.proofs.Pixels.{every_zero}
use Rattle.laws.proofs.PixelSums.{sum_same_four, sum_pixels, sum_zero, sum_suc}
use Rattle.laws.proofs.AreaOf.{one_inside, area_sum, area_inside}
use Rattle.walk.proofs.Largest.{blank_picture, blank_blocks}

module _ (m : ℕ) (p : Picture) (f : ℕ) where
  -- how many pixels of the blocks with the given keys have the feature, added up
  unfoldable pub feature_pixels : List ℕ → ℕ
  feature_pixels [] = 0
  feature_pixels (κ ∷ keys) = pixels_with p (height_of m κ) (row_of m κ) (column_of m κ) f + feature_pixels keys

  pixels-append : (xs ys : List ℕ) → feature_pixels (xs ++ ys) ≡ feature_pixels xs + feature_pixels ys
  unfolding feature_pixels
  pixels-append [] ys = sym (zero-add _)
  pixels-append (κ ∷ xs) ys = let e = pixels-append xs ys in omega arith

  four-append : (a b c d : List ℕ) → feature_pixels (a ++ (b ++ (c ++ d))) ≡ feature_pixels a + feature_pixels b + (feature_pixels c + feature_pixels d)
  four-append a b c d =
      let x = pixels-append a (b ++ (c ++ d)) in
      let y = pixels-append b (c ++ d) in
      let z = pixels-append c d in
      omega arith

  module _ (w : Window) where
    -- a block that lies wholly in the window has its own count of the feature
    whole : {k r c κ : ℕ} → MapBlock m k r c κ → is_given blank_picture w 0 k r c ≡ true → feature_pixels (κ ∷ []) ≡ sum_pixels (one_inside p w f) k r c
    unfolding feature_pixels
    whole {k} {r} {c} {κ} b e =
        let i = block_valid b in
        add-zero _
        ∙ rw (i.height, i.row, i.column) (sym (area_inside p w f k r c (λ row column s. given_inside blank_picture w 0 k r c {row = row} {column = column} e s)))

    -- a pixel outside the window adds nothing
    none : (r c : ℕ) → is_given blank_picture w 0 zero r c ≡ false → feature_pixels [] ≡ sum_pixels (one_inside p w f) zero r c
    unfolding is_given feature_pixels
    none r c e =
        let out : (in_window w r c && true) ≡ false = sym (every_zero (λ a b. in_window w a b && eqb (blank_picture a b) 0) r c) ∙ e in
        decide (in_window w r c)
        (λ inside. absurd (let z : ◌≡◌ {A = ℕ} 0 1 = cc in omega arith))
        (λ outside. sym (sum_zero (one_inside p w f) r c ∙ ap (λ x. cond (x && eqb (p r c) f) 1 0) outside))

    under : (k : ℕ) {r c κ : ℕ} → MapBlock m k r c κ → feature_pixels (select_from blank_picture w 0 k r c κ) ≡ sum_pixels (one_inside p w f) k r c
    unfolding blocks_from is_given
    under zero {r} {c} b =
        decide (is_given blank_picture w 0 zero r c)
        (λ e. rw e (whole b e))
        (λ e. rw e (none r c e))
    under (suc k) {r} {c} {κ} b =
        decide (is_given blank_picture w 0 (suc k) r c)
        (λ e. rw e (whole b e))
        (λ e. rw e
        (four-append
        (select_from blank_picture w 0 k r c (child_key κ k 1))
        (select_from blank_picture w 0 k r (c + 2 ^ k) (child_key κ k 2))
        (select_from blank_picture w 0 k (r + 2 ^ k) c (child_key κ k 3))
        (select_from blank_picture w 0 k (r + 2 ^ k) (c + 2 ^ k) (child_key κ k 4))
        ∙ sum_same_four (under k (under_trans b (nw here))) (under k (under_trans b (ne here))) (under k (under_trans b (sw here))) (under k (under_trans b (se here)))
        ∙ sym (sum_suc (one_inside p w f) k r c)))

    -- the area is what the largest blocks add up to
    pub largest_area : is_window m w ≡ true → feature_pixels (blank_blocks m w) ≡ area_in p w f
    unfolding blank_blocks select_in
    largest_area e = under m here ∙ sym (area_sum p w f m e)
