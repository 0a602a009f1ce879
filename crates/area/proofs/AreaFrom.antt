-- The area from a key on: how many pixels of the window have the feature and a key at or after x. From the root's key on it is the area, at the end of
-- the map it is 0; a block that is passed takes away its own pixels, and one that is entered takes away none. Rests on SumUnder.
use Prim.Native.Nat.{ℕ, ◌+◌, ◌^◌, ◌≤◌, ◌<◌}
use mathlib.Core.Path.{◌≡◌, sym, ◌∙◌, ap}
use mathlib.Core.Bool.{true, false, cond, ◌&&◌}
use native.Mathlib.Omega.{arith}
use lib.Dec.{leb, ltb, eqb}
use borrow.Author.Tests.{le-leb, lt-leb, lt-ltb, le-ltb}
use Rattle.keys.specs.Block.{pixel_key}
use Rattle.keys.proofs.Cases.{decide, split}
use Rattle.keys.specs.Under.{MapBlock, InSquare}
use Rattle.keys.proofs.Pixel.{inside, pixel_back, pixel_key-lt}
use Rattle.definitions.specs.Picture.{Picture}
use Rattle.definitions.specs.Window.{is_window, in_window}
use Rattle.definitions.specs.Area.{area_in}
use Rattle.definitions.specs.declared.Window.{Window}
use Rattle.laws.proofs.PixelSums.{sum_pixels, sum_same}
use Rattle.laws.proofs.AreaOf.{one_inside, area_sum}
use Rattle.walk.specs.Walk.{Clear}
use Rattle.area.proofs.SumUnder.{sum_nothing, sum_both, sum_most, sum_under}

module _ (m : ℕ) (p : Picture) (w : Window) (f : ℕ) where
  -- 1 at a pixel of the window that has the feature, if its key is x or later
  abbrev pub one_from : ℕ → ℕ → ℕ → ℕ
  one_from x r c = cond (leb x (pixel_key m r c)) (one_inside p w f r c) 0

  unfoldable pub area_from : ℕ → ℕ
  area_from x = sum_pixels (one_from x) m 0 0

  one_from_leaf : (x r c : ℕ) → x ≤ pixel_key m r c → one_from x r c ≡ one_inside p w f r c
  one_from_leaf x r c h = ap (λ b. cond b (one_inside p w f r c) 0) (le-leb x (pixel_key m r c) h)

  none_from : (x r c : ℕ) → pixel_key m r c < x → one_from x r c ≡ 0
  none_from x r c h = ap (λ b. cond b (one_inside p w f r c) 0) (lt-leb x (pixel_key m r c) h)

  -- from the root on it is the area
  pub area_first : (x : ℕ) → x ≡ 0 → is_window m w ≡ true → area_from x ≡ area_in p w f
  unfolding area_from
  area_first x e good = sum_same (one_from x) (one_inside p w f) m 0 0 (λ r c i. one_from_leaf x r c (omega arith)) ∙ sym (area_sum p w f m good)

  -- at the end of the map nothing is left
  pub area_end : (x : ℕ) → x ≡ 5 ^ m → area_from x ≡ 0
  unfolding area_from
  area_end x e = sum_nothing (one_from x) m 0 0 (λ r c i. none_from x r c (let h = pixel_key-lt m r c in omega arith))

  one_most : (r c : ℕ) → one_inside p w f r c ≤ 1
  one_most r c = decide (in_window w r c && eqb (p r c) f) (λ e. rw e (omega arith)) (λ e. rw e (omega arith))

  -- no area is more than the raster's pixels
  pub area_most : is_window m w ≡ true → area_in p w f ≤ 4 ^ m
  area_most good = rw (area_sum p w f m good) (sum_most (one_inside p w f) m 0 0 one_most)

  outside : (r c : ℕ) → in_window w r c ≡ false → one_inside p w f r c ≡ 0
  outside r c e = ap (λ b. cond (b && eqb (p r c) f) 1 0) e

  -- between keys that no pixel of the window lies between, nothing is added
  pub area_clear : (x y : ℕ) → x ≤ y → Clear m w x y → area_from x ≡ area_from y
  unfolding area_from
  area_clear x y later clear =
      sum_same (one_from x) (one_from y) m 0 0
      (λ r c i. split (pixel_key m r c) x
      (λ low. none_from x r c low ∙ sym (none_from y r c (omega arith)))
      (λ from. split (pixel_key m r c) y
      (λ between. one_from_leaf x r c from ∙ decide (in_window w r c) (λ e. absurd (clear r c e from between)) (λ e. outside r c e) ∙ sym (none_from y r c between))
      (λ past. one_from_leaf x r c from ∙ sym (one_from_leaf y r c past))))

  -- what a block adds, as a sum over the whole raster
  abbrev one_within : ℕ → ℕ → ℕ → ℕ → ℕ
  one_within x y r c = cond (ltb (pixel_key m r c) y) (one_from x r c) 0

  within_low : (x y r c : ℕ) → pixel_key m r c < y → one_within x y r c ≡ one_from x r c
  within_low x y r c h = ap (λ b. cond b (one_from x r c) 0) (lt-ltb (pixel_key m r c) y h)

  within_past : (x y r c : ℕ) → y ≤ pixel_key m r c → one_within x y r c ≡ 0
  within_past x y r c h = ap (λ b. cond b (one_from x r c) 0) (le-ltb (pixel_key m r c) y h)

  -- what is from x on is what is below y, and from y on
  parted : (x y r c : ℕ) → x ≤ y → one_from x r c ≡ one_within x y r c + one_from y r c
  parted x y r c later =
      split (pixel_key m r c) y
      (λ low. let a = within_low x y r c low in let b = none_from y r c low in omega arith)
      (λ past. let a = within_past x y r c past in let b = one_from_leaf y r c past in let d = one_from_leaf x r c (omega arith) in omega arith)

  module _ {k r c κ : ℕ} (b : MapBlock m k r c κ) where
    -- nothing of it lies outside the block
    only_block : (row column : ℕ) → InSquare m 0 0 row column → (InSquare k r c row column → ⊥) → one_within κ (κ + 5 ^ k) row column ≡ 0
    only_block row column i out =
        split (pixel_key m row column) (κ + 5 ^ k)
        (λ until. within_low κ (κ + 5 ^ k) row column until ∙ split (pixel_key m row column) κ (λ before. none_from κ row column before)
        (λ from. absurd (out (pixel_back row column b (omega arith) (omega arith) (record { from = from; until = until })))))
        (λ past. within_past κ (κ + 5 ^ k) row column past)

    -- and all of the block's pixels belong to it
    all_block : (row column : ℕ) → InSquare k r c row column → one_within κ (κ + 5 ^ k) row column ≡ one_inside p w f row column
    all_block row column i =
        let j = inside b i in
        within_low κ (κ + 5 ^ k) row column j.until ∙ one_from_leaf κ row column j.from

    -- a block that is passed takes away its own pixels
    pub area_block : area_from κ ≡ sum_pixels (one_inside p w f) k r c + area_from (κ + 5 ^ k)
    unfolding area_from
    area_block =
        sum_same (one_from κ) (λ row column. one_within κ (κ + 5 ^ k) row column + one_from (κ + 5 ^ k) row column) m 0 0
        (λ row column i. parted κ (κ + 5 ^ k) row column (omega arith))
        ∙ sum_both (one_within κ (κ + 5 ^ k)) (one_from (κ + 5 ^ k)) m 0 0
        ∙ ap (λ x. x + sum_pixels (one_from (κ + 5 ^ k)) m 0 0)
        (sum_under (one_within κ (κ + 5 ^ k)) b only_block ∙ sum_same (one_within κ (κ + 5 ^ k)) (one_inside p w f) k r c all_block)
