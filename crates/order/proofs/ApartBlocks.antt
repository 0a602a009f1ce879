-- Blocks that are apart share no pixel, and valid blocks that share none are apart. Rests on the laws of blocks.
use Prim.Native.Nat.{ℕ}
use mathlib.Core.Path.{◌≡◌, sym, ap, ◌∙◌}
use mathlib.Core.Bool.{Bool, true, false, not, ◌&&◌, true≢false}
use mathlib.Core.Logic.{◌↔◌, ◌≢◌}
use native.Mathlib.Omega.{arith}
use lib.Dec.{eqb}
use borrow.Author.Tests.{ne_eqb, eqb-false, not-true}
use Rattle.keys.specs.Key.{valid_key, height_of}
use Rattle.keys.specs.Block.{row_of, column_of, in_block, is_ancestor}
use Rattle.keys.proofs.Cases.{decide, and_left, and_right, and_both}
use Rattle.keys.proofs.Powers.{two_pos}
use Rattle.keys.specs.Under.{Under, InSquare}
use Rattle.keys.proofs.Interval.{within, intervals-apart as by-keys}
use Rattle.keys.proofs.Valid.{valid_block}
use Rattle.keys.proofs.Pixel.{inside}
use Rattle.keys.proofs.InBlock.{in_block_iff}
use Rattle.keys.proofs.Ancestor.{ancestor_iff}
use Rattle.order.specs.Paint.{BlockPaint}
use Rattle.order.specs.Apart.{apart}

-- what being apart says of two keys
pub record ApartKeys (m a b : ℕ) : Type 0 where
  pub other : a ≢ b
  pub above : is_ancestor m a b ≡ false
  pub below : is_ancestor m b a ≡ false

pub apart_to : (m : ℕ) (x y : BlockPaint) → apart m x y ≡ true → ApartKeys m x.key y.key
unfolding apart
apart_to m x y e =
    let a : Bool = not (eqb x.key y.key) in
    let b : Bool = not (is_ancestor m x.key y.key) in
    let c : Bool = not (is_ancestor m y.key x.key) in
    let rest = and_right a (b && c) e in
    record {
      other = eqb-false x.key y.key (not-true _ (and_left a (b && c) e));
      above = not-true _ (and_left b c rest);
      below = not-true _ (and_right b c rest);
    }

pub apart_from : (m : ℕ) (x y : BlockPaint) → ApartKeys m x.key y.key → apart m x y ≡ true
unfolding apart
apart_from m x y h =
    and_both (not (eqb x.key y.key)) (not (is_ancestor m x.key y.key) && not (is_ancestor m y.key x.key))
    (ap not (ne_eqb x.key y.key h.other))
    (and_both (not (is_ancestor m x.key y.key)) (not (is_ancestor m y.key x.key)) (ap not h.above) (ap not h.below))

-- being apart goes both ways
pub apart_flip : (m : ℕ) (x y : BlockPaint) → apart m x y ≡ true → apart m y x ≡ true
apart_flip m x y e =
    let h = apart_to m x y e in
    apart_from m y x (record { other = λ same. h.other (sym same); above = h.below; below = h.above })

-- no pixel is in both blocks
abbrev pub Disjoint : ℕ → ℕ → ℕ → Type 0
Disjoint m a b = (row column : ℕ) → in_block m a row column ≡ true → in_block m b row column ≡ false

module _ (m a b : ℕ) (valid-a : valid_key m a ≡ true) (valid-b : valid_key m b ≡ true) where
  -- blocks that are apart share no pixel
  pub apart_disjoint : ApartKeys m a b → Disjoint m a b
  apart_disjoint h row column e =
      let u = valid_block m a valid-a in
      let v = valid_block m b valid-b in
      decide (in_block m b row column)
      (λ f.
      let i = inside u ((in_block_iff row column u).0 e) in
      let j = inside v ((in_block_iff row column v).0 f) in
      absurd (by-keys u v
      (λ w. true≢false (sym ((ancestor_iff u v).1 (w, h.other)) ∙ h.above))
      (λ w. true≢false (sym ((ancestor_iff v u).1 (w, λ same. h.other (sym same))) ∙ h.below))
      (λ before. omega arith)
      (λ after. omega arith)))
      (λ out. out)

  -- the first pixel of a block is in every block that it lies under
  first_shared : Under (height_of m a) (row_of m a) (column_of m a) a (height_of m b) (row_of m b) (column_of m b) b → Disjoint m a b → ⊥
  first_shared u h =
      let p = two_pos (height_of m b) in
      let w = within u in
      let own : InSquare (height_of m b) (row_of m b) (column_of m b) (row_of m b) (column_of m b) = omega arith in
      let outer : InSquare (height_of m a) (row_of m a) (column_of m a) (row_of m b) (column_of m b) = omega arith in
      let in-a = (in_block_iff (row_of m b) (column_of m b) (valid_block m a valid-a)).1 outer in
      let in_b = (in_block_iff (row_of m b) (column_of m b) (valid_block m b valid-b)).1 own in
      true≢false (sym in_b ∙ h (row_of m b) (column_of m b) in-a)

-- sharing no pixel goes both ways
pub disjoint_flip : (m a b : ℕ) → Disjoint m a b → Disjoint m b a
disjoint_flip m a b h row column e = decide (in_block m a row column) (λ f. absurd (true≢false (sym e ∙ h row column f))) (λ out. out)

-- a block has a pixel
own_pixel : (m a : ℕ) → valid_key m a ≡ true → in_block m a (row_of m a) (column_of m a) ≡ true
own_pixel m a valid =
    let p = two_pos (height_of m a) in
    let own : InSquare (height_of m a) (row_of m a) (column_of m a) (row_of m a) (column_of m a) = omega arith in
    (in_block_iff (row_of m a) (column_of m a) (valid_block m a valid)).1 own

-- of blocks without a common pixel neither is above the other
not_above : (m a b : ℕ) → valid_key m a ≡ true → valid_key m b ≡ true → Disjoint m a b → is_ancestor m a b ≡ false
not_above m a b valid-a valid-b h =
    decide (is_ancestor m a b)
    (λ e. absurd (first_shared m a b valid-a valid-b ((ancestor_iff (valid_block m a valid-a) (valid_block m b valid-b)).0 e).0 h))
    (λ e. e)

-- paints of blocks are apart exactly when no pixel is in both blocks
pub apart_means : (m : ℕ) (x y : BlockPaint) → valid_key m x.key ≡ true → valid_key m y.key ≡ true → (apart m x y ≡ true) ↔ Disjoint m x.key y.key
apart_means m x y valid-x valid-y = (
  (λ e. apart_disjoint m x.key y.key valid-x valid-y (apart_to m x y e)),
  (λ h. apart_from m x y (record {
    other = λ same.
        true≢false
        (sym (own_pixel m x.key valid-x)
        ∙ ap (λ κ. in_block m κ (row_of m x.key) (column_of m x.key)) same
        ∙ h (row_of m x.key) (column_of m x.key) (own_pixel m x.key valid-x));
    above = not_above m x.key y.key valid-x valid-y h;
    below = not_above m y.key x.key valid-y valid-x (disjoint_flip m x.key y.key h);
  })),
)
