-- What the clipped window is (specification S7): its pixels are exactly those of the raster that were dragged over; a window of the raster is its
-- own; and it is no window, which gives 6, exactly where no pixel is common. Rests on WindowScan.
use Prim.Native.Nat.{ℕ, suc, ◌+◌, ◌-◌, ◌^◌, ◌<◌, ◌≤◌, min}
use mathlib.Core.Path.{◌≡◌, refl, sym, ap, ◌∙◌}
use mathlib.Core.Bool.{Bool, true, false, not, true≢false}
use mathlib.Core.Logic.{◌↔◌}
use native.Mathlib.Omega.{arith}
use lib.Dec.{T, ltb, leb}
use lib.IntN.{ℤ, pos, negsuc, ◌+ℤ◌}
use lib.Signed.{◌≤ℤ◌, ◌<ℤ◌}
use borrow.Author.Tests.{lt-ltb, le-ltb, ltb-true, le-leb, leb-true}
use Rattle.keys.proofs.Cases.{decide, split, and_both}
use Rattle.definitions.specs.Clip.{not_before, overlap_end, overlap_length, overlap_window, clipped_window}
use Rattle.definitions.specs.Window.{is_window, bad_window, in_window}
use Rattle.definitions.specs.declared.Window.{Window}
use Rattle.laws.proofs.WindowScan.{inside_window, window_inside}
use Rattle.laws.proofs.AreaOf.{window_bounds}

holds : (b : Bool) → b ≡ true → T b
holds b e = rw e tt

pub is_true : (b : Bool) → T b → b ≡ true
is_true true t = refl
is_true false t = absurd t

-- the line was dragged over
pub record Dragged (start : ℤ) (length line : ℕ) : Type 0 where
  pub from : start ≤ℤ pos line
  pub to : pos line <ℤ (start +ℤ pos length)

-- the line lies in the overlap
pub record Common (start : ℤ) (length side line : ℕ) : Type 0 where
  pub from : not_before start ≤ line
  pub to : line < not_before start + overlap_length start length side

-- the overlap of lines that begin before the raster
pub before_none : (before length side : ℕ) → length ≤ before → overlap_length (negsuc before) length side ≡ 0
unfolding not_before overlap_end overlap_length
before_none before length side h = rw (lt-ltb length (suc before) (omega arith)) (omega arith)

pub before_some : (before length side : ℕ) → before < length → overlap_length (negsuc before) length side ≡ min (length - before - 1) side
unfolding not_before overlap_end overlap_length
before_some before length side h = rw (le-ltb length (suc before) (omega arith)) (omega arith)

-- and of lines that do not
pub from_none : (first length side : ℕ) → side ≤ first → overlap_length (pos first) length side ≡ 0
unfolding not_before overlap_end overlap_length
from_none first length side h = omega arith

pub from_some : (first length side : ℕ) → first < side → overlap_length (pos first) length side ≡ min length (side - first)
unfolding not_before overlap_end overlap_length
from_some first length side h = omega arith

pub not_before_zero : (before : ℕ) → not_before (negsuc before) ≡ 0
unfolding not_before
not_before_zero before = refl

pub not_before_line : (line : ℕ) → not_before (pos line) ≡ line
unfolding not_before
not_before_line line = refl

-- where lines end that begin before the raster: in it, or before it too
past_first : (before length : ℕ) → before < length → negsuc before +ℤ pos length ≡ pos (length - suc before)
past_first before length h = rw (le-ltb length (suc before) (omega arith)) refl

ends_before : (before length line : ℕ) → length ≤ before → pos line <ℤ (negsuc before +ℤ pos length) → ⊥
ends_before before length line h l = (rw (lt-ltb length (suc before) (omega arith)) at l).lt

-- a line of the overlap was dragged over and lies in the raster
pub common_dragged : (start : ℤ) (length side line : ℕ) → Common start length side line → Dragged start length line × (line < side)
common_dragged (pos first) length side line h =
    split first side
    (λ l.
    let e = from_some first length side l in
    let z = not_before_line first in
    let f = h.from in
    let g = h.to in (
      record { from = record { le = holds (leb first line) (le-leb first line (omega arith)) }; to = record { lt = holds (ltb line (first + length)) (lt-ltb line (first + length) (omega arith)) } },
      omega arith,
    ))
    (λ l. let e = from_none first length side l in let z = not_before_line first in let f = h.from in let g = h.to in absurd (omega arith))
common_dragged (negsuc before) length side line h =
    split before length
    (λ l.
    let e = before_some before length side l in
    let z = not_before_zero before in
    let g = h.to in (
      record { from = record { le = tt }; to = rw (past_first before length l) (record { lt = holds (ltb line (length - suc before)) (lt-ltb line (length - suc before) (omega arith)) }) },
      omega arith,
    ))
    (λ l. let e = before_none before length side l in let z = not_before_zero before in let g = h.to in absurd (omega arith))

-- and the other way
pub dragged_common : (start : ℤ) (length side line : ℕ) → Dragged start length line → line < side → Common start length side line
dragged_common (pos first) length side line h l =
    let x = leb-true first line (is_true (leb first line) h.from.le) in
    let y = ltb-true line (first + length) (is_true (ltb line (first + length)) h.to.lt) in
    let e = from_some first length side (omega arith) in
    let z = not_before_line first in
    record { from = omega arith; to = omega arith }
dragged_common (negsuc before) length side line h l =
    split before length
    (λ k.
    let y = ltb-true line (length - suc before) (is_true (ltb line (length - suc before)) (rw (past_first before length k) at h.to).lt) in
    let e = before_some before length side k in
    let z = not_before_zero before in
    record { from = omega arith; to = omega arith })
    (λ k. absurd (ends_before before length line k h.to))

-- the overlap ends with the raster or before
common_inside : (start : ℤ) (length side : ℕ) → 1 ≤ overlap_length start length side → not_before start + overlap_length start length side ≤ side
unfolding overlap_length overlap_end
common_inside start length side h = omega arith

-- no line is dragged over by a length of 0
pub none_dragged : (start : ℤ) (line : ℕ) → Dragged start 0 line → ⊥
none_dragged (pos first) line h =
    let x = leb-true first line (is_true (leb first line) h.from.le) in
    let y = ltb-true line (first + 0) (is_true (ltb line (first + 0)) h.to.lt) in
    omega arith
none_dragged (negsuc before) line h = ends_before before 0 line (omega arith) h.to

-- the pixel was dragged over and lies in the raster
pub record OfBoth (m : ℕ) (row column : ℤ) (height width r c : ℕ) : Type 0 where
  pub rows : Dragged row height r
  pub columns : Dragged column width c
  pub row_inside : r < 2 ^ m
  pub column_inside : c < 2 ^ m

module _ (m : ℕ) (row column : ℤ) (height width : ℕ) where
  to_both : (r c : ℕ) → in_window (clipped_window m row column height width) r c ≡ true → OfBoth m row column height width r c
  unfolding overlap_window
  to_both r c e =
      let i = inside_window (clipped_window m row column height width) r c e in
      let rows = common_dragged row height (2 ^ m) r (record { from = i.from_row; to = i.to_row }) in
      let columns = common_dragged column width (2 ^ m) c (record { from = i.from_column; to = i.to_column }) in
      record { rows = rows.0; columns = columns.0; row_inside = rows.1; column_inside = columns.1 }

  from_both : (r c : ℕ) → OfBoth m row column height width r c → in_window (clipped_window m row column height width) r c ≡ true
  unfolding overlap_window
  from_both r c b =
      let rows = dragged_common row height (2 ^ m) r b.rows b.row_inside in
      let columns = dragged_common column width (2 ^ m) c b.columns b.column_inside in
      window_inside (clipped_window m row column height width) r c
      (record { from_row = rows.from; to_row = rows.to; from_column = columns.from; to_column = columns.to })

  -- the pixels of the clipped window are exactly those of the raster that were dragged over
  pub clipped_pixels : (r c : ℕ) → (in_window (clipped_window m row column height width) r c ≡ true) ↔ OfBoth m row column height width r c
  clipped_pixels r c = (to_both r c, from_both r c)

  -- with a common pixel the clipped window is a window of the raster
  common_window : (r c : ℕ) → OfBoth m row column height width r c → is_window m (clipped_window m row column height width) ≡ true
  unfolding overlap_window is_window
  common_window r c b =
      let rows = dragged_common row height (2 ^ m) r b.rows b.row_inside in
      let columns = dragged_common column width (2 ^ m) c b.columns b.column_inside in
      let high : 1 ≤ overlap_length row height (2 ^ m) = let f = rows.from in let t = rows.to in omega arith in
      let wide : 1 ≤ overlap_length column width (2 ^ m) = let f = columns.from in let t = columns.to in omega arith in
      and_both _ _ (and_both _ _ (le-leb _ _ high) (le-leb _ _ wide))
      (and_both _ _ (le-leb _ _ (common_inside row height (2 ^ m) high)) (le-leb _ _ (common_inside column width (2 ^ m) wide)))

  -- a clipped window that is a window of the raster has a pixel, its first
  window_common : is_window m (clipped_window m row column height width) ≡ true → OfBoth m row column height width (not_before row) (not_before column)
  unfolding overlap_window
  window_common e =
      let b = window_bounds m (clipped_window m row column height width) e in
      let high : 1 ≤ overlap_length row height (2 ^ m) = b.some_rows in
      let wide : 1 ≤ overlap_length column width (2 ^ m) = b.some_columns in
      to_both (not_before row) (not_before column)
      (window_inside (clipped_window m row column height width) (not_before row) (not_before column)
      (record { from_row = omega arith; to_row = omega arith; from_column = omega arith; to_column = omega arith }))

  -- 6 is for no common pixel, and for nothing else
  pub six_exactly : (bad_window m (clipped_window m row column height width) ≡ true) ↔ ((r c : ℕ) → OfBoth m row column height width r c → ⊥)
  six_exactly = (
    λ e r c b. true≢false (sym e ∙ ap not (common_window r c b)),
    λ none.
        decide (is_window m (clipped_window m row column height width))
        (λ e. absurd (none (not_before row) (not_before column) (window_common e)))
        (λ e. ap not e),
  )

-- so a height or a width of 0 gives 6
pub no_height : (m : ℕ) (row column : ℤ) (width : ℕ) → bad_window m (clipped_window m row column 0 width) ≡ true
no_height m row column width = (six_exactly m row column 0 width).1 (λ r c b. none_dragged row r b.rows)

pub no_width : (m : ℕ) (row column : ℤ) (height : ℕ) → bad_window m (clipped_window m row column height 0) ≡ true
no_width m row column height = (six_exactly m row column height 0).1 (λ r c b. none_dragged column c b.columns)

-- lines of the raster overlap with themselves
own-length : (first length side : ℕ) → 1 ≤ length → first + length ≤ side → overlap_length (pos first) length side ≡ length
own-length first length side h l = let e = from_some first length side (omega arith) in omega arith

same_window : (w : Window) (row column height width : ℕ) → row ≡ w.row → column ≡ w.column → height ≡ w.height → width ≡ w.width
    → ◌≡◌ {A = Window} (record { row = row; column = column; height = height; width = width }) w
same_window w row column height width a b c d = λ i. record { row = a i; column = b i; height = c i; width = d i }

-- a window of the raster is its own clipped window
pub own_clipped : (m : ℕ) (w : Window) → is_window m w ≡ true → clipped_window m (pos w.row) (pos w.column) w.height w.width ≡ w
unfolding overlap_window
own_clipped m w e =
    let b = window_bounds m w e in
    same_window w _ _ _ _ (not_before_line w.row) (not_before_line w.column)
    (own-length w.row w.height (2 ^ m) b.some_rows b.rows)
    (own-length w.column w.width (2 ^ m) b.some_columns b.columns)
