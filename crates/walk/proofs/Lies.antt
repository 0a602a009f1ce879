-- How a block lies to a window, in numbers: the tests is_within and is_apart of a spot, and what they say of the window's pixels. Rests on keys' Cases, Powers and Interval and laws' WindowScan.
use Prim.Native.Nat.{ℕ, ◌+◌, ◌-◌, ◌^◌, ◌≤◌, ◌<◌}
use mathlib.Core.Path.{◌≡◌, refl, sym, ◌∙◌, subst}
use mathlib.Core.Bool.{true, false, ◌||◌, ◌&&◌, true≢false}
use native.Mathlib.Omega.{arith}
use lib.Dec.{leb}
use borrow.Author.Tests.{leb-true, leb-false, le-leb, lt-leb}
use Rattle.keys.proofs.Cases.{decide, and_left, and_right, and_both, neither_left, neither_right}
use Rattle.keys.proofs.Powers.{two_le, two_pos}
use Rattle.keys.proofs.Interval.{within}
use Rattle.keys.specs.declared.Square.{Square}
use Rattle.definitions.specs.Window.{is_window, in_window}
use Rattle.definitions.specs.declared.Window.{Window}
use Rattle.laws.proofs.WindowScan.{inside_window, window_inside}
use Rattle.walk.specs.declared.Spot.{Spot}
use Rattle.walk.specs.declared.lying.Lie.{Lie}
use Rattle.walk.specs.declared.lying.Lie.TheVariants.{Apart, Within, Cut}
use Rattle.walk.specs.Walk.{BlockSpot, Small, is_within, is_apart, square_spot, lie_of}

-- the block's rows and columns are the window's
pub record SpotInside (s : Spot) (w : Window) : Type 0 where
  pub top : w.row ≤ s.row
  pub bottom : s.row + s.side ≤ w.row + w.height
  pub left : w.column ≤ s.column
  pub right : s.column + s.side ≤ w.column + w.width

pub within_inside : (s : Spot) (w : Window) → is_within s w ≡ true → SpotInside s w
unfolding is_within
within_inside s w e =
    let rows = and_left (leb w.row s.row && leb (s.row + s.side) (w.row + w.height)) _ e in
    let columns = and_right (leb w.row s.row && leb (s.row + s.side) (w.row + w.height)) _ e in
    record {
      top = leb-true _ _ (and_left _ _ rows);
      bottom = leb-true _ _ (and_right (leb w.row s.row) _ rows);
      left = leb-true _ _ (and_left _ _ columns);
      right = leb-true _ _ (and_right (leb w.column s.column) _ columns);
    }

pub inside_within : (s : Spot) (w : Window) → SpotInside s w → is_within s w ≡ true
unfolding is_within
inside_within s w h =
    and_both _ _ (and_both _ _ (le-leb _ _ h.top) (le-leb _ _ h.bottom)) (and_both _ _ (le-leb _ _ h.left) (le-leb _ _ h.right))

pub not_within : (s : Spot) (w : Window) → is_within s w ≡ false → SpotInside s w → ⊥
not_within s w e h = true≢false (sym (inside_within s w h) ∙ e)

-- the block and the window have rows and columns in common
pub record Meets (s : Spot) (w : Window) : Type 0 where
  pub rows : w.row < s.row + s.side
  pub window_rows : s.row < w.row + w.height
  pub columns : w.column < s.column + s.side
  pub window_columns : s.column < w.column + w.width

pub not_apart : (s : Spot) (w : Window) → is_apart s w ≡ false → Meets s w
unfolding is_apart
not_apart s w e =
    let rows = neither_left (leb (s.row + s.side) w.row || leb (w.row + w.height) s.row) _ e in
    let columns = neither_right (leb (s.row + s.side) w.row || leb (w.row + w.height) s.row) _ e in
    record {
      rows = leb-false _ _ (neither_left _ _ rows);
      window_rows = leb-false _ _ (neither_right (leb (s.row + s.side) w.row) _ rows);
      columns = leb-false _ _ (neither_left _ _ columns);
      window_columns = leb-false _ _ (neither_right (leb (s.column + s.side) w.column) _ columns);
    }

pub meets_apart : (s : Spot) (w : Window) → Meets s w → is_apart s w ≡ false
unfolding is_apart
meets_apart s w h = rw (lt-leb _ _ h.rows, lt-leb _ _ h.window_rows, lt-leb _ _ h.columns) (lt-leb _ _ h.window_columns)

-- the pixel lies in the block
pub record InSpot (s : Spot) (row column : ℕ) : Type 0 where
  pub top : s.row ≤ row
  pub bottom : row < s.row + s.side
  pub left : s.column ≤ column
  pub right : column < s.column + s.side

-- no pixel lies in a block and in a window apart from it
pub apart_pixel : (s : Spot) (w : Window) (row column : ℕ) → is_apart s w ≡ true → InSpot s row column → in_window w row column ≡ true → ⊥
apart_pixel s w row column e i j =
    let h = inside_window w row column j in
    true≢false (sym e ∙ meets_apart s w (omega arith))

-- every pixel of a block within the window lies in the window
pub within_pixel : (s : Spot) (w : Window) (row column : ℕ) → is_within s w ≡ true → InSpot s row column → in_window w row column ≡ true
within_pixel s w row column e i = let h = within_inside s w e in window_inside w row column (omega arith)

-- a window of the map in numbers
pub record AcceptedWindow (m : ℕ) (w : Window) : Type 0 where
  pub some_row : 1 ≤ w.height
  pub some_column : 1 ≤ w.width
  pub rows : w.row + w.height ≤ 2 ^ m
  pub columns : w.column + w.width ≤ 2 ^ m

pub accepted_window : (m : ℕ) (w : Window) → is_window m w ≡ true → AcceptedWindow m w
unfolding is_window
accepted_window m w e =
    let sizes = and_left (leb 1 w.height && leb 1 w.width) _ e in
    let ends = and_right (leb 1 w.height && leb 1 w.width) _ e in
    record {
      some_row = leb-true _ _ (and_left _ _ sizes);
      some_column = leb-true _ _ (and_right (leb 1 w.height) _ sizes);
      rows = leb-true _ _ (and_left _ _ ends);
      columns = leb-true _ _ (and_right (leb (w.row + w.height) (2 ^ m)) _ ends);
    }

-- the pixels of a window of the map are pixels of the map
pub window_pixel : (m : ℕ) (w : Window) (row column : ℕ) → is_window m w ≡ true → in_window w row column ≡ true → (row < 2 ^ m) × (column < 2 ^ m)
window_pixel m w row column e i = let h = accepted_window m w e in let j = inside_window w row column i in omega arith

-- blocks and windows of a map have small numbers
pub small : (m : ℕ) (s : Spot) (w : Window) → m ≤ 10 → is_window m w ≡ true → BlockSpot m s → Small s w
small m s w low e h =
    let a = accepted_window m w e in
    let b = within h.block in
    let two = two_le 10 low in
    omega (arith, h.side)

-- a pixel of the block and of the window
pub record SharedPart (s : Spot) (w : Window) : Type 0 where
  pub row : ℕ
  pub column : ℕ
  pub in_spot : InSpot s row column
  pub window_has : in_window w row column ≡ true

-- a block that does not lie apart from the window has one
pub meets_pixel : {m : ℕ} (w : Window) {s : Spot} → is_window m w ≡ true → BlockSpot m s → is_apart s w ≡ false → SharedPart s w
meets_pixel {m} w {s} good h e =
    let a = accepted_window m w good in
    let two = two_pos h.height in
    let j = not_apart s w e in
    let row = w.row + (s.row - w.row) in
    let column = w.column + (s.column - w.column) in
    record { row = row; column = column; in_spot = omega (arith, h.side); window_has = window_inside w row column (omega arith) }

-- a square by itself, by the two tests
module _ (q : Square) (w : Window) where
  pub lie_apart : is_apart (square_spot q) w ≡ true → Apart ≡ lie_of q w
  unfolding lie_of
  lie_apart e = rw e refl

  pub lie_within : is_apart (square_spot q) w ≡ false → is_within (square_spot q) w ≡ true → Within ≡ lie_of q w
  unfolding lie_of
  lie_within e f = rw (e, f) refl

  pub lie_cut : is_apart (square_spot q) w ≡ false → is_within (square_spot q) w ≡ false → Cut ≡ lie_of q w
  unfolding lie_of
  lie_cut e f = rw (e, f) refl

  -- what each answer tells
  abbrev pub LiesAs : Lie → Type 0
  LiesAs Apart = is_apart (square_spot q) w ≡ true
  LiesAs Within = is_within (square_spot q) w ≡ true
  LiesAs Cut = (is_apart (square_spot q) w ≡ false) × (is_within (square_spot q) w ≡ false)

  lie_told : LiesAs (lie_of q w)
  lie_told =
      decide (is_apart (square_spot q) w) (λ e. subst LiesAs (lie_apart e) e)
      (λ e. decide (is_within (square_spot q) w) (λ f. subst LiesAs (lie_within e f) f) (λ f. subst LiesAs (lie_cut e f) (e, f)))

  pub lies_as : {lie lie' : Lie} → lie ≡ lie_of q w → lie ≡ lie' → LiesAs lie'
  lies_as e f = subst LiesAs (sym e ∙ f) lie_told
