-- A sheet's pixels: one lies in the clipped window exactly when the ground's pixel lies in the ground's window, and there it has the ground's feature and
-- no filler. Rests on Lines.
use Prim.Native.Nat.{ℕ, ◌+◌, ◌-◌, ◌^◌, ◌<◌, ◌≤◌, max, min}
use mathlib.Core.Path.{◌≡◌, sym, ap, ◌∙◌}
use mathlib.Core.Bool.{true, false, cond, ◌&&◌}
use native.Mathlib.Omega.{arith}
use lib.Dec.{leb, ltb, eqb}
use borrow.Author.Tests.{leb-true, lt-ltb}
use Rattle.keys.proofs.Cases.{decide, and_left, and_right, and_both, same_test}
use Rattle.definitions.specs.Clip.{overlap_window}
use Rattle.definitions.specs.Window.{window_at, in_window, bad_window}
use Rattle.definitions.specs.declared.Window.{Window}
use Rattle.laws.proofs.WindowScan.{inside_window, window_inside}
use Rattle.laws.proofs.Overlap.{clipped_pixels, six_exactly}
use Rattle.sheets.specs.Ground.{Ground, in_ground, inside_ground, cut_at, on_sheet, seen_from}
use Rattle.sheets.proofs.Lines.{on_start, on-length, common_seen, seen_common}

-- a pixel of the clipped window: the ground's pixel is one of the window, and it lies on the sheet
pub record SeenPixel (m : ℕ) (w : Window) (top left r c : ℕ) : Type 0 where
  pub inside : in_window w (top + r) (left + c) ≡ true
  pub row_on : r < 2 ^ m
  pub column_on : c < 2 ^ m

-- the clipped window by numbers that are not negative, as the strict calls take them
pub seen_window : (m : ℕ) (w : Window) (top left : ℕ)
    → seen_from m w top left
    ≡ window_at (max w.row top - top) (max w.column left - left)
    (min (w.row + w.height) (top + 2 ^ m) - max w.row top) (min (w.column + w.width) (left + 2 ^ m) - max w.column left)
unfolding overlap_window
seen_window m w top left = λ i. record {
  row = on_start w.row top i;
  column = on_start w.column left i;
  height = on-length w.row top w.height (2 ^ m) i;
  width = on-length w.column left w.width (2 ^ m) i;
}

module _ (m : ℕ) (w : Window) (top left : ℕ) where
  pub seen_to : (r c : ℕ) → in_window (seen_from m w top left) r c ≡ true → SeenPixel m w top left r c
  unfolding overlap_window
  seen_to r c e =
      let i = inside_window (seen_from m w top left) r c e in
      let rows = common_seen w.row top w.height (2 ^ m) r (record { from = i.from_row; to = i.to_row }) in
      let columns = common_seen w.column left w.width (2 ^ m) c (record { from = i.from_column; to = i.to_column }) in
      record {
        inside = window_inside w (top + r) (left + c)
            (record { from_row = rows.from; to_row = rows.to; from_column = columns.from; to_column = columns.to });
        row_on = rows.on;
        column_on = columns.on;
      }

  pub seen-from : (r c : ℕ) → SeenPixel m w top left r c → in_window (seen_from m w top left) r c ≡ true
  unfolding overlap_window
  seen-from r c x =
      let i = inside_window w (top + r) (left + c) x.inside in
      let rows = seen_common w.row top w.height (2 ^ m) r (record { from = i.from_row; to = i.to_row; on = x.row_on }) in
      let columns = seen_common w.column left w.width (2 ^ m) c (record { from = i.from_column; to = i.to_column; on = x.column_on }) in
      window_inside (seen_from m w top left) r c
      (record { from_row = rows.from; to_row = rows.to; from_column = columns.from; to_column = columns.to })

  -- the test on the sheet is the ground's
  pub seen_same : (r c : ℕ) → r < 2 ^ m → c < 2 ^ m → in_window (seen_from m w top left) r c ≡ in_window w (top + r) (left + c)
  seen_same r c h j =
      same_test _ _ (λ e. (seen_to r c e).inside) (λ e. seen-from r c (record { inside = e; row_on = h; column_on = j }))

  -- a sheet that is refused with 6 has no pixel of the window
  pub six_none : bad_window m (seen_from m w top left) ≡ true → (r c : ℕ) → in_window (seen_from m w top left) r c ≡ true → ⊥
  six_none e r c i =
      (six_exactly m (on_sheet w.row top) (on_sheet w.column left) w.height w.width).0 e r c
      ((clipped_pixels m (on_sheet w.row top) (on_sheet w.column left) w.height w.width r c).0 i)

-- the bounds of a window inside the ground
pub record Within (g : Ground) (w : Window) : Type 0 where
  pub rows : w.row + w.height ≤ g.rows
  pub columns : w.column + w.width ≤ g.columns

pub within_ground : (g : Ground) (w : Window) → inside_ground g w ≡ true → Within g w
unfolding inside_ground
within_ground g w e = record {
  rows = leb-true _ _ (and_left (leb (w.row + w.height) g.rows) _ e);
  columns = leb-true _ _ (and_right (leb (w.row + w.height) g.rows) _ e);
}

module _ (g : Ground) (filler top left : ℕ) where
  -- a pixel of the ground keeps its feature
  pub cut_ground : (r c : ℕ) → in_ground g (top + r) (left + c) ≡ true → cut_at g filler top left r c ≡ g.picture (top + r) (left + c)
  unfolding cut_at
  cut_ground r c e = ap (λ x. cond x (g.picture (top + r) (left + c)) filler) e

  -- another is filler
  pub cut_filler : (r c : ℕ) → in_ground g (top + r) (left + c) ≡ false → cut_at g filler top left r c ≡ filler
  unfolding cut_at
  cut_filler r c e = ap (λ x. cond x (g.picture (top + r) (left + c)) filler) e

  module _ (w : Window) (lies : inside_ground g w ≡ true) where
    -- a pixel of a window inside the ground is one of the ground
    pub window_ground : (row column : ℕ) → in_window w row column ≡ true → in_ground g row column ≡ true
    unfolding in_ground
    window_ground row column e =
        let i = inside_window w row column e in
        let b = within_ground g w lies in
        and_both (ltb row g.rows) (ltb column g.columns)
        (lt-ltb row g.rows (omega (arith, i.to_row, b.rows))) (lt-ltb column g.columns (omega (arith, i.to_column, b.columns)))

    -- filler never counts: each pixel of the clipped window has the ground's feature
    pub no_filler : (m r c : ℕ) → in_window (seen_from m w top left) r c ≡ true → cut_at g filler top left r c ≡ g.picture (top + r) (left + c)
    no_filler m r c e = cut_ground r c (window_ground (top + r) (left + c) (seen_to m w top left r c e).inside)

    -- a pixel of the sheet lies in the clipped window and has the feature exactly when the ground's pixel does in the ground's window
    pub has_same : (m r c f : ℕ) → r < 2 ^ m → c < 2 ^ m
        → in_window (seen_from m w top left) r c && eqb (cut_at g filler top left r c) f
        ≡ in_window w (top + r) (left + c) && eqb (g.picture (top + r) (left + c)) f
    has_same m r c f h j =
        decide (in_window (seen_from m w top left) r c)
        (λ e. rw (e, sym (seen_same m w top left r c h j) ∙ e, no_filler m r c e))
        (λ e. rw (e, sym (seen_same m w top left r c h j) ∙ e))

-- a sheet's features are below s where the ground's and the filler are
pub cut_below : (g : Ground) (filler top left s : ℕ) → ((row column : ℕ) → in_ground g row column ≡ true → g.picture row column < s) → filler < s
    → (r c : ℕ) → cut_at g filler top left r c < s
cut_below g filler top left s h l r c =
    decide (in_ground g (top + r) (left + c))
    (λ e. let x = cut_ground g filler top left r c e in let y = h (top + r) (left + c) e in omega arith)
    (λ e. let x = cut_filler g filler top left r c e in omega arith)
