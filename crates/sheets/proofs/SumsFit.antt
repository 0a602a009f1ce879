-- The sums over the sheets fit a machine's number: an area is at most the window's height times its width, the blocks that select gives are no more than the
-- pixels that they have, and what is summed so far is at most the whole. Rests on SheetArea, SheetSelect and Below.
use Prim.Native.Nat.{ℕ, ◌+◌, ◌*◌, ◌^◌, ◌<◌, ◌≤◌}
use mathlib.Core.Path.{◌≡◌, ap}
use mathlib.Core.Bool.{Bool, true, false, cond, not}
use mathlib.Core.List.{List, [], ◌∷◌}
use native.Mathlib.Nat.{mul-le-mul, one-le-pow}
use native.Mathlib.Omega.{arith}
use lib.ListN.{length}
use lib.Dec.{eqb, lit<}
use Rattle.keys.specs.Key.{height_of}
use Rattle.keys.proofs.Cases.{decide}
use Rattle.definitions.specs.Picture.{Picture}
use Rattle.definitions.specs.Window.{is_window, features_in, select_in}
use Rattle.definitions.specs.Area.{count_of, area_in, sum_below}
use Rattle.definitions.specs.declared.Window.{Window}
use Rattle.laws.proofs.SelectArea.{pixels_of_blocks, selected_area}
use Rattle.laws.proofs.RasterOf.{rows-length}
use Rattle.sheets.specs.Ground.{Ground, inside_ground, sheets_for, first_line, sheet_picture, sheet_window}
use Rattle.sheets.specs.Together.{sum_sheets, area_sheets, select_sheets}
use Rattle.sheets.proofs.Below.{sum_below_less, sum_so_far}
use Rattle.sheets.proofs.NoPixels.{select_none}
use Rattle.sheets.proofs.SheetPixels.{six_none, within_ground}
use Rattle.sheets.proofs.SheetArea.{area-sheets}
use Rattle.sheets.proofs.SheetSelect.{select_count}

one_most : (test : Bool) → cond test 1 0 ≤ 1
one_most true = omega arith
one_most false = omega arith

count_most : (f : ℕ) (features : List ℕ) → count_of f features ≤ length features
unfolding count_of
count_most f [] = omega arith
count_most f (x ∷ features) = let a = one_most (eqb x f) in let b = count_most f features in omega arith

-- an area is at most the window's pixels
pub area_most : (p : Picture) (w : Window) (f : ℕ) → area_in p w f ≤ w.height * w.width
unfolding area_in features_in
area_most p w f =
    let a = count_most f (features_in p w) in
    let b = rows-length p w.row w.column w.width w.height in
    omega arith

-- and of ground with at most 2 ^ 20 rows and columns, as the tool takes them, at most 2 ^ 40
pub area_fits : (g : Ground) (w : Window) (f : ℕ) → inside_ground g w ≡ true → g.rows ≤ 2 ^ 20 → g.columns ≤ 2 ^ 20 → area_in g.picture w f ≤ 2 ^ 40
area_fits g w f lies low narrow =
    let inside = within_ground g w lies in
    let a = inside.rows in
    let b = inside.columns in
    let high : w.height ≤ 2 ^ 20 = omega arith in
    let wide : w.width ≤ 2 ^ 20 = omega arith in
    let product : w.height * w.width ≤ 2 ^ 20 * 2 ^ 20 = mul-le-mul high wide in
    let most = area_most g.picture w f in
    omega arith

-- blocks are no more than the pixels that they have
length-pixels : (m : ℕ) (keys : List ℕ) → length keys ≤ pixels_of_blocks m keys
unfolding pixels_of_blocks
length-pixels m [] = omega arith
length-pixels m (κ ∷ keys) = let a = one-le-pow (height_of m κ) 4 (lit< tt) in let b = length-pixels m keys in omega arith

module _ (m : ℕ) (g : Ground) (filler : ℕ) (w : Window) (f : ℕ) where
  sheet_most : (i j : ℕ) → length (select_in m (sheet_picture m g filler i j) (sheet_window m w i j) f) ≤ area_in (sheet_picture m g filler i j) (sheet_window m w i j) f
  sheet_most i j =
      let p : Picture = sheet_picture m g filler i j in
      let u : Window = sheet_window m w i j in
      decide (is_window m u)
      (λ e. let a = length-pixels m (select_in m p u f) in let b = selected_area p u f m e in omega arith)
      (λ e. let none = ap length (select_none p u (six_none m w (first_line m i) (first_line m j) (ap not e)) m f) in omega arith)

  -- the blocks that select gives on all sheets are no more than the feature has pixels in the window: so many places are enough
  pub select_most : inside_ground g w ≡ true → length (select_sheets m g filler w f) ≤ area_in g.picture w f
  unfolding area_sheets
  select_most lies =
      let count = select_count m g filler w f in
      let sum = area-sheets m g filler w f lies in
      let less = sum_below_less _ _ (sheets_for m g.rows) (λ i _. sum_below_less _ _ (sheets_for m g.columns) (λ j _. sheet_most i j)) in
      omega arith

-- what is summed so far, sheet after sheet, is at most the whole
pub sums_so_far : (m : ℕ) (g : Ground) (of : ℕ → ℕ → ℕ) (i j : ℕ) → i < sheets_for m g.rows → j < sheets_for m g.columns
    → sum_below (λ k. sum_below (of k) (sheets_for m g.columns)) i + (sum_below (of i) j + of i j) ≤ sum_sheets m g of
sums_so_far m g of i j down across =
    let a = sum_so_far (λ k. sum_below (of k) (sheets_for m g.columns)) (sheets_for m g.rows) i down in
    let b = sum_so_far (of i) (sheets_for m g.columns) j across in
    omega arith
