-- The scans of a window mean what specification S6 says: exist is yes exactly when some pixel of the window has feature f, and report
-- has exactly the slots of the features in the window. Rests on Slots.
use Prim.Native.Nat.{ℕ, zero, suc, ◌+◌, ◌^◌, ◌≤◌, ◌<◌}
use mathlib.Core.Path.{◌≡◌, sym, ap, ap₂, subst, ◌∙◌}
use mathlib.Core.Logic.{◌↔◌, ⊎_elim}
use mathlib.Core.Bool.{true, ◌&&◌, ◌||◌}
use mathlib.Core.List.{List, [], ◌∷◌, Memᴰ}
use native.Mathlib.Omega.{arith}
use lib.Dec.{leb, ltb, eqb}
use borrow.Author.Tests.{leb-true, le-leb, ltb-true, lt-ltb, eqb-true, eq-eqb}
use Rattle.keys.proofs.Cases.{split, and_left, and_right, and_both, or_either, or_left, or_right}
use Rattle.definitions.specs.Picture.{Picture}
use Rattle.definitions.specs.Bits.{has_slot}
use Rattle.definitions.specs.Window.{in_window, features_of_row, features_of_rows, features_in, occurs, union_of, exist_in, report_in}
use Rattle.definitions.specs.declared.Window.{Window}
use Rattle.laws.proofs.Slots.{slot_union, slot_of_zero, slot_power}

-- the pixel lies in the window, by its bounds
pub record InsideWindow (w : Window) (row column : ℕ) : Type 0 where
  pub from_row : w.row ≤ row
  pub to_row : row < w.row + w.height
  pub from_column : w.column ≤ column
  pub to_column : column < w.column + w.width

-- a pixel that passes the test lies in the window
pub inside_window : (w : Window) (row column : ℕ) → in_window w row column ≡ true → InsideWindow w row column
unfolding in_window
inside_window w row column e =
    let rows = and_left (leb w.row row && ltb row (w.row + w.height)) _ e in
    let columns = and_right (leb w.row row && ltb row (w.row + w.height)) _ e in
    record {
      from_row = leb-true _ _ (and_left _ _ rows);
      to_row = ltb-true _ _ (and_right (leb w.row row) _ rows);
      from_column = leb-true _ _ (and_left _ _ columns);
      to_column = ltb-true _ _ (and_right (leb w.column column) _ columns);
    }

-- a pixel that lies in the window passes the test
pub window_inside : (w : Window) (row column : ℕ) → InsideWindow w row column → in_window w row column ≡ true
unfolding in_window
window_inside w row column h =
    and_both _ _ (and_both _ _ (le-leb _ _ h.from_row) (lt-ltb _ _ h.to_row))
    (and_both _ _ (le-leb _ _ h.from_column) (lt-ltb _ _ h.to_column))

-- some pixel of the window has the feature
pub record PixelWith (p : Picture) (w : Window) (f : ℕ) : Type 0 where
  pub row : ℕ
  pub column : ℕ
  pub inside : in_window w row column ≡ true
  pub feature : p row column ≡ f

-- a run of pixels in a row has the feature
record InRow (p : Picture) (row column width f : ℕ) : Type 0 where
  place : ℕ
  from : column ≤ place
  to : place < column + width
  feature : p row place ≡ f

row_has : (p : Picture) (row column width : ℕ) {f : ℕ} → Memᴰ f (features_of_row p row column width) → InRow p row column width f
unfolding features_of_row
row_has p row column zero h = absurd (mathlib.Core.List.Memᴰ.not-nil h)
row_has p row column (suc width) {f} h =
    ⊎_elim
    (λ (e : f ≡ p row column). record { place = column; from = omega arith; to = omega arith; feature = sym e })
    (λ (h' : Memᴰ f (features_of_row p row (suc column) width)). let r = row_has p row (suc column) width h' in
    record { place = r.place; from = omega arith; to = omega arith; feature = r.feature })
    (mathlib.Core.List.Memᴰ.cases_cons h)

has_row : (p : Picture) (row column width : ℕ) {f : ℕ} → InRow p row column width f → Memᴰ f (features_of_row p row column width)
unfolding features_of_row
has_row p row column zero r = absurd (omega arith)
has_row p row column (suc width) {f} r =
    split column r.place
    (λ below. mathlib.Core.List.Memᴰ.tail (has_row p row (suc column) width (record { place = r.place; from = below; to = omega arith; feature = r.feature })))
    (λ above. let same : r.place ≡ column = omega arith in mathlib.Core.List.Memᴰ.head (sym r.feature ∙ ap (λ x. p row x) same))

-- runs of pixels in so many rows have the feature
record InRows (p : Picture) (row column width height f : ℕ) : Type 0 where
  in_row : ℕ
  from_row : row ≤ in_row
  to_row : in_row < row + height
  run : InRow p in_row column width f

rows_have : (p : Picture) (row column width height : ℕ) {f : ℕ} → Memᴰ f (features_of_rows p row column width height) → InRows p row column width height f
unfolding features_of_rows
rows_have p row column width zero h = absurd (mathlib.Core.List.Memᴰ.not-nil h)
rows_have p row column width (suc height) {f} h =
    ⊎_elim
    (λ (h₁ : Memᴰ f (features_of_row p row column width)).
    record { in_row = row; from_row = omega arith; to_row = omega arith; run = row_has p row column width h₁ })
    (λ (h₂ : Memᴰ f (features_of_rows p (suc row) column width height)). let r = rows_have p (suc row) column width height h₂ in
    record { in_row = r.in_row; from_row = omega arith; to_row = omega arith; run = r.run })
    (mathlib.Core.List.Memᴰ.append_cases (features_of_row p row column width) h)

have_rows : (p : Picture) (row column width height : ℕ) {f : ℕ} → InRows p row column width height f → Memᴰ f (features_of_rows p row column width height)
unfolding features_of_rows
have_rows p row column width zero r = absurd (omega arith)
have_rows p row column width (suc height) {f} r =
    split row r.in_row
    (λ below. mathlib.Core.List.Memᴰ.append_right (features_of_row p row column width)
    (have_rows p (suc row) column width height (record { in_row = r.in_row; from_row = below; to_row = omega arith; run = r.run })))
    (λ above. let same : r.in_row ≡ row = omega arith in
    mathlib.Core.List.Memᴰ.append_left (features_of_rows p (suc row) column width height) (has_row p row column width (subst (λ x. InRow p x column width f) same r.run)))

-- each feature of the scan is that of a pixel of the window
pub scanned_pixel : (p : Picture) (w : Window) {f : ℕ} → Memᴰ f (features_in p w) → PixelWith p w f
unfolding features_in
scanned_pixel p w h =
    let r = rows_have p w.row w.column w.width w.height h in
    record {
      row = r.in_row;
      column = r.run.place;
      inside = window_inside w r.in_row r.run.place (omega arith);
      feature = r.run.feature;
    }

-- the feature of each pixel of the window is one of the scan
pub pixel_scanned : (p : Picture) (w : Window) {f : ℕ} → PixelWith p w f → Memᴰ f (features_in p w)
unfolding features_in
pixel_scanned p w x =
    let h = inside_window w x.row x.column x.inside in
    have_rows p w.row w.column w.width w.height
    (record {
      in_row = x.row;
      from_row = h.from_row;
      to_row = h.to_row;
      run = record { place = x.column; from = h.from_column; to = h.to_column; feature = x.feature };
    })

-- the features of the scan are exactly those of the window's pixels
pub features_exactly : (p : Picture) (w : Window) {f : ℕ} → Memᴰ f (features_in p w) ↔ PixelWith p w f
features_exactly p w = (scanned_pixel p w, pixel_scanned p w)

-- a feature that occurs in a list is a member of it
pub occurs_member : (f : ℕ) (l : List ℕ) → occurs f l ≡ true → Memᴰ f l
unfolding occurs
occurs_member f [] e = absurd (let z : ◌≡◌ {A = ℕ} 0 1 = cc in omega arith)
occurs_member f (x ∷ l) e =
    ⊎_elim
    (λ (h : eqb x f ≡ true). mathlib.Core.List.Memᴰ.head (sym (eqb-true x f h)))
    (λ (h : occurs f l ≡ true). mathlib.Core.List.Memᴰ.tail (occurs_member f l h))
    (or_either (eqb x f) (occurs f l) e)

-- and a member occurs
pub member_occurs : {f : ℕ} {l : List ℕ} → Memᴰ f l → occurs f l ≡ true
unfolding occurs
member_occurs {f} (mathlib.Core.List.Memᴰ.head {x} {xs} e) = or_left (eqb x f) (occurs f xs) (eq-eqb x f (sym e))
member_occurs {f} (mathlib.Core.List.Memᴰ.tail {x} {xs} h) = or_right (eqb x f) (occurs f xs) (member_occurs h)

-- a slot of the union of features is set exactly when the feature occurs among them
pub union_slot : (i : ℕ) (l : List ℕ) → has_slot (union_of l) i ≡ occurs i l
unfolding union_of occurs
union_slot i [] = slot_of_zero i
union_slot i (x ∷ l) = slot_union (2 ^ x) (union_of l) i ∙ ap₂ (λ a b. a || b) (slot_power x i) (union_slot i l)

-- exist is yes exactly when some pixel of the window has feature f
pub exist_exactly : (p : Picture) (w : Window) (f : ℕ) → (exist_in p w f ≡ true) ↔ PixelWith p w f
unfolding exist_in
exist_exactly p w f = (λ e. scanned_pixel p w (occurs_member f (features_in p w) e), λ x. member_occurs (pixel_scanned p w x))

-- exist asks for one slot of the report
pub exist_report : (p : Picture) (w : Window) (f : ℕ) → exist_in p w f ≡ has_slot (report_in p w) f
unfolding exist_in report_in
exist_report p w f = sym (union_slot f (features_in p w))

-- slot i of the report is set exactly when some pixel of the window has feature i
pub report_exactly : (p : Picture) (w : Window) (i : ℕ) → (has_slot (report_in p w) i ≡ true) ↔ PixelWith p w i
report_exactly p w i =
    (λ e. (exist_exactly p w i).0 (exist_report p w i ∙ e), λ x. sym (exist_report p w i) ∙ (exist_exactly p w i).1 x)
