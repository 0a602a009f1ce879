-- Select on the sheets: which blocks are given, in what order and how many; and a pixel of the ground lies in one of them exactly when it lies in the ground's
-- window and has the feature. Rests on SheetExist, BlockLists and on what select means.
use Prim.Native.Nat.{ℕ, zero, suc, ◌+◌, ◌-◌, ◌*◌, ◌^◌, ◌<◌}
use mathlib.Core.Path.{◌≡◌, refl, sym, ap₂, ◌∙◌}
use mathlib.Core.Logic.{◌↔◌}
use mathlib.Core.Bool.{Bool, true, ◌&&◌}
use mathlib.Core.List.{List, map, Memᴰ}
use native.Mathlib.Omega.{arith}
use lib.ListN.{length}
use lib.Dec.{leb, eqb}
use borrow.Author.Tests.{leb-true, le-leb, eqb-true, eq-eqb}
use Rattle.keys.specs.Block.{in_block}
use Rattle.keys.specs.Under.{here, nw, ne, sw, se, MapBlock, is_nw, is_ne, is_sw, is_se, InSquare}
use Rattle.keys.proofs.Cases.{decide, and_left, and_right, and_both, same_test}
use Rattle.keys.proofs.Under.{under_trans}
use Rattle.keys.proofs.InBlock.{in_block_iff, in_raster}
use Rattle.definitions.specs.Picture.{Picture, every_pixel}
use Rattle.definitions.specs.Window.{in_window, is_given, select_from, select_in}
use Rattle.definitions.specs.declared.Window.{Window}
use Rattle.laws.proofs.Within.{within-cases, pixel_row, pixel_column}
use Rattle.laws.proofs.Pixels.{every_same}
use Rattle.laws.proofs.AscendingKeys.{AscendingKeys}
use Rattle.laws.proofs.SelectAscends.{select_in_ascends}
use Rattle.laws.proofs.SelectMeans.{given_inside, given_feature, given_of, select_given, select_over, select_in_exactly}
use Rattle.sheets.specs.Ground.{Ground, inside_ground, sheets_for, first_line, cut_at, seen_from, sheet_picture, sheet_window}
use Rattle.sheets.specs.Together.{SheetBlock, sum_sheets, block_number, in_sheet_block, in_sheet_blocks, select_sheets}
use Rattle.sheets.proofs.BlockLists.{FromSheet, blocks_exactly, blocks-length, blocks_ascend, HasPixel, has_pixel, pixel_has}
use Rattle.sheets.proofs.SheetPixels.{seen_to, no_filler, has_same}
use Rattle.sheets.proofs.SheetExist.{FoundOn, found_on}

-- a block of the list that has the pixel
record Among (m : ℕ) (blocks : List ℕ) (row column : ℕ) : Type 0 where
  key : ℕ
  member : Memᴰ key blocks
  has : in_block m key row column ≡ true

-- a pixel of the raster that is in the window and has the feature
record Has (m : ℕ) (p : Picture) (w : Window) (f row column : ℕ) : Type 0 where
  inside : in_window w row column ≡ true
  feature : p row column ≡ f
  low : row < 2 ^ m
  narrow : column < 2 ^ m

module _ (m : ℕ) (p : Picture) (w : Window) (f row column : ℕ) where
  -- a pixel of a block that select gives
  selected_has : Among m (select_in m p w f) row column → Has m p w f row column
  selected_has x =
      let y = (select_in_exactly p w f m).0 x.member in
      let i = (in_block_iff row column y.under).0 x.has in
      let b = in_raster y.under i in
      record {
        inside = given_inside p w f y.height y.row y.column y.given i;
        feature = given_feature p w f y.height y.row y.column y.given i;
        low = b.0;
        narrow = b.1;
      }

  module _ (inside : in_window w row column ≡ true) (feature : p row column ≡ f) where
    given_itself : {k r c κ : ℕ} → MapBlock m k r c κ → InSquare k r c row column → is_given p w f k r c ≡ true → Among m (select_from p w f k r c κ) row column
    given_itself {k} {r} {c} {κ} b i e = record {
      key = κ;
      member = rw (select_given p w f k r c κ e) (Memᴰ.head refl);
      has = (in_block_iff row column b).1 i;
    }

    given_pixel : {r c : ℕ} → InSquare zero r c row column → is_given p w f zero r c ≡ true
    given_pixel {r} {c} i =
        given_of p w f zero r c (λ a b j.
        let x : a ≡ row = pixel_row j ∙ sym (pixel_row i) in
        let y : b ≡ column = pixel_column j ∙ sym (pixel_column i) in
        (ap₂ (in_window w) x y ∙ inside, ap₂ p x y ∙ feature))

    -- a given block around the pixel at or under a block of the map
    given_around : (k : ℕ) {r c κ : ℕ} → MapBlock m k r c κ → InSquare k r c row column → Among m (select_from p w f k r c κ) row column
    given_around zero b i = given_itself b i (given_pixel i)
    given_around (suc k) {r} {c} {κ} b i =
        decide (is_given p w f (suc k) r c)
        (λ e. given_itself b i e)
        (λ e. within-cases i
        (λ q. let x = given_around k (under_trans b (nw here)) q in record { key = x.key; member = select_over p w f e is_nw x.member; has = x.has })
        (λ q. let x = given_around k (under_trans b (ne here)) q in record { key = x.key; member = select_over p w f e is_ne x.member; has = x.has })
        (λ q. let x = given_around k (under_trans b (sw here)) q in record { key = x.key; member = select_over p w f e is_sw x.member; has = x.has })
        (λ q. let x = given_around k (under_trans b (se here)) q in record { key = x.key; member = select_over p w f e is_se x.member; has = x.has }))

    -- and a given block around a pixel of the raster
    has_selected : row < 2 ^ m → column < 2 ^ m → Among m (select_in m p w f) row column
    unfolding select_in
    has_selected low narrow = given_around m here (omega arith)

module _ (m : ℕ) (g : Ground) (filler : ℕ) (w : Window) (f : ℕ) where
  -- what select gives on sheet (i, j)
  abbrev given : ℕ → ℕ → List ℕ
  given i j = select_in m (sheet_picture m g filler i j) (sheet_window m w i j) f

  -- a block is given exactly when it is given on its sheet
  pub select_members : (b : SheetBlock)
      → Memᴰ b (select_sheets m g filler w f) ↔ FromSheet m g (λ i j. select_in m (sheet_picture m g filler i j) (sheet_window m w i j) f) b
  unfolding select_sheets
  select_members b = blocks_exactly m g given b

  -- the sheets come row after row, the blocks of a sheet in key order, and each block once
  pub select_order : AscendingKeys 0 (sheets_for m g.rows * sheets_for m g.columns * 5 ^ m) (map (block_number m g) (select_sheets m g filler w f))
  unfolding select_sheets
  select_order = blocks_ascend m g given (λ i j. select_in_ascends m (sheet_picture m g filler i j) (sheet_window m w i j) f)

  -- there are as many as the sheets give together
  pub select_count : length (select_sheets m g filler w f) ≡ sum_sheets m g (λ i j. length (select_in m (sheet_picture m g filler i j) (sheet_window m w i j) f))
  unfolding select_sheets
  select_count = blocks-length m g given

  -- what a sheet gives, by the ground's own pixels: every pixel of the block lies in the ground's window and has the feature
  pub given_ground : inside_ground g w ≡ true → (top left : ℕ) {k r c κ : ℕ} → MapBlock m k r c κ
      → is_given (cut_at g filler top left) (seen_from m w top left) f k r c
      ≡ every_pixel (λ a b. in_window w (top + a) (left + b) && eqb (g.picture (top + a) (left + b)) f) k r c
  unfolding is_given
  given_ground lies top left {k} {r} {c} b =
      every_same _ _ k r c (λ a d i. let x = in_raster b i in has_same g filler top left w lies m a d f x.0 x.1)

  module _ (lies : inside_ground g w ≡ true) (row column : ℕ) where
    -- a pixel in a block that a sheet gives
    from_block : (b : SheetBlock) → FromSheet m g given b → in_sheet_block m b row column ≡ true → in_window w row column && eqb (g.picture row column) f ≡ true
    unfolding in_sheet_block
    from_block b y e =
        let top : ℕ = first_line m b.down in
        let left : ℕ = first_line m b.across in
        let edges : Bool = leb top row && leb left column in
        let inner : Bool = in_block m b.key (row - top) (column - left) in
        let both = and_left edges inner e in
        let a = leb-true top row (and_left (leb top row) (leb left column) both) in
        let c = leb-true left column (and_right (leb top row) (leb left column) both) in
        let x = selected_has m (cut_at g filler top left) (seen_from m w top left) f (row - top) (column - left)
        (record { key = b.key; member = y.member; has = and_right edges inner e }) in
        let r : top + (row - top) ≡ row = omega arith in
        let k : left + (column - left) ≡ column = omega arith in
        and_both (in_window w row column) (eqb (g.picture row column) f)
        (sym (ap₂ (in_window w) r k) ∙ (seen_to m w top left (row - top) (column - left) x.inside).inside)
        (eq-eqb (g.picture row column) f
        (sym (ap₂ g.picture r k) ∙ sym (no_filler g filler top left w lies m (row - top) (column - left) x.inside) ∙ x.feature))

    -- and the other way, on the sheet where the pixel lies
    to_block : FoundOn m g w row column → g.picture row column ≡ f → HasPixel m (select_sheets m g filler w f) row column
    unfolding in_sheet_block
    to_block x e =
        let top : ℕ = first_line m x.down.sheet in
        let left : ℕ = first_line m x.across.sheet in
        let d = x.down.is in
        let a = x.across.is in
        let r : row - top ≡ x.down.place = omega arith in
        let c : column - left ≡ x.across.place = omega arith in
        let y = has_selected m (cut_at g filler top left) (seen_from m w top left) f x.down.place x.across.place x.inside
        (no_filler g filler top left w lies m x.down.place x.across.place x.inside ∙ ap₂ g.picture d a ∙ e)
        x.down.place-below x.across.place-below in
        let b : SheetBlock = record { down = x.down.sheet; across = x.across.sheet; key = y.key } in
        record {
          block = b;
          member = (select_members b).1 (record { down_below = x.down.sheet_below; across_below = x.across.sheet_below; member = y.member });
          has = and_both (leb top row && leb left column) (in_block m y.key (row - top) (column - left))
              (and_both (leb top row) (leb left column) (le-leb top row (omega arith)) (le-leb left column (omega arith)))
              (ap₂ (in_block m y.key) r c ∙ y.has);
        }

    -- a pixel lies in a block that some sheet gives exactly when it lies in the ground's window and has the feature
    pub select-sheets : in_sheet_blocks m (select_sheets m g filler w f) row column ≡ in_window w row column && eqb (g.picture row column) f
    select-sheets =
        same_test _ _
        (λ e. let x = has_pixel m (select_sheets m g filler w f) row column e in from_block x.block ((select_members x.block).0 x.member) x.has)
        (λ e.
        let found = found_on m g w lies row column (and_left (in_window w row column) (eqb (g.picture row column) f) e) in
        let x = to_block found (eqb-true (g.picture row column) f (and_right (in_window w row column) (eqb (g.picture row column) f) e)) in
        pixel_has m row column x.member x.has)
