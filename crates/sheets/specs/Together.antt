-- What the sheets answer, put together: some sheet says yes, the union of the reports, the sum of the areas, the blocks of one sheet after the other's; at the
-- level of pictures. Rests on Ground.
use Rattle.std.specs.Prelude.{ℕ, zero, suc, ◌+◌, ◌-◌, ◌*◌, ◌^◌, Bool, false, ◌&&◌, ◌||◌, List, [], ◌∷◌, ◌++◌, map, leb}
use Rattle.std.specs.Int.Bits.{bit_or}
use Rattle.keys.specs.Block.{in_block}
use Rattle.definitions.specs.Window.{exist_in, report_in, select_in}
use Rattle.definitions.specs.Area.{area_in, sum_below}
use Rattle.definitions.specs.declared.Window.{Window}
use Rattle.sheets.specs.Ground.{Ground, sheets_for, first_line, sheet_picture, sheet_window}

-- some number below n passes
unfoldable pub some_below : (ℕ → Bool) → ℕ → Bool
some_below test zero = false
some_below test (suc n) = some_below test n || test n

-- the union of what a function gives for the numbers below n
unfoldable pub union_below : (ℕ → ℕ) → ℕ → ℕ
union_below of zero = 0
union_below of (suc n) = bit_or (union_below of n) (of n)

-- a block that a sheet gives
pub record SheetBlock : Type 0 where
  pub down : ℕ
  pub across : ℕ
  pub key : ℕ

-- the blocks with these keys on sheet (i, j)
abbrev pub blocks_on : (i j : ℕ) (keys : List ℕ) → List SheetBlock
blocks_on i j keys = map (λ κ. record { down = i; across = j; key = κ }) keys

-- one list after the other, for the numbers below n
unfoldable pub list_below : (ℕ → List SheetBlock) → ℕ → List SheetBlock
list_below of zero = []
list_below of (suc n) = list_below of n ++ of n

-- over all sheets of the ground, row after row of sheets
module _ (m : ℕ) (g : Ground) where
  abbrev pub some_sheet : (ℕ → ℕ → Bool) → Bool
  some_sheet test = some_below (λ i. some_below (test i) (sheets_for m g.columns)) (sheets_for m g.rows)

  abbrev pub union_sheets : (ℕ → ℕ → ℕ) → ℕ
  union_sheets of = union_below (λ i. union_below (of i) (sheets_for m g.columns)) (sheets_for m g.rows)

  abbrev pub sum_sheets : (ℕ → ℕ → ℕ) → ℕ
  sum_sheets of = sum_below (λ i. sum_below (of i) (sheets_for m g.columns)) (sheets_for m g.rows)

  abbrev pub list_sheets : (ℕ → ℕ → List SheetBlock) → List SheetBlock
  list_sheets of = list_below (λ i. list_below (of i) (sheets_for m g.columns)) (sheets_for m g.rows)

  -- where a block stands in the order of the ground: the sheets row after row, and the keys of a sheet in order
  unfoldable pub block_number : (b : SheetBlock) → ℕ
  block_number b = (b.down * sheets_for m g.columns + b.across) * 5 ^ m + b.key

-- a pixel of the ground lies in the block
unfoldable pub in_sheet_block : (m : ℕ) (b : SheetBlock) (row column : ℕ) → Bool
in_sheet_block m b row column =
    leb (first_line m b.down) row
    && leb (first_line m b.across) column
    && in_block m b.key (row - first_line m b.down) (column - first_line m b.across)

-- it lies in one of the blocks
unfoldable pub in_sheet_blocks : (m : ℕ) (blocks : List SheetBlock) (row column : ℕ) → Bool
in_sheet_blocks m [] row column = false
in_sheet_blocks m (b ∷ blocks) row column = in_sheet_block m b row column || in_sheet_blocks m blocks row column

module _ (m : ℕ) (g : Ground) (filler : ℕ) (w : Window) where
  unfoldable pub exist_sheets : (f : ℕ) → Bool
  exist_sheets f = some_sheet m g (λ i j. exist_in (sheet_picture m g filler i j) (sheet_window m w i j) f)

  unfoldable pub report_sheets : ℕ
  report_sheets = union_sheets m g (λ i j. report_in (sheet_picture m g filler i j) (sheet_window m w i j))

  unfoldable pub area_sheets : (f : ℕ) → ℕ
  area_sheets f = sum_sheets m g (λ i j. area_in (sheet_picture m g filler i j) (sheet_window m w i j) f)

  -- the blocks that select gives, sheet after sheet
  unfoldable pub select_sheets : (f : ℕ) → List SheetBlock
  select_sheets f = list_sheets m g (λ i j. blocks_on i j (select_in m (sheet_picture m g filler i j) (sheet_window m w i j) f))
