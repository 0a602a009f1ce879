-- The blocks of all sheets, one sheet's after the other's: which blocks they are, how many, that they ascend, so that each is there once, and which pixels they
-- have. Rests on Below and AscendingKeys.
use Prim.Native.Nat.{ℕ, zero, suc, ◌+◌, ◌*◌, ◌^◌, ◌<◌}
use mathlib.Core.Path.{◌≡◌, refl, sym, ap, ap₂, subst, ◌∙◌}
use mathlib.Core.Logic.{◌↔◌, ⊎_elim}
use mathlib.Core.Bool.{true, true≢false}
use mathlib.Core.List.{List, [], ◌∷◌, ◌++◌, map, Memᴰ}
use native.Mathlib.Nat.{suc-mul, add-zero, add-suc}
use native.Mathlib.Omega.{arith}
use lib.ListN.{length, length-append, length-map}
use Rattle.keys.proofs.Cases.{equal, or_either, or_left, or_right}
use Rattle.definitions.specs.Area.{sum_below}
use Rattle.laws.proofs.AscendingKeys.{AscendingKeys, no_key, key, keys-append}
use Rattle.sheets.specs.Ground.{Ground, sheets_for}
use Rattle.sheets.specs.Together.{SheetBlock, blocks_on, list_below, list_sheets, sum_sheets, block_number, in_sheet_block, in_sheet_blocks}
use Rattle.sheets.proofs.Below.{sum_below_same}

-- a number below n whose list has the block
record InOne (of : ℕ → List SheetBlock) (n : ℕ) (b : SheetBlock) : Type 0 where
  at : ℕ
  below : at < n
  member : Memᴰ b (of at)

in_one : (of : ℕ → List SheetBlock) (n : ℕ) (b : SheetBlock) → Memᴰ b (list_below of n) → InOne of n b
unfolding list_below
in_one of zero b h = absurd (mathlib.Core.List.Memᴰ.not-nil h)
in_one of (suc n) b h =
    ⊎_elim
    (λ (i : Memᴰ b (list_below of n)). let x = in_one of n b i in record { at = x.at; below = omega arith; member = x.member })
    (λ (i : Memᴰ b (of n)). record { at = n; below = omega arith; member = i })
    (mathlib.Core.List.Memᴰ.append_cases (list_below of n) h)

of_one : (of : ℕ → List SheetBlock) (n k : ℕ) (b : SheetBlock) → k < n → Memᴰ b (of k) → Memᴰ b (list_below of n)
unfolding list_below
of_one of zero k b h i = absurd (omega arith)
of_one of (suc n) k b h i =
    equal k n
    (λ same. mathlib.Core.List.Memᴰ.append_right (list_below of n) (subst (λ x. Memᴰ b (of x)) same i))
    (λ other. mathlib.Core.List.Memᴰ.append_left (of n) (of_one of n k b (omega arith) i))

-- a block of one sheet
record OnOne (i j : ℕ) (keys : List ℕ) (b : SheetBlock) : Type 0 where
  down : b.down ≡ i
  across : b.across ≡ j
  member : Memᴰ b.key keys

on_one : (i j : ℕ) (keys : List ℕ) (b : SheetBlock) → Memᴰ b (blocks_on i j keys) → OnOne i j keys b
on_one i j [] b h = absurd (mathlib.Core.List.Memᴰ.not-nil h)
on_one i j (κ ∷ keys) b (mathlib.Core.List.Memᴰ.head e) = record { down = ap (λ x. x.down) e; across = ap (λ x. x.across) e; member = mathlib.Core.List.Memᴰ.head (ap (λ x. x.key) e) }
on_one i j (κ ∷ keys) b (mathlib.Core.List.Memᴰ.tail h) = let x = on_one i j keys b h in record { down = x.down; across = x.across; member = mathlib.Core.List.Memᴰ.tail x.member }

one_on : (keys : List ℕ) (b : SheetBlock) → Memᴰ b.key keys → Memᴰ b (blocks_on b.down b.across keys)
one_on [] b h = absurd (mathlib.Core.List.Memᴰ.not-nil h)
one_on (κ ∷ keys) b (mathlib.Core.List.Memᴰ.head e) = mathlib.Core.List.Memᴰ.head (λ i. record { down = b.down; across = b.across; key = e i })
one_on (κ ∷ keys) b (mathlib.Core.List.Memᴰ.tail h) = mathlib.Core.List.Memᴰ.tail (one_on keys b h)

module _ (m : ℕ) (g : Ground) (of : ℕ → ℕ → List ℕ) where
  -- a block of a sheet of the ground, with one of that sheet's keys
  pub record FromSheet (b : SheetBlock) : Type 0 where
    pub down_below : b.down < sheets_for m g.rows
    pub across_below : b.across < sheets_for m g.columns
    pub member : Memᴰ b.key (of b.down b.across)

  abbrev blocks : List SheetBlock
  blocks = list_sheets m g (λ i j. blocks_on i j (of i j))

  from_sheet : (b : SheetBlock) → Memᴰ b blocks → FromSheet b
  from_sheet b h =
      let i = in_one _ (sheets_for m g.rows) b h in
      let j = in_one _ (sheets_for m g.columns) b i.member in
      let x = on_one i.at j.at (of i.at j.at) b j.member in
      record {
        down_below = subst (λ k. k < sheets_for m g.rows) (sym x.down) i.below;
        across_below = subst (λ k. k < sheets_for m g.columns) (sym x.across) j.below;
        member = subst (λ l. Memᴰ b.key l) (ap₂ of (sym x.down) (sym x.across)) x.member;
      }

  to_list : (b : SheetBlock) → FromSheet b → Memᴰ b blocks
  to_list b x =
      of_one _ (sheets_for m g.rows) b.down b x.down_below
      (of_one _ (sheets_for m g.columns) b.across b x.across_below (one_on (of b.down b.across) b x.member))

  -- the blocks are those of the sheets, and no others
  pub blocks_exactly : (b : SheetBlock) → Memᴰ b (list_sheets m g (λ i j. blocks_on i j (of i j))) ↔ FromSheet b
  blocks_exactly b = (from_sheet b, to_list b)

length-below : (of : ℕ → List SheetBlock) (n : ℕ) → length (list_below of n) ≡ sum_below (λ k. length (of k)) n
unfolding list_below sum_below
length-below of zero = refl
length-below of (suc n) = length-append (list_below of n) (of n) ∙ ap (λ x. x + length (of n)) (length-below of n)

-- they are as many as the sheets have together
pub blocks-length : (m : ℕ) (g : Ground) (of : ℕ → ℕ → List ℕ)
    → length (list_sheets m g (λ i j. blocks_on i j (of i j))) ≡ sum_sheets m g (λ i j. length (of i j))
blocks-length m g of =
    length-below _ (sheets_for m g.rows)
    ∙ sum_below_same _ _ (sheets_for m g.rows) (λ i _.
    length-below _ (sheets_for m g.columns)
    ∙ sum_below_same _ _ (sheets_for m g.columns) (λ j _. length-map (of i j) _))

map-append : (of : SheetBlock → ℕ) (xs ys : List SheetBlock) → map of (xs ++ ys) ≡ map of xs ++ map of ys
map-append of [] ys = refl
map-append of (x ∷ xs) ys = ap (λ l. of x ∷ l) (map-append of xs ys)

module _ (m : ℕ) (g : Ground) (of : ℕ → ℕ → List ℕ) (ascend : (i j : ℕ) → AscendingKeys 0 (0 + 5 ^ m) (of i j)) where
  abbrev number : SheetBlock → ℕ
  number = block_number m g

  abbrev width : ℕ
  width = sheets_for m g.columns

  -- the place before sheet (i, j)
  abbrev before : ℕ → ℕ → ℕ
  before i j = (i * width + j) * 5 ^ m

  on_ascends : (i j : ℕ) {lo hi : ℕ} {keys : List ℕ} → AscendingKeys lo hi keys → AscendingKeys (before i j + lo) (before i j + hi) (map number (blocks_on i j keys))
  unfolding block_number
  on_ascends i j (no_key {lo} {hi} h) = no_key {lo = before i j + lo} {hi = before i j + hi} (omega arith)
  on_ascends i j {lo} {hi} (key {x = x} {l = l} h t) =
      key {lo = before i j + lo} {x = before i j + x} (omega arith)
      (subst (λ a. AscendingKeys a (before i j + hi) (map number (blocks_on i j l))) (add-suc (before i j) x) (on_ascends i j t))

  -- the blocks of a row of sheets
  row_ascends : (i n : ℕ) → AscendingKeys (before i 0) (before i n) (map number (list_below (λ j. blocks_on i j (of i j)) n))
  unfolding list_below
  row_ascends i zero = no_key {lo = before i 0} {hi = before i 0} (omega arith)
  row_ascends i (suc n) =
      let next : before i n + (0 + 5 ^ m) ≡ before i (suc n) =
      (let e = suc-mul (i * width + n) (5 ^ m) in let f = ap (λ x. x * 5 ^ m) (add-suc (i * width) n) in omega arith) in
      subst (λ l. AscendingKeys (before i 0) (before i (suc n)) l) (sym (map-append number (list_below (λ j. blocks_on i j (of i j)) n) (blocks_on i n (of i n))))
      (keys-append (row_ascends i n)
      (subst (λ a. AscendingKeys a (before i (suc n)) (map number (blocks_on i n (of i n)))) (add-zero (before i n))
      (subst (λ b. AscendingKeys (before i n + 0) b (map number (blocks_on i n (of i n)))) next (on_ascends i n (ascend i n)))))

  rows_ascend : (n : ℕ) → AscendingKeys 0 (n * width * 5 ^ m) (map number (list_below (λ i. list_below (λ j. blocks_on i j (of i j)) width) n))
  unfolding list_below
  rows_ascend zero = no_key {lo = 0} {hi = 0 * width * 5 ^ m} (omega arith)
  rows_ascend (suc n) =
      let from : before n 0 ≡ n * width * 5 ^ m = ap (λ x. x * 5 ^ m) (add-zero (n * width)) in
      let to : before n width ≡ suc n * width * 5 ^ m = ap (λ x. x * 5 ^ m) (sym (suc-mul n width)) in
      subst (λ l. AscendingKeys 0 (suc n * width * 5 ^ m) l)
      (sym (map-append number (list_below (λ i. list_below (λ j. blocks_on i j (of i j)) width) n) (list_below (λ j. blocks_on n j (of n j)) width)))
      (keys-append (rows_ascend n)
      (subst (λ a. AscendingKeys a (suc n * width * 5 ^ m) (map number (list_below (λ j. blocks_on n j (of n j)) width))) from
      (subst (λ b. AscendingKeys (before n 0) b (map number (list_below (λ j. blocks_on n j (of n j)) width))) to (row_ascends n width))))

  -- the blocks ascend: the sheets come row after row, and the keys of a sheet in order, so each block is there once
  pub blocks_ascend : AscendingKeys 0 (sheets_for m g.rows * sheets_for m g.columns * 5 ^ m) (map (block_number m g) (list_sheets m g (λ i j. blocks_on i j (of i j))))
  blocks_ascend = rows_ascend (sheets_for m g.rows)

-- a block that has the pixel
pub record HasPixel (m : ℕ) (blocks : List SheetBlock) (row column : ℕ) : Type 0 where
  pub block : SheetBlock
  pub member : Memᴰ block blocks
  pub has : in_sheet_block m block row column ≡ true

pub has_pixel : (m : ℕ) (blocks : List SheetBlock) (row column : ℕ) → in_sheet_blocks m blocks row column ≡ true → HasPixel m blocks row column
unfolding in_sheet_blocks
has_pixel m [] row column e = absurd (true≢false (sym e))
has_pixel m (b ∷ blocks) row column e =
    ⊎_elim
    (λ (h : in_sheet_block m b row column ≡ true). record { block = b; member = mathlib.Core.List.Memᴰ.head refl; has = h })
    (λ (h : in_sheet_blocks m blocks row column ≡ true).
    let x = has_pixel m blocks row column h in record { block = x.block; member = mathlib.Core.List.Memᴰ.tail x.member; has = x.has })
    (or_either (in_sheet_block m b row column) (in_sheet_blocks m blocks row column) e)

pub pixel_has : (m row column : ℕ) {b : SheetBlock} {blocks : List SheetBlock} → Memᴰ b blocks → in_sheet_block m b row column ≡ true
    → in_sheet_blocks m blocks row column ≡ true
unfolding in_sheet_blocks
pixel_has m row column (mathlib.Core.List.Memᴰ.head {x} {xs} e) h =
    or_left (in_sheet_block m x row column) (in_sheet_blocks m xs row column) (ap (λ y. in_sheet_block m y row column) (sym e) ∙ h)
pixel_has m row column (mathlib.Core.List.Memᴰ.tail {x} {xs} i) h = or_right (in_sheet_block m x row column) (in_sheet_blocks m xs row column) (pixel_has m row column i h)
