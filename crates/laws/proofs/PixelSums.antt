-- Sums over pixels: over a run in a row, over rows, and over a block by its quadrants. A rectangle's sum is that of its parts, whether it is cut
-- between rows or between columns; so a block's sum row by row is the sum over its quadrants. Rests on Within.
use Prim.Native.Nat.{ℕ, zero, suc, ◌+◌, ◌*◌, ◌^◌, ◌≤◌, ◌<◌}
use mathlib.Core.Path.{◌≡◌, refl, sym, ◌∙◌, ap, ap₂}
use native.Mathlib.Nat.{add-zero, zero-add, add-suc, suc-add, pow-suc, mul_comm, mul_assoc, mul-mul-mul_comm}
use native.Mathlib.Omega.{arith}
use Rattle.keys.specs.Under.{Every}
use Rattle.laws.proofs.Within.{first_within, every_nw, every_ne, every_sw, every_se}

-- the sum over a run of pixels in a row
unfoldable pub sum_row : (ℕ → ℕ → ℕ) → ℕ → ℕ → ℕ → ℕ
sum_row g row column zero = 0
sum_row g row column (suc width) = g row column + sum_row g row (suc column) width

-- the sum over so many rows
unfoldable pub sum_rows : (ℕ → ℕ → ℕ) → ℕ → ℕ → ℕ → ℕ → ℕ
sum_rows g row column width zero = 0
sum_rows g row column width (suc height) = sum_row g row column width + sum_rows g (suc row) column width height

-- the sum over a block of height k, by its quadrants
unfoldable pub sum_pixels : (ℕ → ℕ → ℕ) → ℕ → ℕ → ℕ → ℕ
sum_pixels g zero row column = g row column
sum_pixels g (suc k) row column =
    sum_pixels g k row column
    + sum_pixels g k row (column + 2 ^ k)
    + (sum_pixels g k (row + 2 ^ k) column + sum_pixels g k (row + 2 ^ k) (column + 2 ^ k))

module _ (g : ℕ → ℕ → ℕ) where
  pub sum_zero : (r c : ℕ) → sum_pixels g zero r c ≡ g r c
  unfolding sum_pixels
  sum_zero r c = refl

  pub sum_suc : (k r c : ℕ)
      → sum_pixels g (suc k) r c
      ≡ sum_pixels g k r c + sum_pixels g k r (c + 2 ^ k) + (sum_pixels g k (r + 2 ^ k) c + sum_pixels g k (r + 2 ^ k) (c + 2 ^ k))
  unfolding sum_pixels
  sum_suc k r c = refl

  row_cut : (r c a b : ℕ) → sum_row g r c (a + b) ≡ sum_row g r c a + sum_row g r (c + a) b
  unfolding sum_row
  row_cut r c zero b = rw (zero-add b, add-zero c) (sym (zero-add _))
  row_cut r c (suc a) b =
      ap (sum_row g r c) (suc-add a b)
      ∙ ap (λ x. g r c + x) (row_cut r (suc c) a b)
      ∙ ap (λ x. g r c + (sum_row g r (suc c) a + sum_row g r x b)) (suc-add c a ∙ sym (add-suc c a))
      ∙ omega arith

  -- cut between columns
  pub columns_cut : (r c a b height : ℕ) → sum_rows g r c (a + b) height ≡ sum_rows g r c a height + sum_rows g r (c + a) b height
  unfolding sum_rows
  columns_cut r c a b zero = refl
  columns_cut r c a b (suc height) = let e = row_cut r c a b in let f = columns_cut (suc r) c a b height in omega arith

  -- cut between rows
  pub rows_cut : (r c width a b : ℕ) → sum_rows g r c width (a + b) ≡ sum_rows g r c width a + sum_rows g (r + a) c width b
  unfolding sum_rows
  rows_cut r c width zero b = rw (zero-add b, add-zero r) (sym (zero-add _))
  rows_cut r c width (suc a) b =
      ap (sum_rows g r c width) (suc-add a b)
      ∙ ap (λ x. sum_row g r c width + x) (rows_cut (suc r) c width a b)
      ∙ ap (λ x. sum_row g r c width + (sum_rows g (suc r) c width a + sum_rows g x c width b)) (suc-add r a ∙ sym (add-suc r a))
      ∙ omega arith

  one_pixel : (r c : ℕ) → sum_rows g r c 1 1 ≡ g r c
  unfolding sum_rows sum_row
  one_pixel r c = omega arith

  four_parts : (r c a : ℕ)
      → sum_rows g r c (a + a) (a + a)
      ≡ sum_rows g r c a a + sum_rows g r (c + a) a a + (sum_rows g (r + a) c a a + sum_rows g (r + a) (c + a) a a)
  four_parts r c a = rows_cut r c (a + a) a a ∙ ap₂ (λ x y. x + y) (columns_cut r c a a a) (columns_cut (r + a) c a a a)

  -- a block's sum row by row is the sum over its quadrants
  pub sum_block : (k r c : ℕ) → sum_rows g r c (2 ^ k) (2 ^ k) ≡ sum_pixels g k r c
  sum_block zero r c = one_pixel r c ∙ sym (sum_zero r c)
  sum_block (suc k) r c =
      let e : 2 ^ suc k ≡ 2 ^ k + 2 ^ k = pow-suc 2 k ∙ omega arith in
      ap (λ x. sum_rows g r c x x) e
      ∙ four_parts r c (2 ^ k)
      ∙ ap₂ (λ x y. x + y)
      (ap₂ (λ x y. x + y) (sum_block k r c) (sum_block k r (c + 2 ^ k)))
      (ap₂ (λ x y. x + y) (sum_block k (r + 2 ^ k) c) (sum_block k (r + 2 ^ k) (c + 2 ^ k)))
      ∙ sym (sum_suc k r c)

pub sum_same_four : {a b c d a' b' c' d' : ℕ} → a ≡ a' → b ≡ b' → c ≡ c' → d ≡ d' → a + b + (c + d) ≡ a' + b' + (c' + d')
sum_same_four e f h i = omega arith

-- a sum depends only on what is added at the block's pixels
pub sum_same : (g h : ℕ → ℕ → ℕ) (k r c : ℕ) → Every (λ a b. g a b ≡ h a b) k r c → sum_pixels g k r c ≡ sum_pixels h k r c
sum_same g h zero r c e = sum_zero g r c ∙ e r c (first_within zero r c) ∙ sym (sum_zero h r c)
sum_same g h (suc k) r c e =
    sum_suc g k r c
    ∙ sum_same_four (sum_same g h k r c (every_nw e))
    (sum_same g h k r (c + 2 ^ k) (every_ne e))
    (sum_same g h k (r + 2 ^ k) c (every_sw e))
    (sum_same g h k (r + 2 ^ k) (c + 2 ^ k) (every_se e))
    ∙ sym (sum_suc h k r c)

-- the same number at every pixel adds up to 4 ^ k times that number
pub sum_constant : (g : ℕ → ℕ → ℕ) (v k r c : ℕ) → Every (λ a b. g a b ≡ v) k r c → sum_pixels g k r c ≡ 4 ^ k * v
sum_constant g v zero r c e = sum_zero g r c ∙ e r c (first_within zero r c) ∙ omega arith
sum_constant g v (suc k) r c e =
    sum_suc g k r c
    ∙ sum_same_four (sum_constant g v k r c (every_nw e))
    (sum_constant g v k r (c + 2 ^ k) (every_ne e))
    (sum_constant g v k (r + 2 ^ k) c (every_sw e))
    (sum_constant g v k (r + 2 ^ k) (c + 2 ^ k) (every_se e))
    ∙ quadruple k v
  where
    quadruple : (j x : ℕ) → 4 ^ j * x + 4 ^ j * x + (4 ^ j * x + 4 ^ j * x) ≡ 4 ^ suc j * x
    quadruple j x = rw (pow-suc 4 j, mul_comm (4 ^ j) 4, mul_assoc 4 (4 ^ j) x) (omega arith)

-- a block's pixels, by its side and by its height
pub squared : (k : ℕ) → 2 ^ k * 2 ^ k ≡ 4 ^ k
squared zero = refl
squared (suc k) =
    ap₂ (λ x y. x * y) (pow-suc 2 k) (pow-suc 2 k) ∙ mul-mul-mul_comm (2 ^ k) 2 (2 ^ k) 2 ∙ ap (λ x. x * (2 * 2)) (squared k) ∙ sym (pow-suc 4 k)

-- a pixel of a rectangle
pub record InPart (row column width height a b : ℕ) : Type 0 where
  pub from_row : row ≤ a
  pub to_row : a < row + height
  pub from_column : column ≤ b
  pub to_column : b < column + width

row_same : (g h : ℕ → ℕ → ℕ) (r c width : ℕ) → ((b : ℕ) → c ≤ b → b < c + width → g r b ≡ h r b) → sum_row g r c width ≡ sum_row h r c width
unfolding sum_row
row_same g h r c zero e = refl
row_same g h r c (suc width) e =
    ap₂ (λ x y. x + y) (e c (omega arith) (omega arith)) (row_same g h r (suc c) width (λ b i j. e b (omega arith) (omega arith)))

-- a rectangle's sum depends only on what is added at its pixels
pub rows_same : (g h : ℕ → ℕ → ℕ) (r c width height : ℕ) → ((a b : ℕ) → InPart r c width height a b → g a b ≡ h a b)
    → sum_rows g r c width height ≡ sum_rows h r c width height
unfolding sum_rows
rows_same g h r c width zero e = refl
rows_same g h r c width (suc height) e =
    ap₂ (λ x y. x + y)
    (row_same g h r c width (λ b i j. e r b (record { from_row = omega arith; to_row = omega arith; from_column = i; to_column = j })))
    (rows_same g h (suc r) c width height
    (λ a b i. e a b (record { from_row = omega arith; to_row = omega arith; from_column = i.from_column; to_column = i.to_column })))

nothing_row : (r c width : ℕ) → sum_row (λ a b. 0) r c width ≡ 0
unfolding sum_row
nothing_row r c zero = refl
nothing_row r c (suc width) = let e = nothing_row r (suc c) width in omega arith

nothing_rows : (r c width height : ℕ) → sum_rows (λ a b. 0) r c width height ≡ 0
unfolding sum_rows
nothing_rows r c width zero = refl
nothing_rows r c width (suc height) = let e = nothing_row r c width in let f = nothing_rows (suc r) c width height in omega arith

-- where nothing is added, the sum is 0
pub rows_nothing : (g : ℕ → ℕ → ℕ) (r c width height : ℕ) → ((a b : ℕ) → InPart r c width height a b → g a b ≡ 0) → sum_rows g r c width height ≡ 0
rows_nothing g r c width height e = rows_same g (λ a b. 0) r c width height e ∙ nothing_rows r c width height

-- where nothing is added outside a rectangle, the sum over a larger one is the rectangle's
pub rows_inside : (g : ℕ → ℕ → ℕ) (r c width height right down : ℕ)
    → ((a b : ℕ) → (InPart r c width height a b → ⊥) → g a b ≡ 0)
    → sum_rows g 0 0 (c + (width + right)) (r + (height + down)) ≡ sum_rows g r c width height
rows_inside g r c width height right down e =
    let all = rows_cut g 0 0 (c + (width + right)) r (height + down) in
    let lower = rows_cut g (0 + r) 0 (c + (width + right)) height down in
    let middle = columns_cut g (0 + r) 0 c (width + right) height in
    let later = columns_cut g (0 + r) (0 + c) width right height in
    let a = rows_nothing g 0 0 (c + (width + right)) r (λ x y i. e x y (λ j. omega (arith, i.to_row, j.from_row))) in
    let b = rows_nothing g (0 + r + height) 0 (c + (width + right)) down (λ x y i. e x y (λ j. omega (arith, i.from_row, j.to_row))) in
    let d = rows_nothing g (0 + r) 0 c height (λ x y i. e x y (λ j. omega (arith, i.to_column, j.from_column))) in
    let f = rows_nothing g (0 + r) (0 + c + width) right height (λ x y i. e x y (λ j. omega (arith, i.from_column, j.to_column))) in
    let same : sum_rows g (0 + r) (0 + c) width height ≡ sum_rows g r c width height = rw (zero-add r, zero-add c) in
    omega arith
