-- What a block adds to an area: nothing where it lies apart from the window or lacks the feature, the overlap where it has the feature alone, and its
-- own count where it lies within the window. Rests on the sums over rows and the walk's laws.
use Prim.Native.Nat.{ℕ, zero, suc, ◌+◌, ◌-◌, ◌*◌, ◌^◌, ◌≤◌, ◌<◌}
use mathlib.Core.Path.{◌≡◌, sym, ◌∙◌, ap, ap₂}
use mathlib.Core.Bool.{true, false, cond, ◌&&◌}
use native.Mathlib.Nat.{suc-mul, zero-mul, mul-zero, mul-one}
use native.Mathlib.Omega.{arith}
use lib.Dec.{eqb}
use borrow.Author.Tests.{eq-eqb, ne_eqb}
use Rattle.keys.proofs.Cases.{decide}
use Rattle.keys.specs.Under.{InSquare}
use Rattle.definitions.specs.Picture.{Picture}
use Rattle.definitions.specs.Bits.{has_slot}
use Rattle.definitions.specs.Window.{in_window}
use Rattle.definitions.specs.Area.{pixels_with}
use Rattle.definitions.specs.declared.Window.{Window}
use Rattle.laws.proofs.WindowScan.{inside_window, window_inside}
use Rattle.laws.proofs.PixelSums.{sum_row, sum_rows, sum_pixels, sum_block, sum_same, InPart, rows_same, rows_cut, columns_cut}
use Rattle.laws.proofs.CountOf.{one_at, pixels_sum}
use Rattle.laws.proofs.AreaOf.{one_inside}
use Rattle.walk.specs.Walk.{BlockSpot, is_apart, is_within}
use Rattle.walk.specs.declared.Spot.{Spot}
use Rattle.walk.proofs.Lies.{InSpot, not_apart, apart_pixel, within_pixel}
use Rattle.walk.proofs.SpotBits.{bits_at, no_slot_pixel, whole_pixel}
use Rattle.area.specs.Overlap.{common, overlap_of}
use Rattle.area.proofs.SumUnder.{sum_nothing}

row_of : (v r c width : ℕ) → sum_row (λ a b. v) r c width ≡ width * v
unfolding sum_row
row_of v r c zero = sym (zero-mul v)
row_of v r c (suc width) = let e = row_of v r (suc c) width in let g = suc-mul width v in omega arith

-- a rectangle with the same number at every pixel
rows_of : (v r c width height : ℕ) → sum_rows (λ a b. v) r c width height ≡ height * (width * v)
unfolding sum_rows
rows_of v r c width zero = sym (zero-mul (width * v))
rows_of v r c width (suc height) =
    let e = row_of v r c width in
    let f = rows_of v (suc r) c width height in
    let g = suc-mul height (width * v) in
    omega arith

-- a rectangle in which the pixels of a smaller one add 1 each and the others nothing
module _
    (g : ℕ → ℕ → ℕ)
    (r c up left width height right down : ℕ)
    (one : (a b : ℕ) → InPart (r + up) (c + left) width height a b → g a b ≡ 1)
    (none : (a b : ℕ) → InPart r c (left + (width + right)) (up + (height + down)) a b → (InPart (r + up) (c + left) width height a b → ⊥) → g a b ≡ 0)
  where
    nothing : (r' c' width' height' : ℕ)
        → ((a b : ℕ) → InPart r' c' width' height' a b → InPart r c (left + (width + right)) (up + (height + down)) a b)
        → ((a b : ℕ) → InPart r' c' width' height' a b → InPart (r + up) (c + left) width height a b → ⊥)
        → sum_rows g r' c' width' height' ≡ 0
    nothing r' c' width' height' within out =
        rows_same g (λ a b. 0) r' c' width' height' (λ a b i. none a b (within a b i) (out a b i))
        ∙ rows_of 0 r' c' width' height'
        ∙ ap (λ x. height' * x) (mul-zero width')
        ∙ mul-zero height'

    pub part_ones : sum_rows g r c (left + (width + right)) (up + (height + down)) ≡ height * width
    part_ones =
        let all = rows_cut g r c (left + (width + right)) up (height + down) in
        let lower = rows_cut g (r + up) c (left + (width + right)) height down in
        let middle = columns_cut g (r + up) c left (width + right) height in
        let later = columns_cut g (r + up) (c + left) width right height in
        let above = nothing r c (left + (width + right)) up (λ a b i. omega arith) (λ a b i j. omega arith) in
        let below = nothing (r + up + height) c (left + (width + right)) down (λ a b i. omega arith) (λ a b i j. omega arith) in
        let before = nothing (r + up) c left height (λ a b i. omega arith) (λ a b i j. omega arith) in
        let after = nothing (r + up) (c + left + width) right height (λ a b i. omega arith) (λ a b i j. omega arith) in
        let mine = rows_same g (λ a b. 1) (r + up) (c + left) width height one ∙ rows_of 1 (r + up) (c + left) width height ∙ ap (λ x. height * x) (mul-one width) in
        omega arith

-- a run and its part in common with another: what is before it, and after
abbrev before : ℕ → ℕ → ℕ
before first start = start - first

abbrev after : (first side start length : ℕ) → ℕ
after first side start length = first + side - (start + length)

run_cut : (first side start length : ℕ) → start < first + side → first < start + length
    → before first start + (common first side start length + after first side start length) ≡ side
run_cut first side start length low high = omega arith

-- a number of a run
record InRun (start length a : ℕ) : Type 0 where
  from : start ≤ a
  until : a < start + length

module _ (first side start length : ℕ) where
  -- what both have is what lies in both
  common_first : (a : ℕ) → InRun (first + before first start) (common first side start length) a → InRun first side a
  common_first a i = omega arith

  common_second : (a : ℕ) → InRun (first + before first start) (common first side start length) a → InRun start length a
  common_second a i = omega arith

  in_common : (a : ℕ) → InRun first side a → InRun start length a → InRun (first + before first start) (common first side start length) a
  in_common a i j = omega arith

module _ (p : Picture) (w : Window) (f : ℕ) {m : ℕ} {s : Spot} (h : BlockSpot m s) where
  in_spot_of : (row column : ℕ) → InSquare h.height s.row s.column row column → InSpot s row column
  in_spot_of row column i = omega (arith, h.side)

  -- the pixels of the window with the feature in the block
  abbrev pub own_area : ℕ
  own_area = sum_pixels (one_inside p w f) h.height s.row s.column

  pub own_apart : is_apart s w ≡ true → own_area ≡ 0
  own_apart e =
      sum_nothing (one_inside p w f) h.height s.row s.column
      (λ row column i. decide (in_window w row column)
      (λ window_has. absurd (apart_pixel s w row column e (in_spot_of row column i) window_has))
      (λ out. ap (λ b. cond (b && eqb (p row column) f) 1 0) out))

  other_feature : (row column : ℕ) → (p row column ≡ f → ⊥) → one_inside p w f row column ≡ 0
  other_feature row column other =
      decide (in_window w row column)
      (λ e. ap (λ b. cond (b && eqb (p row column) f) 1 0) e ∙ ap (λ b. cond b 1 0) (ne_eqb (p row column) f other))
      (λ e. ap (λ b. cond (b && eqb (p row column) f) 1 0) e)

  pub own_lacking : has_slot (bits_at p h) f ≡ false → own_area ≡ 0
  own_lacking none =
      sum_nothing (one_inside p w f) h.height s.row s.column
      (λ row column i. other_feature row column (λ has. no_slot_pixel p f h row column none (in_spot_of row column i) has))

  -- within the window it is the block's count
  pub own_within : is_within s w ≡ true → own_area ≡ pixels_with p h.height s.row s.column f
  own_within e =
      sum_same (one_inside p w f) (one_at p f) h.height s.row s.column
      (λ row column i. ap (λ b. cond (b && eqb (p row column) f) 1 0) (within_pixel s w row column e (in_spot_of row column i)))
      ∙ sym (pixels_sum p f h.height s.row s.column)

  -- the pixels in common, from the north-west on
  abbrev Common : ℕ → ℕ → Type 0
  Common a b =
      InPart (s.row + before s.row w.row) (s.column + before s.column w.column) (common s.column s.side w.column w.width)
      (common s.row s.side w.row w.height) a b

  common_rows : (a b : ℕ) → Common a b → InRun s.row s.side a × InRun w.row w.height a
  common_rows a b i =
      let x : InRun (s.row + before s.row w.row) (common s.row s.side w.row w.height) a = record { from = i.from_row; until = i.to_row } in
      (common_first s.row s.side w.row w.height a x, common_second s.row s.side w.row w.height a x)

  common_columns : (a b : ℕ) → Common a b → InRun s.column s.side b × InRun w.column w.width b
  common_columns a b i =
      let x : InRun (s.column + before s.column w.column) (common s.column s.side w.column w.width) b = record { from = i.from_column; until = i.to_column } in
      (common_first s.column s.side w.column w.width b x, common_second s.column s.side w.column w.width b x)

  common_one : bits_at p h ≡ 2 ^ f → (a b : ℕ) → Common a b → one_inside p w f a b ≡ 1
  common_one is a b i =
      let x = common_rows a b i in
      let y = common_columns a b i in
      ap (λ z. cond (z && eqb (p a b) f) 1 0)
      (window_inside w a b (record { from_row = x.1.from; to_row = x.1.until; from_column = y.1.from; to_column = y.1.until }))
      ∙ ap (λ z. cond z 1 0)
      (eq-eqb (p a b) f (whole_pixel p f h a b is (record { top = x.0.from; bottom = x.0.until; left = y.0.from; right = y.0.until })))

  common_none : (a b : ℕ) → InRun s.row s.side a → InRun s.column s.side b → (Common a b → ⊥) → one_inside p w f a b ≡ 0
  common_none a b i j out =
      decide (in_window w a b)
      (λ window_has.
      let k = inside_window w a b window_has in
      let x = in_common s.row s.side w.row w.height a i (record { from = k.from_row; until = k.to_row }) in
      let y = in_common s.column s.side w.column w.width b j (record { from = k.from_column; until = k.to_column }) in
      absurd (out (record { from_row = x.from; to_row = x.until; from_column = y.from; to_column = y.until })))
      (λ outside. ap (λ x. cond (x && eqb (p a b) f) 1 0) outside)

  -- and of one feature the overlap
  pub own_whole : is_apart s w ≡ false → bits_at p h ≡ 2 ^ f → own_area ≡ overlap_of s w
  unfolding overlap_of
  own_whole e is =
      let j = not_apart s w e in
      let rows = run_cut s.row s.side w.row w.height j.rows j.window_rows in
      let columns = run_cut s.column s.side w.column w.width j.columns j.window_columns in
      sym (sum_block (one_inside p w f) h.height s.row s.column)
      ∙ ap₂ (λ x y. sum_rows (one_inside p w f) s.row s.column x y) (sym h.side ∙ sym columns) (sym h.side ∙ sym rows)
      ∙ part_ones (one_inside p w f) s.row s.column (before s.row w.row) (before s.column w.column) _ _ (after s.column s.side w.column w.width)
      (after s.row s.side w.row w.height)
      (common_one is)
      (λ a b i. common_none a b (record { from = i.from_row; until = rw rows at i.to_row }) (record { from = i.from_column; until = rw columns at i.to_column }))
