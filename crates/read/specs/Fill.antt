-- What the filling of a raster writes, and what it asks: a raster painted at the places that pass a test, the blocks that bitstrings show from a
-- place on, and the corners of a block's quadrants. Only contracts need it; proofs/Shown.antt and FillTurn.antt have its laws.
use Rattle.std.specs.Prelude.{ℕ, zero, suc, ◌+◌, ◌*◌, ◌/◌, ◌%◌, ◌^◌, ◌≤◌, ◌≡◌, Bool, false, cond, ◌&&◌, List, [], ◌∷◌, ◌++◌, length, drop, leb, ltb}
use Rattle.definitions.specs.Picture.{Picture, one_feature}
use Rattle.definitions.specs.List.{values_of, list_of}

-- each place from i on that passes the test gets its value, the others stay
unfoldable pub painted_from : (ℕ → Bool) → (ℕ → ℕ) → ℕ → List ℕ → List ℕ
painted_from test value i [] = []
painted_from test value i (x ∷ xs) = cond (test i) (value i) x ∷ painted_from test value (suc i) xs

abbrev pub filled_by : (ℕ → Bool) → (ℕ → ℕ) → List ℕ → List ℕ
filled_by test value raster = painted_from test value 0 raster

-- the place lies in a run of places
abbrev pub in_run : ℕ → ℕ → ℕ → Bool
in_run from until i = leb from i && ltb i until

-- the pixel lies in a rectangle of so many rows and columns
abbrev pub in_rectangle : ℕ → ℕ → ℕ → ℕ → ℕ → ℕ → Bool
in_rectangle row column height width a b = in_run row (row + height) a && in_run column (column + width) b

-- in a raster with rows of the given width, the rectangle gets the picture's features
unfoldable pub rectangle_painted : ℕ → Picture → ℕ → ℕ → ℕ → ℕ → List ℕ → List ℕ
rectangle_painted wide p row column height width raster =
    filled_by (λ i. in_rectangle row column height width (i / wide) (i % wide)) (λ i. p (i / wide) (i % wide)) raster

-- the quadrants of a block one after the other, numbered from 0: the first place in the raster
unfoldable pub corner_of : ℕ → ℕ → ℕ → ℕ → ℕ
corner_of zero place half south = place
corner_of (suc zero) place half south = place + half
corner_of (suc (suc zero)) place half south = place + south
corner_of (suc (suc (suc d))) place half south = place + south + half

-- from place `at` on the bitstrings are those of the list of a block, and the block's square lies in the raster, its first pixel at a place
pub record Shows (p : Picture) (k r c κ : ℕ) (bits : List ℕ) (at wide place side long : ℕ) : Type 0 where
  pub rest : List ℕ
  pub values : drop at bits ≡ values_of (list_of p k r c κ) ++ rest
  pub sides : side ≡ 2 ^ k
  pub corner : place ≡ r * wide + c
  pub columns : c + side ≤ wide
  pub rows : (r + side) * wide ≤ long

-- the same of some block that has several features, and so is no pixel
pub record ShowsNode (bits : List ℕ) (at wide place side long : ℕ) : Type 0 where
  pub picture : Picture
  pub height : ℕ
  pub row : ℕ
  pub column : ℕ
  pub key : ℕ
  pub shows : Shows picture (suc height) row column key bits at wide place side long
  pub several : one_feature picture (suc height) row column ≡ false

-- the block's picture is in the raster afterwards, and its list ends before the next place
pub record BlockFilled (p : Picture) (k r c κ at wide side : ℕ) (before after : List ℕ) (next : ℕ) : Type 0 where
  pub pixels : after ≡ rectangle_painted wide p r c side side before
  pub ends : next ≡ at + length (list_of p k r c κ)

-- that holds of whichever block of several features the bitstrings show
pub record NodeFilled (bits : List ℕ) (at wide place side : ℕ) (before after : List ℕ) (next : ℕ) : Type 0 where
  pub holds : (p : Picture) (k r c κ : ℕ)
      → Shows p (suc k) r c κ bits at wide place side (length before)
      → one_feature p (suc k) r c ≡ false
      → BlockFilled p (suc k) r c κ at wide side before after next
