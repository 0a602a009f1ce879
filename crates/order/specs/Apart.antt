-- Paints that are apart: neither block is the other or contains it (specification S20.1). Rests on the keys' ancestors.
use Rattle.std.specs.Prelude.{ℕ, Bool, true, false, not, ◌&&◌, ◌||◌, List, [], ◌∷◌, eqb}
use Rattle.keys.specs.Key.{valid_key}
use Rattle.keys.specs.Block.{in_block, is_ancestor}
use Rattle.order.specs.Paint.{BlockPaint}

-- neither block is the other, and neither contains the other
unfoldable pub apart : ℕ → BlockPaint → BlockPaint → Bool
apart m x y = not (eqb x.key y.key) && (not (is_ancestor m x.key y.key) && not (is_ancestor m y.key x.key))

unfoldable pub apart_from_all : ℕ → BlockPaint → List BlockPaint → Bool
apart_from_all m x [] = true
apart_from_all m x (y ∷ ys) = apart m x y && apart_from_all m x ys

-- every pair of the run is apart
unfoldable pub all_apart : ℕ → List BlockPaint → Bool
all_apart m [] = true
all_apart m (x ∷ xs) = apart_from_all m x xs && all_apart m xs

-- every block of the run is a block
unfoldable pub all_valid : ℕ → List BlockPaint → Bool
all_valid m [] = true
all_valid m (x ∷ xs) = valid_key m x.key && all_valid m xs

-- some paint of the run has the pixel in its block
unfoldable pub in_some_paint : ℕ → List BlockPaint → (row column : ℕ) → Bool
in_some_paint m [] row column = false
in_some_paint m (x ∷ xs) row column = in_block m x.key row column || in_some_paint m xs row column
