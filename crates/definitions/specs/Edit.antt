-- What an edit makes of a picture and of its list (specification S10, S11.3). Rests on List and Window.
use Rattle.std.specs.Prelude.{ℕ, cond, List}
use Rattle.keys.specs.Key.{height_of}
use Rattle.keys.specs.Block.{row_of, column_of, in_block}
use Rattle.definitions.specs.Picture.{Picture}
use Rattle.definitions.specs.Window.{in_window}
use Rattle.definitions.specs.declared.Window.{Window}
use Rattle.definitions.specs.List.{Record, list_of}

-- q inside the block with key κ, p outside it
unfoldable pub put : (m κ : ℕ) (q p : Picture) → Picture
put m κ q p row column = cond (in_block m κ row column) (q row column) (p row column)

-- every pixel of the block gets feature f
unfoldable pub paint_in : (m κ f : ℕ) (p : Picture) → Picture
paint_in m κ f p = put m κ (λ row column. f) p

-- every pixel of the window gets feature f
unfoldable pub fill_window : (w : Window) (f : ℕ) (p : Picture) → Picture
fill_window w f p row column = cond (in_window w row column) f (p row column)

-- the content of a block: its node and all below, or one record with its own key where it lies inside a leaf
unfoldable pub content_of : (m : ℕ) (p : Picture) (κ : ℕ) → List Record
content_of m p κ = list_of p (height_of m κ) (row_of m κ) (column_of m κ) κ
