-- What the content of an entry is: records pass as a content of a block exactly when they are that block's content in some picture whose features there
-- are below s (specification S11.6). Rests on IsList.
use Prim.Native.Nat.{ℕ}
use mathlib.Core.Path.{◌≡◌}
use mathlib.Core.Bool.{true}
use mathlib.Core.Logic.{◌↔◌}
use mathlib.Core.List.{List}
use Rattle.keys.specs.Key.{valid_key, height_of}
use Rattle.keys.specs.Block.{row_of, column_of}
use Rattle.keys.proofs.Valid.{valid_block}
use Rattle.keys.proofs.Pixel.{pixel_in_block}
use Rattle.definitions.specs.Picture.{Picture, features_below}
use Rattle.definitions.specs.List.{Record}
use Rattle.definitions.specs.Edit.{content_of}
use Rattle.definitions.specs.Log.{is_content}
use Rattle.laws.proofs.IsList.{block_list_to, list_passes}

-- the records are the content of block κ in some picture, whose features there are below s
pub record ContentIn (m s κ : ℕ) (l : List Record) : Type 0 where
  pub picture : Picture
  pub below : features_below s picture (height_of m κ) (row_of m κ) (column_of m κ) ≡ true
  pub is : l ≡ content_of m picture κ

-- what passes is the content in the picture that it shows
pub content_to : (m s κ : ℕ) (l : List Record) → is_content m s κ l ≡ true → ContentIn m s κ l
unfolding is_content content_of
content_to m s κ l e =
    let shown = block_list_to m s (height_of m κ) (row_of m κ) (column_of m κ) κ l e in
    record { picture = shown.picture; below = shown.below; is = shown.is }

-- and the content of a block passes
pub content_from : (m s κ : ℕ) (l : List Record) → valid_key m κ ≡ true → ContentIn m s κ l → is_content m s κ l ≡ true
unfolding is_content content_of
content_from m s κ l valid h =
    let block = valid_block m κ valid in
    rw h.is
    (list_passes m s h.picture (height_of m κ) (row_of m κ) (column_of m κ) κ (λ row column low narrow. pixel_in_block row column block low narrow) h.below)

pub content_means : (m s κ : ℕ) (l : List Record) → valid_key m κ ≡ true → (is_content m s κ l ≡ true) ↔ ContentIn m s κ l
content_means m s κ l valid = (content_to m s κ l, content_from m s κ l valid)
