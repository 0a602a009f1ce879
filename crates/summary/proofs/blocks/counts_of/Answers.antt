-- The key is that of a block of the summary's height.
use Prim.Native.Nat.{ℕ, ◌^◌, ◌<◌}
use mathlib.Core.Path.{◌≡◌, sym, ◌∙◌, ap, ap₂}
use mathlib.Core.Bool.{true}
use mathlib.Core.List.{List}
use Rattle.keys.specs.Key.{valid_key, height_of}
use Rattle.keys.specs.Block.{row_of, column_of}
use Rattle.definitions.specs.Picture.{Picture}
use Rattle.definitions.specs.Area.{counts_of, summary_level, summary_height, block_key}
use Rattle.list.specs.Taken.{picture_listed}
use Rattle.summary.proofs.BlockNumbers.{key_valid, key_height}
use Rattle.summary.proofs.blocks.counts_of.Goals as goal

module _ (m b key : ℕ) (h : b < 4 ^ summary_level m) (e : key ≡ block_key m b) where
  valid : valid_key m key ≡ true
  valid = ap (valid_key m) e ∙ key_valid m b h

  height : height_of m key ≡ summary_height m
  height = ap (height_of m) e ∙ key_height m b h

  counted : (p : Picture) (counts : List ℕ)
      → counts ≡ counts_of 32 p (height_of m key) (row_of m key) (column_of m key)
      → counts ≡ counts_of 32 p (summary_height m) (row_of m (block_key m b)) (column_of m (block_key m b))
  counted p counts f = f ∙ ap₂ (λ k κ. counts_of 32 p k (row_of m κ) (column_of m κ)) height e

pub count_block-requires : goal.count_block-requires
count_block-requires c =
    let e = c.key_of-key.ensures in
    (valid _ _ _ c.requires e, c.area_of-area.ensures ∙ ap (λ k. 4 ^ k) (sym (height _ _ _ c.requires e)))

pub returns : goal.returns
returns c = counted _ _ _ c.requires c.key_of-key.ensures (picture_listed c.args.list.now) _ c.count_block.ensures
