-- Block of: the square and the level of a key. Refusals 1 (for m alone), 8.
use Rattle.std.specs.Prelude.{ℕ, [], ◌∷◌, ltb}
use Rattle.keys.specs.Key.{deepest_level, level_of}
use Rattle.keys.specs.Block.{row_of, column_of, side_of}
use Rattle.definitions.specs.Refusal.{◌gives◌, first, accepted, bad_key}
use Rattle.definitions.specs.declared.Block.{Block}

module _ (m κ : ℕ) where
  unfoldable pub block_of_refusal : ℕ
  block_of_refusal = first (ltb deepest_level m gives 1 ∷ bad_key m κ gives 8 ∷ [])

  unfoldable pub block_of : Block
  block_of =
      record {
        refusal = block_of_refusal;
        row = accepted block_of_refusal (row_of m κ) 0;
        column = accepted block_of_refusal (column_of m κ) 0;
        side = accepted block_of_refusal (side_of m κ) 0;
        level = accepted block_of_refusal (level_of m κ) 0;
      }
