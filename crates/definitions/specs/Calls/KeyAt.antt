-- Key at: the key of the block of a level around a pixel. Refusals 1 (for m alone), 6 (no pixel of this raster), 8 (the level is above m).
use Rattle.std.specs.Prelude.{ℕ, ◌^◌, Bool, ◌||◌, [], ◌∷◌, leb, ltb}
use Rattle.keys.specs.Key.{deepest_level}
use Rattle.keys.specs.Block.{key_around}
use Rattle.definitions.specs.Refusal.{◌gives◌, first, accepted}
use Rattle.definitions.specs.declared.Keyed.{Keyed}

-- the row or the column is none of the raster's
abbrev pub no_pixel : (m row column : ℕ) → Bool
no_pixel m row column = leb (2 ^ m) row || leb (2 ^ m) column

module _ (m row column level : ℕ) where
  unfoldable pub key_at_refusal : ℕ
  key_at_refusal =
      first (ltb deepest_level m gives 1 ∷ no_pixel m row column gives 6 ∷ ltb m level gives 8 ∷ [])

  unfoldable pub key_at : Keyed
  key_at =
      record {
        refusal = key_at_refusal;
        key = accepted key_at_refusal (key_around m level row column) 0;
      }
