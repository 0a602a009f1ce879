-- When the waivers of one rule, as a list of keys, cover a block: every pixel of the block lies in a waived block. Rests on Rules.
use Rattle.std.specs.Prelude.{ℕ, Bool, false, cond, ◌||◌, List, [], ◌∷◌, eqb}
use Rattle.keys.specs.Key.{height_of}
use Rattle.keys.specs.Block.{row_of, column_of, in_block}
use Rattle.definitions.specs.Picture.{every_pixel}
use Rattle.definitions.specs.Rules.{Finding}

-- the keys of a rule's waivers
unfoldable pub waived_keys : (id : ℕ) (waivers : List Finding) → List ℕ
waived_keys id [] = []
waived_keys id (w ∷ ws) = cond (eqb w.id id) (w.key ∷ waived_keys id ws) (waived_keys id ws)

-- the pixel lies in one of the blocks
unfoldable pub in_some : (m : ℕ) (waived : List ℕ) (row column : ℕ) → Bool
in_some m [] row column = false
in_some m (w ∷ ws) row column = in_block m w row column || in_some m ws row column

-- every pixel of the block does
unfoldable pub is_covered : (m : ℕ) (waived : List ℕ) (κ : ℕ) → Bool
is_covered m waived κ = every_pixel (in_some m waived) (height_of m κ) (row_of m κ) (column_of m κ)
