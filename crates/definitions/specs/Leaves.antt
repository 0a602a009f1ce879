-- Leaf lists (specification S17): the linear quadtree of Nardelli and Proietti (1994), section 2.2, has leaves alone, a key and a feature each. Which leaves a list
-- has, when leaves are a delivery, and the picture that they describe. Rests on Refusal.
use Rattle.std.specs.Prelude.{ℕ, suc, ◌+◌, ◌^◌, Bool, true, cond, not, ◌&&◌, List, [], ◌∷◌, take, leb, eqb}
use Rattle.keys.specs.Key.{valid_key}
use Rattle.keys.specs.Block.{in_block}
use Rattle.definitions.specs.Picture.{Picture, every_pixel}
use Rattle.definitions.specs.Bits.{feature_of}
use Rattle.definitions.specs.List.{Record, record_of}
use Rattle.definitions.specs.Read.{room, records_of}
use Rattle.definitions.specs.Refusal.{bad_pixel}

-- the bitstring is one slot alone
abbrev pub is_leaf : (bits : ℕ) → Bool
is_leaf bits = eqb bits (2 ^ feature_of bits)

-- of each record of one feature its key and its feature
unfoldable pub leaves_of : List Record → List Record
leaves_of [] = []
leaves_of (e ∷ l) = cond (is_leaf e.value) (record_of e.key (feature_of e.value) ∷ leaves_of l) (leaves_of l)

unfoldable pub valid_keys : (m : ℕ) (keys : List ℕ) → Bool
valid_keys m [] = true
valid_keys m (κ ∷ keys) = valid_key m κ && valid_keys m keys

-- the first key is at least so large, and each other larger than the one before it
unfoldable pub ascend_from : (least : ℕ) (keys : List ℕ) → Bool
ascend_from least [] = true
ascend_from least (κ ∷ keys) = leb least κ && ascend_from (suc κ) keys

-- how many of the blocks have the pixel
unfoldable pub coverings : (m : ℕ) (keys : List ℕ) (row column : ℕ) → ℕ
coverings m [] row column = 0
coverings m (κ ∷ keys) row column = cond (in_block m κ row column) 1 0 + coverings m keys row column

-- every pixel of the raster lies in exactly one of the blocks
unfoldable pub cover_once : (m : ℕ) (keys : List ℕ) → Bool
cover_once m keys = every_pixel (λ row column. eqb (coverings m keys row column) 1) m 0 0

-- ascending valid keys that cover the raster once; the test of the features is the one that refusal 3 has for pixels
unfoldable pub are_leaves : (m s : ℕ) (keys features : List ℕ) → Bool
are_leaves m s keys features = valid_keys m keys && ascend_from 0 keys && (not (bad_pixel s features) && cover_once m keys)

-- the count is within both slices, and so many leaves are a delivery
unfoldable pub is_delivery : (m s : ℕ) (keys features : List ℕ) (count : ℕ) → Bool
is_delivery m s keys features count = leb count (room keys features) && are_leaves m s (take count keys) (take count features)

-- at each pixel the feature of the leaf around it
unfoldable pub picture_of_leaves : (m : ℕ) (leaves : List Record) → Picture
picture_of_leaves m [] row column = 0
picture_of_leaves m (e ∷ leaves) row column = cond (in_block m e.key row column) e.value (picture_of_leaves m leaves row column)

-- the picture of the first leaves of two slices
abbrev pub picture_delivered : (m : ℕ) (keys features : List ℕ) (count : ℕ) → Picture
picture_delivered m keys features count = picture_of_leaves m (records_of keys features count)
