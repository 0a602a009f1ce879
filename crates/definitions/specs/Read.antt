-- Reading a list: its records in two slices, the picture that it shows, and when records are a list at all (specification S4.11, S4.12). Rests on List.
use Rattle.std.specs.Prelude.{ℕ, min, Bool, true, false, cond, ◌&&◌, List, [], ◌∷◌, length, take, leb, eqb}
use Rattle.keys.specs.Key.{root_key}
use Rattle.keys.specs.Block.{pixel_key}
use Rattle.definitions.specs.Picture.{Picture, features_below}
use Rattle.definitions.specs.Bits.{feature_of}
use Rattle.definitions.specs.List.{Record, record_of, list_of}

-- room is the shorter of the two slices
abbrev pub room : (keys values : List ℕ) → ℕ
room keys values = min (length keys) (length values)

unfoldable pub paired : (keys values : List ℕ) → List Record
paired [] values = []
paired (κ ∷ keys) [] = []
paired (κ ∷ keys) (v ∷ values) = record_of κ v ∷ paired keys values

-- the first n records of two slices
abbrev pub records_of : (keys values : List ℕ) (n : ℕ) → List Record
records_of keys values n = paired (take n keys) (take n values)

-- the value of the last record whose key is at or before x, or v where there is none
unfoldable pub value_at : (x v : ℕ) (l : List Record) → ℕ
value_at x v [] = v
value_at x v (e ∷ l) = value_at x (cond (leb e.key x) e.value v) l

-- the picture that a list shows: at each pixel the feature of the last record at or before the pixel's key
unfoldable pub picture_of : (m : ℕ) (l : List Record) → Picture
picture_of m l row column = feature_of (value_at (pixel_key m row column) 0 l)

unfoldable pub same_records : (xs ys : List Record) → Bool
same_records [] [] = true
same_records [] (y ∷ ys) = false
same_records (x ∷ xs) [] = false
same_records (x ∷ xs) (y ∷ ys) = eqb x.key y.key && eqb x.value y.value && same_records xs ys

-- the records are the list of the block that they show, and its features are below s
unfoldable pub is_list_of_block : (m s k row column κ : ℕ) (l : List Record) → Bool
is_list_of_block m s k row column κ l =
    same_records l (list_of (picture_of m l) k row column κ) && features_below s (picture_of m l) k row column

-- the first n records are there, and are the list of a raster at m and s
unfoldable pub is_list : (m s : ℕ) (keys bits : List ℕ) (n : ℕ) → Bool
is_list m s keys bits n = leb n (room keys bits) && is_list_of_block m s m 0 0 root_key (records_of keys bits n)
