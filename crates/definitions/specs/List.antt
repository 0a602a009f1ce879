-- The list of a raster: the HL-quadtree (specification S4). Rests on Picture and Bits.
use Rattle.std.specs.Prelude.{ℕ, zero, suc, ◌+◌, ◌^◌, ◌≤◌, cond, List, [], ◌∷◌, ◌++◌, map}
use Rattle.keys.specs.Key.{root_key, child_key}
use Rattle.definitions.specs.Picture.{Picture, picture_of_raster, one_feature}
use Rattle.definitions.specs.Bits.{bits_of}

-- a key and a bitstring; in a log's closing record a key and a count
pub record Record : Type 0 where
  pub key : ℕ
  pub value : ℕ

abbrev pub record_of : (key value : ℕ) → Record
record_of key value = record { key = key; value = value }

abbrev pub keys_of : List Record → List ℕ
keys_of l = map (λ x. x.key) l

abbrev pub values_of : List Record → List ℕ
values_of l = map (λ x. x.value) l

-- the keys ascend strictly, the first at least lo and the last below hi
pub data Ascending : ℕ → ℕ → List Record → Type 0 where
  none : {lo hi : ℕ} → lo ≤ hi → Ascending lo hi []
  next : {lo hi : ℕ} {e : Record} {l : List Record} → lo ≤ e.key → Ascending (suc e.key) hi l → Ascending lo hi (e ∷ l)

-- the list of the block of height k with key κ: one record where it has one feature, else its record and then those of its four quadrants
unfoldable pub list_of : (p : Picture) (k row column κ : ℕ) → List Record
list_of p zero row column κ = record_of κ (bits_of p zero row column) ∷ []
list_of p (suc k) row column κ =
    record_of κ (bits_of p (suc k) row column)
    ∷ cond (one_feature p (suc k) row column)
    []
    (list_of p k row column (child_key κ k 1)
    ++ (list_of p k row (column + 2 ^ k) (child_key κ k 2)
    ++ (list_of p k (row + 2 ^ k) column (child_key κ k 3) ++ list_of p k (row + 2 ^ k) (column + 2 ^ k) (child_key κ k 4))))

-- the list of a picture of side 2 ^ m
abbrev pub list_of_picture : (m : ℕ) (p : Picture) → List Record
list_of_picture m p = list_of p m 0 0 root_key

abbrev pub list_of_raster : (m : ℕ) (raster : List ℕ) → List Record
list_of_raster m raster = list_of_picture m (picture_of_raster m raster)
