-- Where a block stands in a list, and the part of the key slice that holds it (specification S5). Rests on
-- List.
use Rattle.std.specs.Prelude.{ℕ, ◌+◌, ◌-◌, Bool, cond, List, [], ◌∷◌, get_or, take, drop, leb, eqb}
use Rattle.keys.specs.Key.{level_of}
use Rattle.keys.specs.Block.{in_interval}
use Rattle.definitions.specs.List.{Record, keys_of}
use Rattle.definitions.specs.declared.Standing.{Standing}
use Rattle.definitions.specs.declared.Standing.TheVariants.{Listed, Inside}
use Rattle.definitions.specs.declared.Stands.{Stands}

-- how many records have a key at or before x
unfoldable pub up_to : (x : ℕ) (l : List Record) → ℕ
up_to x [] = 0
up_to x (e ∷ l) = cond (leb e.key x) 1 0 + up_to x l

-- the place of the last record at or before x
unfoldable pub place_of : (x : ℕ) (l : List Record) → ℕ
place_of x l = up_to x l - 1

-- and its key
abbrev pub key_found : (x : ℕ) (l : List Record) → ℕ
key_found x l = get_or (keys_of l) (place_of x l) 0

unfoldable pub is_listed : (κ : ℕ) (l : List Record) → Bool
is_listed κ l = eqb (key_found κ l) κ

-- how many records the block and all below it have
unfoldable pub records_in : (m κ : ℕ) (l : List Record) → ℕ
records_in m κ [] = 0
records_in m κ (e ∷ l) = cond (in_interval m κ e.key) 1 0 + records_in m κ l

-- the block is listed, with so many records; or it lies inside the leaf whose record comes last before it, with that leaf's key and level
unfoldable pub standing_of : (m κ : ℕ) (l : List Record) → Standing
standing_of m κ l =
    cond (is_listed κ l)
    (Listed (place_of κ l) (records_in m κ l))
    (Inside (place_of κ l) (key_found κ l) (level_of m (key_found κ l)))

-- the numbers of a standing: 1 for listed, with the place and the records; 2 for inside a leaf, with the leaf's place, key and level
abbrev pub numbers_of : Standing → Stands
numbers_of (Listed place records) =
    record { refusal = 0; kind = 1; place = place; records = records; leaf = 0; level = 0 }
numbers_of (Inside place leaf level) =
    record { refusal = 0; kind = 2; place = place; records = 0; leaf = leaf; level = level }

-- how many places the part has: the block and everything below it, or the one record of the leaf around it
unfoldable pub part_length : (m κ : ℕ) (l : List Record) → ℕ
part_length m κ l = cond (is_listed κ l) (records_in m κ l) 1

-- the part of the key slice
unfoldable pub part_of : (m κ : ℕ) (l : List Record) (keys : List ℕ) → List ℕ
part_of m κ l keys = take (part_length m κ l) (drop (place_of κ l) keys)
