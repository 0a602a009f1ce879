-- The vocabulary of the tables of vectors: a row, keys by their digits, bitstrings by their slots, and Map A (specification S27) as a raster and as a
-- list in two slices. Rests on the shapes of records and answers, and on no law.
use Prim.Native.Nat.{ℕ, ◌+◌, ◌-◌, ◌*◌}
use mathlib.Core.Path.{◌≡◌}
use mathlib.Core.List.{List, [], ◌∷◌, ◌++◌, map}
use lib.ListN.{length, replicate}
use Rattle.definitions.specs.List.{Record}
use Rattle.definitions.specs.declared.Window.{Window}
use Rattle.definitions.specs.declared.Exists.{Exists}
use Rattle.definitions.specs.declared.Reported.{Reported}
use Rattle.definitions.specs.declared.Counted.{Counted}
use Rattle.definitions.specs.declared.Edited.{Edited}

-- A row: what the definitions compute, and what the specification says, both as lists of numbers.
pub record VectorRow : Type 0 where
  pub computed : List ℕ
  pub said : List ℕ

abbrev pub row : List ℕ → List ℕ → VectorRow
row computed said = record { computed = computed; said = said }

-- a key by its digits, and a bitstring by its slots with slot 0 leftmost
abbrev key_after : ℕ → List ℕ → ℕ
key_after x [] = x
key_after x (d ∷ ds) = key_after (x * 5 + d) ds

abbrev pub key : List ℕ → ℕ
key digits = key_after 0 digits

abbrev pub slots : List ℕ → ℕ
slots [] = 0
slots (b ∷ bs) = b + 2 * slots bs

abbrev pub window : ℕ → ℕ → ℕ → ℕ → Window
window row column height width = record { row = row; column = column; height = height; width = width }

-- a list as key, bitstring, key, bitstring ..
abbrev pub shown : List Record → List ℕ
shown [] = []
shown (x ∷ l) = x.key ∷ x.value ∷ shown l

abbrev pub of_exist : Exists → List ℕ
of_exist r = r.refusal ∷ r.yes ∷ []

abbrev pub of_report : Reported → List ℕ
of_report r = r.refusal ∷ r.bits ∷ []

abbrev pub of_counted : Counted → List ℕ
of_counted r = r.refusal ∷ r.count ∷ []

abbrev pub of_edited : Edited → List ℕ
of_edited r = r.refusal ∷ r.n ∷ r.used ∷ r.in_force ∷ []

-- a slice of a table: these numbers in its first places, zeros in the others
unfoldable pub table_with : List ℕ → List ℕ
table_with numbers = numbers ++ replicate (512 - length numbers) 0

-- m = 2, s = 3, rows 0011, 0012, 2200, 2200
abbrev pub map_a : List ℕ
map_a = 0 ∷ 0 ∷ 1 ∷ 1 ∷ 0 ∷ 0 ∷ 1 ∷ 2 ∷ 2 ∷ 2 ∷ 0 ∷ 0 ∷ 2 ∷ 2 ∷ 0 ∷ 0 ∷ []

-- its list as specification S27.1 has it, in two slices with so many places to spare
abbrev pub keys_a : ℕ → List ℕ
keys_a spare =
    key (0 ∷ 0 ∷ [])
    ∷ key (1 ∷ 0 ∷ [])
    ∷ key (2 ∷ 0 ∷ [])
    ∷ key (2 ∷ 1 ∷ [])
    ∷ key (2 ∷ 2 ∷ [])
    ∷ key (2 ∷ 3 ∷ [])
    ∷ key (2 ∷ 4 ∷ [])
    ∷ key (3 ∷ 0 ∷ [])
    ∷ key (4 ∷ 0 ∷ [])
    ∷ replicate spare 99

abbrev pub bits_a : ℕ → List ℕ
bits_a spare =
    slots (1 ∷ 1 ∷ 1 ∷ [])
    ∷ slots (1 ∷ 0 ∷ 0 ∷ [])
    ∷ slots (0 ∷ 1 ∷ 1 ∷ [])
    ∷ slots (0 ∷ 1 ∷ 0 ∷ [])
    ∷ slots (0 ∷ 1 ∷ 0 ∷ [])
    ∷ slots (0 ∷ 1 ∷ 0 ∷ [])
    ∷ slots (0 ∷ 0 ∷ 1 ∷ [])
    ∷ slots (0 ∷ 0 ∷ 1 ∷ [])
    ∷ slots (1 ∷ 0 ∷ 0 ∷ [])
    ∷ replicate spare 99

-- an unwritten slice
abbrev pub unwritten : ℕ → List ℕ
unwritten places = replicate places 77

-- every row's two sides are the same
abbrev pub RowHolds : List VectorRow → Type 0
RowHolds rows = map (λ r. r.computed) rows ≡ map (λ r. r.said) rows
