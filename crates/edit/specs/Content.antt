-- The content of a block as it is read from a list: the block's records, or one record with the block's key and the bits of the leaf around it. A model
-- in the code's order, and where the code finds it. Rests on Standing of the definitions.
use Rattle.std.specs.Prelude.{ℕ, Bool, true, false, cond, List, [], ◌∷◌, take, drop}
use Rattle.definitions.specs.List.{Record, record_of}
use Rattle.definitions.specs.Standing.{place_of, is_listed, part_length}
use Rattle.definitions.specs.declared.Standing.{Standing}
use Rattle.definitions.specs.declared.Standing.TheVariants.{Listed, Inside}
use Rattle.replace.specs.Family.{block_bits}

unfoldable pub content_in : ℕ → List Record → ℕ → List Record
content_in m l κ = cond (is_listed κ l) (take (part_length m κ l) (drop (place_of κ l) l)) (record_of κ (block_bits κ l) ∷ [])

-- where the content is found: the list has it from a place on, so many records; or the block lies inside the leaf at the place, and its content is one
-- record, which the list does not have
pub record Former : Type 0 where
  pub listed : Bool
  pub place : ℕ
  pub count : ℕ

-- whether the list has it, from which place on, and how many records it has
abbrev pub former_of : ℕ → ℕ → List Record → Former
former_of m κ l = record { listed = is_listed κ l; place = place_of κ l; count = part_length m κ l }

-- the same, told by a standing, whatever it says of the leaf's key and level
abbrev pub former_by : Standing → Former
former_by (Listed place records) = record { listed = true; place = place; count = records }
former_by (Inside place leaf level) = record { listed = false; place = place; count = 1 }

-- how many records it has, by where the block stands
abbrev pub content_count : Standing → ℕ
content_count (Listed place records) = records
content_count (Inside place leaf level) = 1
