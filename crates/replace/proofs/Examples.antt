-- The model on Map A (specification S27): A9 merges, A10 takes it back, A11 splits a leaf. Proved by computation.
use mathlib.Core.Path.{◌≡◌, refl}
use mathlib.Core.List.{List, [], ◌∷◌}
use Rattle.keys.specs.Key.{digits_of, digits_before_zero, level_of, height_of}
use Rattle.keys.specs.Block.{in_interval}
use Rattle.definitions.specs.Bits.{union_of_four}
use Rattle.definitions.specs.List.{Record, record_of}
use Rattle.definitions.specs.Standing.{up_to, place_of, is_listed, records_in, part_length}
use Rattle.replace.specs.Family.{around, block_bits, child_bits, parent_bits}
use Rattle.replace.specs.Climb.{climb}
use Rattle.replace.specs.Plant.{digit_at, leaves, front_at, back_at, front, back}
use Rattle.replace.specs.Renew.{set_bits, renew}
use Rattle.replace.specs.Put.{top_for, top_of, plan_at, plan_of, length_after, filling, inserted, exchanged, parents_renewed, edited}

-- keys as numbers: 10 is 5, 20 is 10, 24 is 14, 33 is 18; bits with slot 0 worth 1
abbrev map_a : List Record
map_a =
    record_of 0 7
    ∷ record_of 5 1
    ∷ record_of 10 6
    ∷ record_of 11 2
    ∷ record_of 12 2
    ∷ record_of 13 2
    ∷ record_of 14 4
    ∷ record_of 15 4
    ∷ record_of 20 1
    ∷ []

abbrev merged : List Record
merged = record_of 0 7 ∷ record_of 5 1 ∷ record_of 10 2 ∷ record_of 15 4 ∷ record_of 20 1 ∷ []

abbrev split : List Record
split =
    record_of 0 7
    ∷ record_of 5 1
    ∷ record_of 10 6
    ∷ record_of 11 2
    ∷ record_of 12 2
    ∷ record_of 13 2
    ∷ record_of 14 4
    ∷ record_of 15 5
    ∷ record_of 16 4
    ∷ record_of 17 4
    ∷ record_of 18 1
    ∷ record_of 19 4
    ∷ record_of 20 1
    ∷ []

pub record Rows : Type 0 where
  pub a9 : edited 2 map_a 14 (record_of 14 2 ∷ []) ≡ merged
  pub a9_plan : plan_of 2 map_a 14 (record_of 14 2 ∷ []) ≡ record { top = 1; start = 2; old = 5; levels = 0 }
  pub a10 : edited 2 merged 14 (record_of 14 4 ∷ []) ≡ map_a
  pub a10_plan : plan_of 2 merged 14 (record_of 14 4 ∷ []) ≡ record { top = 0; start = 2; old = 1; levels = 1 }
  pub a11 : edited 2 map_a 18 (record_of 18 1 ∷ []) ≡ split
  pub a11_length : length_after map_a (record_of 18 1 ∷ []) (plan_of 2 map_a 18 (record_of 18 1 ∷ [])) ≡ 13

pub rows : Rows
unfolding digits_of digits_before_zero level_of height_of in_interval union_of_four up_to place_of is_listed records_in part_length around block_bits child_bits parent_bits climb digit_at leaves front_at back_at front back set_bits renew top_for top_of plan_at plan_of length_after filling inserted exchanged parents_renewed edited
rows = record { a9 = refl; a9_plan = refl; a10 = refl; a10_plan = refl; a11 = refl; a11_length = refl }
