-- An office that is full: its 256th row is added, a row that it has is refused with 22 before 12, another with 12 and the 257 rows that it would have, a table
-- in which it has them is refused with 14, and the other office is not full. One claim, proved by
-- computation; each row is an equation of its own, since a table of so many places is not computed inside another.
use Prim.Native.Nat.{ℕ, zero, suc}
use mathlib.Core.Path.{◌≡◌, refl}
use mathlib.Core.List.{List, [], ◌∷◌}
use Rattle.keys.specs.Key.{valid_key, digits_of, digits_then_zeros, only_zeros}
use Rattle.definitions.specs.Refusal.{first}
use Rattle.definitions.specs.Offices.{rows_in, table_of, rows_of, rows_ascend, offices_known, is_sound_table, is_table, is_row}
use Rattle.definitions.specs.Calls.AddWaiver.{add_refusal, add_waiver}
use Rattle.definitions.specs.Calls.RemoveWaiver.{remove_refusal, remove_waiver}
use Rattle.definitions.proofs.Vectors.{of_counted, table_with}

-- so many ids one after the other, from x on
abbrev ids_from : ℕ → ℕ → List ℕ
ids_from x zero = []
ids_from x (suc more) = x ∷ ids_from (suc x) more

-- an office asks for a row more, where office 0 has the rows of so many ids, each with key 0
abbrev asked : ℕ → ℕ → ℕ → List ℕ
asked office rows id = of_counted (add_waiver 1 office (table_with []) (table_with (ids_from 0 rows)) (table_with []) rows id 0)

claim : (asked 0 255 300 ≡ 0 ∷ 256 ∷ [])
    × (asked 0 256 7 ≡ 22 ∷ 0 ∷ [])
    × (asked 0 256 300 ≡ 12 ∷ 257 ∷ [])
    × (asked 0 257 7 ≡ 14 ∷ 0 ∷ [])
    × (asked 1 256 7 ≡ 0 ∷ 257 ∷ [])
    × (asked 1 257 7 ≡ 14 ∷ 0 ∷ [])
    × (of_counted (remove_waiver 1 0 (table_with []) (table_with (ids_from 0 257)) (table_with []) 257 7 0) ≡ 14 ∷ 0 ∷ [])
unfolding
    valid_key digits_of digits_then_zeros only_zeros first
    rows_in table_of rows_of rows_ascend offices_known is_sound_table is_table is_row
    add_refusal add_waiver remove_refusal remove_waiver table_with
claim = (refl, refl, refl, refl, refl, refl, refl)
