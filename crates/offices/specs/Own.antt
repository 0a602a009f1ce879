-- The rows of the asking office, as a part of the table's slices. Only contracts need these; proofs/OwnRows.antt has what they come to.
use Rattle.std.specs.Prelude.{ℕ, Bool, true, cond, ◌&&◌, Option, Some, None, List, [], ◌∷◌, length, eqb}
use Rattle.keys.specs.Key.{valid_key}
use Rattle.definitions.specs.Offices.{table_of, rows_of, row_keys_valid, is_table}
use Rattle.offices.specs.declared.own.OwnRows.{OwnRows}

-- every number is a valid key
unfoldable pub keys_in : ℕ → List ℕ → Bool
keys_in m [] = true
keys_in m (κ ∷ keys) = valid_key m κ && keys_in m keys

-- the rows of office 0 stand first
abbrev pub offset_of : (office : ℕ) (offices ids waived : List ℕ) (rows : ℕ) → ℕ
offset_of office offices ids waived rows = cond (eqb office 0) 0 (length (rows_of 0 (table_of offices ids waived rows)))

-- where the office's rows begin and how many they are
abbrev pub office_rows_at : (office : ℕ) (offices ids waived : List ℕ) (rows : ℕ) → OwnRows
office_rows_at office offices ids waived rows =
    record { offset = offset_of office offices ids waived rows; count = length (rows_of office (table_of offices ids waived rows)) }

-- they are told in a table whose keys are all valid
unfoldable pub own_of : (m office : ℕ) (offices ids waived : List ℕ) (rows : ℕ) → Option OwnRows
own_of m office offices ids waived rows =
    cond (is_table offices ids waived rows && row_keys_valid m (table_of offices ids waived rows)) (Some (office_rows_at office offices ids waived rows)) None
