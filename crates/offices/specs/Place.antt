-- The place of a row among the rows of a table, and what the slices hold when a place is made or given up, as the code goes. Only contracts need these;
-- proofs/ has what they come to.
use Rattle.std.specs.Prelude.{ℕ, suc, ◌+◌, ◌-◌, Bool, false, cond, Result, Ok, Err, List, [], ◌∷◌, ◌++◌, take, drop, eqb}
use Rattle.std.proofs.lemmas.List.Edits.{sets}
use Rattle.definitions.specs.Offices.{Waiver, row_before, same_row}

-- how many of the first rows come before the row
unfoldable pub row_place : Waiver → List Waiver → ℕ
row_place w [] = 0
row_place w (x ∷ table) = cond (row_before x w) (suc (row_place w table)) 0

-- the first of the rows is this one
unfoldable pub leads : Waiver → List Waiver → Bool
leads w [] = false
leads w (x ∷ table) = same_row x w

-- where the row stands, or else the place that it would take
abbrev pub row_found : Waiver → List Waiver → Result ℕ ℕ
row_found w table = cond (leads w (drop (row_place w table) table)) (Ok (row_place w table)) (Err (row_place w table))

-- how often the office is among the numbers
unfoldable pub office_times : ℕ → List ℕ → ℕ
office_times office [] = 0
office_times office (x ∷ offices) = cond (eqb x office) (suc (office_times office offices)) (office_times office offices)

-- the numbers from the place on, up to the last row's, are one place later, and the new one stands at the place
abbrev pub opened : ℕ → ℕ → ℕ → List ℕ → List ℕ
opened rows place number l = sets l place (number ∷ take (rows - place) (drop place l))

-- the numbers after the place, up to the last row's, are one place earlier, and the last row's place is zero
abbrev pub gap_closed : ℕ → ℕ → List ℕ → List ℕ
gap_closed rows place l = sets l place (take (rows - (place + 1)) (drop (place + 1) l) ++ (0 ∷ []))
