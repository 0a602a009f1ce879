-- The refusals that adding and removing begin with, 21, 1, 14 and 8, and what a decision comes to. Only contracts need these.
use Rattle.std.specs.Prelude.{ℕ, cond, List, [], ◌∷◌, ltb, eqb}
use Rattle.keys.specs.Key.{deepest_level}
use Rattle.definitions.specs.Offices.{bad_office, bad_table}
use Rattle.definitions.specs.Refusal.{◌gives◌, first, accepted, bad_key}
use Rattle.definitions.specs.declared.Counted.{Counted}

unfoldable pub table_refusal : (m office : ℕ) (offices ids waived : List ℕ) (rows key : ℕ) → ℕ
table_refusal m office offices ids waived rows key =
    first (bad_office office gives 21 ∷ ltb deepest_level m gives 1 ∷ bad_table offices ids waived rows gives 14 ∷ bad_key m key gives 8 ∷ [])

-- the place is told where nothing is refused, and with 12 the rows that the office would have
unfoldable pub decided_on : (refusal place : ℕ) → Counted
decided_on refusal place = record { refusal = refusal; count = accepted refusal place (cond (eqb refusal 12) 257 0) }
