-- Add waiver: an office's row more in the table. Refusals 21, 1 (for m alone), 14, 8, 22, 12.
use Rattle.std.specs.Prelude.{ℕ, ◌+◌, cond, List, [], ◌∷◌, map, length, leb, ltb, eqb}
use Rattle.keys.specs.Key.{deepest_level}
use Rattle.definitions.specs.Buffer.{over}
use Rattle.definitions.specs.Offices.{Waiver, waiver_of, office_limit, bad_office, bad_table, table_of, rows_of, is_row, added}
use Rattle.definitions.specs.Refusal.{◌gives◌, first, accepted, bad_key}
use Rattle.definitions.specs.declared.Counted.{Counted}

module _ (m office : ℕ) (offices ids waived : List ℕ) (rows id key : ℕ) where
  -- the table afterwards
  abbrev pub after_adding : List Waiver
  after_adding = added (waiver_of office id key) (table_of offices ids waived rows)

  unfoldable pub add_refusal : ℕ
  add_refusal =
      first
      (bad_office office gives 21
      ∷ ltb deepest_level m gives 1
      ∷ bad_table offices ids waived rows gives 14
      ∷ bad_key m key gives 8
      ∷ is_row (waiver_of office id key) (table_of offices ids waived rows) gives 22
      ∷ leb office_limit (length (rows_of office (table_of offices ids waived rows))) gives 12
      ∷ [])

  -- the rows afterwards; with 12 the rows that the office would have
  unfoldable pub add_waiver : Counted
  add_waiver =
      record { refusal = add_refusal; count = accepted add_refusal (rows + 1) (cond (eqb add_refusal 12) (office_limit + 1) 0) }

  unfoldable pub add_offices : List ℕ
  add_offices = accepted add_refusal (over (map (λ w. w.office) after_adding) offices) offices

  unfoldable pub add_ids : List ℕ
  add_ids = accepted add_refusal (over (map (λ w. w.id) after_adding) ids) ids

  unfoldable pub add_keys : List ℕ
  add_keys = accepted add_refusal (over (map (λ w. w.key) after_adding) waived) waived
