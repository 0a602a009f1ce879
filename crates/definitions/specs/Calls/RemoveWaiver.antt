-- Remove waiver: a row of the office less in the table, and the place given up zero. Refusals 21, 1 (for m alone), 14, 8, 22.
use Rattle.std.specs.Prelude.{ℕ, ◌-◌, not, List, [], ◌∷◌, map, ltb}
use Rattle.keys.specs.Key.{deepest_level}
use Rattle.definitions.specs.Buffer.{replaced}
use Rattle.definitions.specs.Offices.{Waiver, waiver_of, bad_office, bad_table, table_of, is_row, removed}
use Rattle.definitions.specs.Refusal.{◌gives◌, first, accepted, bad_key}
use Rattle.definitions.specs.declared.Counted.{Counted}

module _ (m office : ℕ) (offices ids waived : List ℕ) (rows id key : ℕ) where
  -- the table afterwards
  abbrev pub after_removing : List Waiver
  after_removing = removed (waiver_of office id key) (table_of offices ids waived rows)

  unfoldable pub remove_refusal : ℕ
  remove_refusal =
      first
      (bad_office office gives 21
      ∷ ltb deepest_level m gives 1
      ∷ bad_table offices ids waived rows gives 14
      ∷ bad_key m key gives 8
      ∷ not (is_row (waiver_of office id key) (table_of offices ids waived rows)) gives 22
      ∷ [])

  -- the rows afterwards
  unfoldable pub remove_waiver : Counted
  remove_waiver = record { refusal = remove_refusal; count = accepted remove_refusal (rows - 1) 0 }

  unfoldable pub remove_offices : List ℕ
  remove_offices = accepted remove_refusal (replaced rows (map (λ w. w.office) after_removing) offices) offices

  unfoldable pub remove_ids : List ℕ
  remove_ids = accepted remove_refusal (replaced rows (map (λ w. w.id) after_removing) ids) ids

  unfoldable pub remove_keys : List ℕ
  remove_keys = accepted remove_refusal (replaced rows (map (λ w. w.key) after_removing) waived) waived
