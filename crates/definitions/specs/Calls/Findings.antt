-- Findings: the rules' findings that the asking office's waivers do not cover. Refusals 21, 1, 4, 13, 14, 12.
use Rattle.std.specs.Prelude.{ℕ, Bool, cond, not, ◌||◌, List, [], ◌∷◌, map, length, ltb, eqb}
use Rattle.definitions.specs.Read.{room, records_of, picture_of}
use Rattle.definitions.specs.Buffer.{over}
use Rattle.definitions.specs.Rules.{Finding, all_findings, live_of, hidden_count, bad_rules, bad_waivers}
use Rattle.definitions.specs.Offices.{bad_office, bad_table, table_of, rows_of, row_keys_valid}
use Rattle.definitions.specs.Refusal.{◌gives◌, first, accepted, bad_settings, no_list}
use Rattle.definitions.specs.declared.Rule.{Rule}
use Rattle.definitions.specs.declared.Found.{Found}

-- the live findings, by id and then key
unfoldable pub live_in : (m : ℕ) (keys bits : List ℕ) (n : ℕ) (rules : List Rule) (waivers : List Finding) → List Finding
live_in m keys bits n rules waivers = live_of m waivers (all_findings m (picture_of m (records_of keys bits n)) rules)

unfoldable pub hidden_in : (m : ℕ) (keys bits : List ℕ) (n : ℕ) (rules : List Rule) (waivers : List Finding) → ℕ
hidden_in m keys bits n rules waivers = hidden_count m waivers (all_findings m (picture_of m (records_of keys bits n)) rules)

-- with these waivers; `wrong` says that the table is refused by itself
module _ (m s : ℕ) (keys bits : List ℕ) (n office : ℕ) (wrong : Bool) (rules : List Rule) (waivers : List Finding) (found_ids found_keys : List ℕ) where
  unfoldable pub refusal_with : ℕ
  refusal_with =
      first
      (bad_office office gives 21
      ∷ bad_settings m s gives 1
      ∷ no_list m s keys bits n gives 4
      ∷ bad_rules m s rules gives 13
      ∷ (wrong || bad_waivers m rules waivers) gives 14
      ∷ ltb (room found_ids found_keys) (length (live_in m keys bits n rules waivers)) gives 12
      ∷ [])

  -- with 12 live is the number of places needed, and hidden is 0
  unfoldable pub found_with : Found
  found_with =
      record {
        refusal = refusal_with;
        live = accepted refusal_with
            (length (live_in m keys bits n rules waivers))
            (cond (eqb refusal_with 12) (length (live_in m keys bits n rules waivers)) 0);
        hidden = accepted refusal_with (hidden_in m keys bits n rules waivers) 0;
      }

  unfoldable pub ids_with : List ℕ
  ids_with = accepted refusal_with (over (map (λ x. x.id) (live_in m keys bits n rules waivers)) found_ids) found_ids

  unfoldable pub found_keys_with : List ℕ
  found_keys_with = accepted refusal_with (over (map (λ x. x.key) (live_in m keys bits n rules waivers)) found_keys) found_keys

-- the waivers are the asking office's rows, which are checked as specification S13.14 says; the table and the keys are checked for all rows
module _ (m s : ℕ) (keys bits : List ℕ) (n office : ℕ) (rules : List Rule) (offices ids waived : List ℕ) (rows : ℕ) (found_ids found_keys : List ℕ) where
  abbrev wrong : Bool
  wrong = bad_table offices ids waived rows || not (row_keys_valid m (table_of offices ids waived rows))

  abbrev own : List Finding
  own = rows_of office (table_of offices ids waived rows)

  abbrev pub findings_refusal : ℕ
  findings_refusal = refusal_with m s keys bits n office wrong rules own found_ids found_keys

  abbrev pub findings : Found
  findings = found_with m s keys bits n office wrong rules own found_ids found_keys

  abbrev pub findings_ids : List ℕ
  findings_ids = ids_with m s keys bits n office wrong rules own found_ids found_keys

  abbrev pub findings_keys : List ℕ
  findings_keys = found_keys_with m s keys bits n office wrong rules own found_ids found_keys
