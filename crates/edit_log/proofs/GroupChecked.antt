-- The check of a group by its closing records and the entries before them, where the last record has the mark: one answer for each way out of the code. Rests
-- on Last.
use Prim.Native.Nat.{ℕ, ◌-◌, ◌≤◌, ◌<◌}
use mathlib.Core.Path.{◌≡◌, refl, sym, ap, ap₂, ◌∙◌}
use mathlib.Core.Bool.{Bool, true, false, ◌&&◌}
use mathlib.Core.List.{List}
use native.Mathlib.Omega.{arith}
use lib.ListN.{length, get_or, take}
use lib.Dec.{ltb, eqb}
use borrow.Author.Tests.{le-leb, lt-leb, eq-eqb, ne_eqb, lt-ltb, le-ltb}
use Rattle.keys.specs.Key.{root_key}
use Rattle.keys.proofs.Cases.{decide}
use Rattle.definitions.specs.List.{Record}
use Rattle.definitions.specs.Read.{records_of}
use Rattle.definitions.specs.Log.{closing_places, count_record, ends_in_mark, step_count, step_entries, ends_in_entries, last_is_group}
use Rattle.laws.proofs.LastStep.{count_group, entries_group}
use Rattle.laws.proofs.Records.{records-length, records_first}
use Rattle.edit_log.specs.Entries.{closing_count}
use Rattle.edit_log.proofs.Last.{count_record_at, last_count_at}

module _ (keys values : List ℕ) (used : ℕ) (in_keys : used ≤ length keys) (in_values : used ≤ length values)
    (mark : ends_in_mark (records_of keys values used) ≡ true) where
  -- the records
  abbrev l : List Record
  l = records_of keys values used

  -- those before the closing records
  pub entries_at : step_entries l ≡ records_of keys values (used - closing_places)
  entries_at =
      entries_group l mark
      ∙ ap (λ n. take (n - closing_places) l) (records-length keys values used in_keys in_values)
      ∙ records_first keys values used (used - closing_places) (omega arith)

  -- their number
  pub count_at : closing_places ≤ used → step_count l ≡ closing_count values used
  count_at room = count_group l mark ∙ last_count_at keys values used in_keys in_values room

  module _ (m s : ℕ) where
    -- the closing records are not all there
    pub too_few : used < closing_places → false ≡ last_is_group m s l
    unfolding last_is_group
    too_few h =
        let size = records-length keys values used in_keys in_values in
        sym (ap (λ b. b && eqb (count_record l).key root_key && ltb 0 (step_count l) && ends_in_entries (step_count l) m s (step_entries l))
        (lt-leb closing_places (length l) (omega arith)))

    module _ (room : closing_places ≤ used) where
      group_by : (root has last : Bool) → eqb (get_or keys (used - 2) 0) root_key ≡ root → ltb 0 (closing_count values used) ≡ has
          → ends_in_entries (closing_count values used) m s (records_of keys values (used - closing_places)) ≡ last
          → root && has && last ≡ last_is_group m s l
      unfolding last_is_group
      group_by root has last e f g =
          let size = records-length keys values used in_keys in_values in
          let key : (count_record l).key ≡ get_or keys (used - 2) 0 = ap (λ x. x.key) (count_record_at keys values used in_keys in_values room) in
          sym (ap₂ ◌&&◌
          (ap₂ ◌&&◌
          (ap₂ ◌&&◌ (le-leb closing_places (length l) (omega arith)) (ap (λ x. eqb x root_key) key ∙ e))
          (ap (ltb 0) (count_at room) ∙ f))
          (ap₂ (λ n x. ends_in_entries n m s x) (count_at room) entries_at ∙ g))

      -- the number has another key
      pub other_key : (get_or keys (used - 2) 0 ≡ root_key → ⊥) → false ≡ last_is_group m s l
      other_key other = group_by false _ _ (ne_eqb _ _ other) refl refl

      -- the number is 0
      pub no_number : closing_count values used ≡ 0 → false ≡ last_is_group m s l
      no_number none =
          let no_entries = le-ltb 0 (closing_count values used) (omega arith) in
          decide (eqb (get_or keys (used - 2) 0) root_key) (λ root. group_by true false _ root no_entries refl) (λ root. group_by false false _ root no_entries refl)

      -- there is a number, and the entries decide
      pub entries_decide : (r : Bool) (count : ℕ) → count ≡ closing_count values used → get_or keys (used - 2) 0 ≡ root_key → (count ≡ 0 → ⊥)
          → r ≡ ends_in_entries count m s (records_of keys values (used - closing_places))
          → r ≡ last_is_group m s l
      entries_decide r count read root some told =
          told
          ∙ ap (λ n. ends_in_entries n m s (records_of keys values (used - closing_places))) read
          ∙ group_by true true (ends_in_entries (closing_count values used) m s (records_of keys values (used - closing_places)))
          (eq-eqb _ _ root)
          (lt-ltb 0 (closing_count values used) (omega (arith, some)))
          refl
