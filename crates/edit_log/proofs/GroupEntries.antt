-- The entries of a group by their places: between where the group starts and where its closing records stand there are so many entries as its number says.
-- Rests on Last, Places and GroupChecked.
use Prim.Native.Nat.{ℕ, zero, suc, ◌-◌, ◌≤◌}
use mathlib.Core.Path.{◌≡◌, refl, sym, ap, ap₂, ◌∙◌, subst}
use mathlib.Core.Bool.{Bool, true}
use mathlib.Core.List.{List}
use native.Mathlib.Omega.{arith}
use lib.ListN.{length}
use Rattle.keys.proofs.Cases.{and_left, and_right}
use Rattle.definitions.specs.List.{Record}
use Rattle.definitions.specs.Read.{records_of}
use Rattle.definitions.specs.Log.{closing_places, before_last, last_is_entry, ends_in_mark, step_count, step_entries, before_entries, before_step, ends_in_entries, last_is_step}
use Rattle.laws.proofs.LogEntries.{ends_in_entry}
use Rattle.laws.proofs.LastStep.{count_group, entries_group, before_entries_less, ends_in_group}
use Rattle.laws.proofs.Records.{records-length}
use Rattle.edit_log.specs.Entries.{last_entry, Ended}
use Rattle.edit_log.specs.Steps.{EntriesBetween, none_between, one_between}
use Rattle.edit_log.proofs.Last.{entry_ended}
use Rattle.edit_log.proofs.Places.{places_are, before_is}
use Rattle.edit_log.proofs.GroupChecked.{entries_at}

-- the entries that records end in
pub last_between : (count m s : ℕ) (keys values : List ℕ) (end : ℕ) → end ≤ length keys → end ≤ length values
    → ends_in_entries count m s (records_of keys values end) ≡ true
    → EntriesBetween m s keys values (length (before_entries count (records_of keys values end))) count end
unfolding ends_in_entries before_entries
last_between zero m s keys values end in_keys in_values e =
    subst (λ x. EntriesBetween m s keys values (length (records_of keys values end)) 0 x) (records-length keys values end in_keys in_values) none_between
last_between (suc count) m s keys values end in_keys in_values e =
    let log : List Record = records_of keys values end in
    let is_entry : Bool = last_is_entry m s log in
    let others : Bool = ends_in_entries count m s (before_last log) in
    let ends = ends_in_entry m s log (and_left is_entry others e) in
    let ended : Ended keys values end = entry_ended in_keys in_values ends in
    let all = places_are ended (last_entry log) refl in
    let before = before_is ended (last_entry log) refl in
    let less = before_entries_less count (before_last log) in
    one_between {end = end} (omega arith) in_keys in_values ends
    (subst (λ x. EntriesBetween m s keys values x count (length (before_last log))) (ap (λ l. length (before_entries count l)) (sym before))
    (last_between count m s keys values (length (before_last log)) (omega arith) (omega arith)
    (sym (ap (ends_in_entries count m s) before) ∙ and_right is_entry others e)))

-- so of a group that they end in
pub group_between : (m s : ℕ) (keys values : List ℕ) (used : ℕ) → used ≤ length keys → used ≤ length values
    → last_is_step m s (records_of keys values used) ≡ true
    → ends_in_mark (records_of keys values used) ≡ true
    → EntriesBetween m s keys values (length (before_step (records_of keys values used))) (step_count (records_of keys values used))
    (length (step_entries (records_of keys values used)))
unfolding before_step
group_between m s keys values used in_keys in_values step mark =
    let log : List Record = records_of keys values used in
    let entries : step_entries log ≡ records_of keys values (used - closing_places) = entries_at keys values used in_keys in_values mark in
    let end : length (step_entries log) ≡ used - closing_places = ap length entries ∙ records-length keys values (used - closing_places) (omega arith) (omega arith) in
    let told : ends_in_entries (step_count log) m s (records_of keys values (used - closing_places)) ≡ true
    = ap₂ (λ n l. ends_in_entries n m s l) (count_group log mark) (sym entries ∙ entries_group log mark) ∙ (ends_in_group m s log mark step).entries_are in
    subst (λ x. EntriesBetween m s keys values (length (before_entries (step_count log) (step_entries log))) (step_count log) x) (sym end)
    (subst (λ x. EntriesBetween m s keys values x (step_count log) (used - closing_places)) (ap (λ l. length (before_entries (step_count log) l)) (sym entries))
    (last_between (step_count log) m s keys values (used - closing_places) (omega arith) (omega arith) told))
