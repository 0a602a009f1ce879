-- The last step of a log in two slices: what stands before it are the first records, and what a log that ends in a step says of the step that code finds.
-- Rests on Last and GroupChecked.
use Prim.Native.Nat.{ℕ, zero, suc, ◌-◌, ◌≤◌, ◌<◌}
use mathlib.Core.Path.{◌≡◌, sym, ap, ap₂, ◌∙◌}
use mathlib.Core.Bool.{Bool, true, false}
use mathlib.Core.List.{List}
use native.Mathlib.Omega.{arith}
use lib.ListN.{length, take, length-take}
use lib.Seq.{take-length, take-take}
use Rattle.keys.proofs.Cases.{decide}
use Rattle.definitions.specs.List.{Record}
use Rattle.definitions.specs.Read.{records_of}
use Rattle.definitions.specs.Log.{closing_places, last_count, before_last, ends_in_mark, step_entries, before_entries, before_step, ends_in_entries}
use Rattle.laws.proofs.LastEntry.{before_place}
use Rattle.laws.proofs.LogEntries.{ends_in_entry}
use Rattle.laws.proofs.LastStep.{entries_single, before_single, step_single, before_group, entries_group, before_entries_less, before_step_less, EndsInGroup, ends_in_group}
use Rattle.laws.proofs.Records.{records-length, records_first}
use Rattle.edit_log.specs.declared.entry.Entry.{Entry}
use Rattle.edit_log.specs.declared.step.LogStep.{LogStep}
use Rattle.edit_log.specs.Entries.{closing_count, last_entry, Ended}
use Rattle.edit_log.specs.Steps.{last_step, EntriesLast, Stepped}
use Rattle.edit_log.proofs.Last.{last_count_at, entry_ended}
use Rattle.edit_log.proofs.GroupChecked.{entries_at}

-- before entries stand the first records, so many as there are
pub before_entries_place : (count : ℕ) (log : List Record) → before_entries count log ≡ take (length (before_entries count log)) log
unfolding before_entries
before_entries_place zero log = sym (take-length log)
before_entries_place (suc count) log =
    let n : ℕ = length (before_entries count (before_last log)) in
    before_entries_place count (before_last log)
    ∙ ap (take n) (before_place log)
    ∙ take-take n (length (before_last log)) log (before_entries_less count (before_last log))

-- and so before a step
pub before_step_place : (log : List Record) → before_step log ≡ take (length (before_step log)) log
before_step_place log =
    decide (ends_in_mark log)
    (λ mark.
    let front : List Record = take (length log - closing_places) log in
    let same = before_group log mark in
    let less = before_entries_less (last_count log) front in
    let size = length-take (length log - closing_places) log in
    same
    ∙ before_entries_place (last_count log) front
    ∙ take-take (length (before_entries (last_count log) front)) (length log - closing_places) log (omega arith)
    ∙ ap (λ x. take (length x) log) (sym same))
    (λ mark.
    let same = before_single log mark in
    same ∙ before_place log ∙ ap (λ x. take (length x) log) (sym same))

-- the last step as it was found
module _ (keys values : List ℕ) (used : ℕ) (in_keys : used ≤ length keys) (in_values : used ≤ length values) (last : LogStep)
    (found : last ≡ last_step (records_of keys values used)) where
  abbrev l : List Record
  l = records_of keys values used

  pub step_start : last.start ≡ length (before_step l)
  step_start = ap (λ x. x.start) found

  -- a step has places
  pub start_below : 0 < used → last.start < used
  start_below some =
      let less = before_step_less l in
      let size = records-length keys values used in_keys in_values in
      let e = step_start in
      omega arith

  -- what stands before it are the first records
  pub before_step_is : before_step l ≡ records_of keys values last.start
  before_step_is =
      let less = before_step_less l in
      let size = records-length keys values used in_keys in_values in
      let e = step_start in
      before_step_place l
      ∙ ap (λ n. take n l) (sym step_start)
      ∙ records_first keys values used last.start (omega arith)

-- records that end in a step
module _ {keys values : List ℕ} {used : ℕ} (d : Stepped keys values used) where
  abbrev log : List Record
  log = records_of keys values used

  size : length log ≡ used
  size = records-length keys values used d.in_keys d.in_values

  -- in a single entry
  module _ (single : ends_in_mark log ≡ false) where
    -- it is all there
    pub single_ended : Ended keys values used
    single_ended =
        entry_ended d.in_keys d.in_values (ends_in_entry d.m d.s log (sym (step_single log single d.m d.s) ∙ d.step))

    -- it is the step
    pub single_found : (last : Entry) → last ≡ last_entry log → ◌≡◌ {A = LogStep} (record { start = last.start; end = used; grouped = false }) (last_step log)
    single_found last found =
        let start : last.start ≡ length (before_step log) = ap (λ x. x.start) found ∙ ap length (sym (before_single log single)) in
        let end : used ≡ length (step_entries log) = sym (ap length (entries_single log single) ∙ size) in
        let mark : ◌≡◌ {A = Bool} false (ends_in_mark log) = sym single in
        λ i. record { start = start i; end = end i; grouped = mark i }

  -- in a group
  module _ (mark : ends_in_mark log ≡ true) where
    group : EndsInGroup d.m d.s log
    group = ends_in_group d.m d.s log mark d.step

    -- its closing records are there
    pub group_room : closing_places ≤ used
    group_room = let e = size in omega (arith, group.there)

    -- so many entries as its number says stand before them
    module _ (count : ℕ) (read : count ≡ closing_count values used) where
      count-is : count ≡ last_count log
      count-is = read ∙ sym (last_count_at keys values used d.in_keys d.in_values group_room)

      pub group_entries : EntriesLast count keys values (used - closing_places)
      group_entries =
          let in_keys = d.in_keys in
          let in_values = d.in_values in
          record {
            m = d.m;
            s = d.s;
            in_keys = omega arith;
            in_values = omega arith;
            entries = ap₂ (λ n x. ends_in_entries n d.m d.s x) count-is (sym (entries_at keys values used in_keys in_values mark) ∙ entries_group log mark) ∙ group.entries_are;
          }

      -- they are the step
      pub group_found : (first : ℕ) → first ≡ length (before_entries count (records_of keys values (used - closing_places)))
          → ◌≡◌ {A = LogStep} (record { start = first; end = used - closing_places; grouped = true }) (last_step log)
      group_found first is =
          let in_keys = d.in_keys in
          let in_values = d.in_values in
          let entries = entries_at keys values used in_keys in_values mark in
          let start : first ≡ length (before_step log)
          = is
          ∙ ap₂ (λ n x. length (before_entries n x)) count-is (sym entries ∙ entries_group log mark)
          ∙ ap length (sym (before_group log mark)) in
          let end : used - closing_places ≡ length (step_entries log)
          = sym (ap length entries ∙ records-length keys values (used - closing_places) (omega arith) (omega arith)) in
          let told' : ◌≡◌ {A = Bool} true (ends_in_mark log) = sym mark in
          λ i. record { start = start i; end = end i; grouped = told' i }
