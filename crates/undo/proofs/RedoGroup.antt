-- A group that is redone: what its run and the list ask for, and the call's answers. Rests on GroupRuns and StepAnswers, on
-- RedoPlan and RedoTable.
use Prim.Native.Nat.{ℕ, ◌+◌, ◌-◌, ◌≤◌}
use mathlib.Core.Path.{◌≡◌, sym, ◌∙◌, ap, subst}
use mathlib.Core.Bool.{true}
use mathlib.Core.List.{List}
use native.Mathlib.Omega.{arith}
use lib.ListN.{length, take, drop, length-take}
use Rattle.definitions.specs.List.{Record}
use Rattle.definitions.specs.Read.{records_of}
use Rattle.definitions.specs.Log.{closing_places, ends_in_mark, step_count, step_entries, last_is_step, first_step, paint_again, to_redo}
use Rattle.definitions.specs.Calls.Edit.{as_lent}
use Rattle.definitions.specs.Calls.Redo.{redone_picture, Redone}
use Rattle.definitions.specs.Refused.{refusal_number}
use Rattle.definitions.specs.declared.refusal.Refusal.{Refusal}
use Rattle.deeds.specs.Step.{step_over}
use Rattle.deeds.specs.Deed.{step_of}
use Rattle.deeds.specs.declared.run.Run.{Run}
use Rattle.deeds.specs.declared.deed.Deed.TheVariants.{Again}
use Rattle.laws.proofs.LastStep.{entries_group, ends_in_group}
use Rattle.list.specs.Own.{shown_by}
use Rattle.undo.specs.GroupCall.{GroupLast, GroupRun, WithSummary, StepDone, StepFull}
use Rattle.undo.specs.RedoCall.{Redoable, LogToRedo}
use Rattle.edit.proofs.EditCallTables.{passed_settings, passed_own, passed_summary}
use Rattle.undo.proofs.GroupRuns.{again_over}
use Rattle.undo.proofs.StepAnswers.{step_applied, step_full}
use Rattle.undo.proofs.RedoPlan.{redo_first, part_lent, end_within, first_records}
use Rattle.undo.proofs.RedoTable.{redo_sheet, redo_own, to-redo}

module _ {m s : ℕ} {keys bits : List ℕ} {n : ℕ} {summary log_keys log_values : List ℕ} {used in_force : ℕ}
    (t : Redoable (as_lent m s keys bits n summary log_keys log_values used in_force)) where
  -- the records to redo, and their first step
  abbrev steps : List Record
  steps = to_redo log_keys log_values used in_force

  abbrev log : LogToRedo log_keys log_values used in_force
  log = to-redo t

  -- the list and its summary
  pub redo_kept : WithSummary m s keys bits n summary
  redo_kept =
      let rows = redo_sheet t in
      let few = (passed_settings rows).few in
      record { deep = (passed_settings rows).deep; few = omega arith; own = passed_own rows; counts = passed_summary rows }

  -- the next step is a group, whose entries end at a place
  module _ (mark : ends_in_mark (first_step (to_redo log_keys log_values used in_force)) ≡ true) (end : ℕ)
      (end_is : end ≡ length (step_entries (first_step (to_redo log_keys log_values used in_force)))) where
    -- the group has two places more
    pub past_is : end + 2 ≡ length (first_step (to_redo log_keys log_values used in_force))
    past_is =
        let first : List Record = first_step steps in
        let there = (ends_in_group m s first mark (redo_first log).is_step).there in
        let size = ap length (entries_group first mark) ∙ length-take (length first - closing_places) first in
        omega arith

    -- which are there
    pub past_within : in_force + (end + 2) ≤ used
    past_within = end_within log (end + 2) past_is

    first_is : first_step (to_redo log_keys log_values used in_force)
        ≡ records_of (take (used - in_force) (drop in_force log_keys)) (take (used - in_force) (drop in_force log_values)) (end + 2)
    first_is = first_records log (end + 2) past_is

    -- the group as it is lent
    pub redo_last : GroupLast m (take (used - in_force) (drop in_force log_keys)) (take (used - in_force) (drop in_force log_values)) (end + 2)
    redo_last =
        let rows = redo_sheet t in
        let few = (passed_settings rows).few in
        let within = past_within in
        let k = part_lent log log_keys log.whole.in_keys in
        let v = part_lent log log_values log.whole.in_values in
        record {
          deep = (passed_settings rows).deep;
          s = s;
          few = omega arith;
          in_keys = omega arith;
          in_values = omega arith;
          step = ap (last_is_step m s) (sym first_is) ∙ (redo_first log).is_step;
          mark = ap ends_in_mark (sym first_is) ∙ mark;
        }

    module _ {run : Run} (g : GroupRun m run (take (used - in_force) (drop in_force log_keys)) (take (used - in_force) (drop in_force log_values))
        (records_of (take (used - in_force) (drop in_force log_keys)) (take (used - in_force) (drop in_force log_values)) (end + 2))) where
      over : step_over (step_of m (Again run) (take (used - in_force) (drop in_force log_keys)) (take (used - in_force) (drop in_force log_values))) (shown_by m keys bits n)
          ≡ redone_picture m (records_of keys bits n) (to_redo log_keys log_values used in_force)
      over = again_over g (shown_by m keys bits n) ∙ ap (λ x. paint_again (step_count x) m (step_entries x) (shown_by m keys bits n)) (sym first_is)

      pub group_redone : {keys' bits' summary' : List ℕ} {after : ℕ}
          → StepDone (step_over (step_of m (Again run) (take (used - in_force) (drop in_force log_keys)) (take (used - in_force) (drop in_force log_values))) (shown_by m keys bits n))
          m s n keys bits keys' bits' summary' after
          → Redone m s keys bits n summary log_keys log_values used in_force (record { refusal = 0; n = after; used = used; in_force = in_force + (end + 2) }) keys' bits' summary' log_keys log_values
      group_redone {keys'} {bits'} {summary'} {after} made =
          step_applied _ _ _ _ (redo_sheet t) (redo_own t) (subst (λ p. StepDone p m s n keys bits keys' bits' summary' after) over made) (ap (λ x. in_force + x) past_is)

      pub group_full : {keys' bits' summary' : List ℕ} (refusal : Refusal)
          → StepFull (step_over (step_of m (Again run) (take (used - in_force) (drop in_force log_keys)) (take (used - in_force) (drop in_force log_values))) (shown_by m keys bits n))
          m keys bits summary keys' bits' summary' refusal
          → Redone m s keys bits n summary log_keys log_values used in_force (record { refusal = refusal_number refusal; n = 0; used = 0; in_force = 0 }) keys' bits' summary' log_keys log_values
      group_full {keys'} {bits'} {summary'} refusal left =
          step_full _ _ _ _ (redo_sheet t) (redo_own t) refusal (subst (λ p. StepFull p m keys bits summary keys' bits' summary' refusal) over left)
