-- A group in force that is taken back: what its run and the list ask for, and the call's answers. Rests on TakingBackTable, StepAnswers and GroupRuns.
use Prim.Native.Nat.{ℕ, ◌≤◌}
use mathlib.Core.Path.{◌≡◌, subst}
use mathlib.Core.List.{List}
use mathlib.Core.Bool.{true}
use native.Mathlib.Omega.{arith}
use lib.ListN.{length}
use Rattle.definitions.specs.Read.{records_of}
use Rattle.definitions.specs.Log.{ends_in_mark}
use Rattle.definitions.specs.Calls.Edit.{LentSheet, as_lent}
use Rattle.definitions.specs.Calls.TakeBack.{restored_picture, TakenBack}
use Rattle.definitions.specs.Refused.{refusal_number}
use Rattle.definitions.specs.declared.refusal.Refusal.{Refusal}
use Rattle.list.specs.Own.{shown_by}
use Rattle.deeds.specs.Step.{step_over}
use Rattle.deeds.specs.Deed.{step_of}
use Rattle.deeds.specs.declared.run.Run.{Run}
use Rattle.deeds.specs.declared.deed.Deed.TheVariants.{Back}
use Rattle.laws.proofs.SoundLog.{sound_last}
use Rattle.laws.proofs.Records.{records-length}
use Rattle.undo.specs.GroupCall.{GroupLast, GroupRun, WithSummary, StepDone, StepFull}
use Rattle.undo.specs.TakingBackCall.{Takeable}
use Rattle.edit.proofs.EditCallTables.{passed_settings, passed_own, passed_summary, passed_log}
use Rattle.undo.proofs.TakingBackTable.{take-sheet, take_own}
use Rattle.undo.proofs.StepAnswers.{step_applied, step_full}
use Rattle.undo.proofs.GroupRuns.{back_over}

module _ {l : LentSheet} (t : Takeable l) where
  -- the list and its summary
  pub take-kept : WithSummary l.m l.s l.keys l.bits l.n l.summary
  take-kept =
      let rows = take-sheet t in
      let few = (passed_settings rows).few in
      record { deep = (passed_settings rows).deep; few = omega arith; own = passed_own rows; counts = passed_summary rows }

  -- the group that the records in force end in
  pub take-group : ends_in_mark (records_of l.log_keys l.log_values l.in_force) ≡ true → GroupLast l.m l.log_keys l.log_values l.in_force
  take-group mark =
      let rows = take-sheet t in
      let few = (passed_settings rows).few in
      let whole = passed_log rows in
      let some = t.some in
      let within = whole.within in
      let in_keys : l.in_force ≤ length l.log_keys = omega (arith, whole.in_keys) in
      let in_values : l.in_force ≤ length l.log_values = omega (arith, whole.in_values) in
      let size = records-length l.log_keys l.log_values l.in_force in_keys in_values in
      record {
        deep = (passed_settings rows).deep;
        s = l.s;
        few = omega arith;
        in_keys = in_keys;
        in_values = in_values;
        step = sound_last l.m l.s (records_of l.log_keys l.log_values l.in_force) whole.in-force (omega arith);
        mark = mark;
      }

module _ {m s : ℕ} {keys bits : List ℕ} {n : ℕ} {summary log_keys log_values : List ℕ} {used in_force : ℕ}
    (t : Takeable (as_lent m s keys bits n summary log_keys log_values used in_force)) {run : Run}
    (g : GroupRun m run log_keys log_values (records_of log_keys log_values in_force)) where
  over : step_over (step_of m (Back run) log_keys log_values) (shown_by m keys bits n) ≡ restored_picture m (records_of keys bits n) (records_of log_keys log_values in_force)
  over = back_over g (shown_by m keys bits n)

  -- it is taken back
  pub group_taken : {keys' bits' summary' : List ℕ} {after : ℕ}
      → StepDone (step_over (step_of m (Back run) log_keys log_values) (shown_by m keys bits n)) m s n keys bits keys' bits' summary' after
      → TakenBack m s keys bits n summary log_keys log_values used in_force (record { refusal = 0; n = after; used = used; in_force = run.start }) keys' bits' summary' log_keys log_values
  group_taken {keys'} {bits'} {summary'} {after} made =
      step_applied _ _ _ _ (take-sheet t) (take_own t) (subst (λ p. StepDone p m s n keys bits keys' bits' summary' after) over made) g.start_is

  -- or there is no room
  pub group_left : {keys' bits' summary' : List ℕ} (refusal : Refusal)
      → StepFull (step_over (step_of m (Back run) log_keys log_values) (shown_by m keys bits n)) m keys bits summary keys' bits' summary' refusal
      → TakenBack m s keys bits n summary log_keys log_values used in_force (record { refusal = refusal_number refusal; n = 0; used = 0; in_force = 0 }) keys' bits' summary' log_keys log_values
  group_left {keys'} {bits'} {summary'} refusal left =
      step_full _ _ _ _ (take-sheet t) (take_own t) refusal (subst (λ p. StepFull p m keys bits summary keys' bits' summary' refusal) over left)
