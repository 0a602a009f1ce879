-- The table of redo past its first rows, what a redo that is not refused may rely on, and its answer. Rests on StepAnswers.
use Prim.Native.Nat.{ℕ, ◌+◌}
use mathlib.Core.Path.{◌≡◌, refl, sym, ap, ◌∙◌}
use mathlib.Core.Bool.{false}
use mathlib.Core.List.{List}
use native.Mathlib.Omega.{arith}
use lib.ListN.{length}
use lib.Dec.{eqb}
use borrow.Author.Tests.{ne_eqb}
use Rattle.definitions.specs.Read.{records_of}
use Rattle.definitions.specs.Area.{summary_of}
use Rattle.definitions.specs.Log.{first_step, to_redo}
use Rattle.definitions.specs.Calls.Edit.{LentSheet, as_lent, edit_refusal}
use Rattle.definitions.specs.Calls.Paint.{painted}
use Rattle.definitions.specs.Calls.Redo.{redone_picture, redone, redo, Redone}
use Rattle.laws.proofs.Edits.{SheetPassed}
use Rattle.replace.specs.Putting.{Replaced}
use Rattle.edit.specs.EditCallChecks.{list_room_refusal}
use Rattle.undo.specs.RedoCall.{Redoable, LogToRedo}
use Rattle.edit.proofs.EditCallTables.{first_passed, passed_settings, passed_log}
use Rattle.undo.proofs.StepAnswers.{step_put, step_row}

module _ {l : LentSheet} (t : Redoable l) where
  pub redo_sheet : SheetPassed l
  redo_sheet = first_passed 0 (sym t.passed) refl

  -- 20 is passed
  pub redo_own : eqb l.in_force l.used ≡ false
  redo_own = let some = t.some in ne_eqb l.in_force l.used (λ z. omega arith)

  -- the log has records to redo
  abbrev pub to-redo : LogToRedo l.log_keys l.log_values l.used l.in_force
  to-redo =
      let few = (passed_settings redo_sheet).few in
      record { m = l.m; s = l.s; few = omega arith; whole = passed_log redo_sheet; some = t.some }

module _ {m s : ℕ} {keys bits : List ℕ} {n : ℕ} {summary log_keys log_values : List ℕ} {used in_force : ℕ} where
  -- past 20 the list's room decides, here by the list of a single paint
  pub painted_row : Redoable (as_lent m s keys bits n summary log_keys log_values used in_force) → (κ f : ℕ)
      → painted m (records_of keys bits n) κ f ≡ redone m (records_of keys bits n) (to_redo log_keys log_values used in_force)
      → list_room_refusal (painted m (records_of keys bits n) κ f) keys bits ≡ edit_refusal (redo m s keys bits n summary log_keys log_values used in_force)
  unfolding redone
  painted_row t κ f same = ap (λ l. list_room_refusal l keys bits) same ∙ step_row _ _ _ _ (redo_sheet t) (redo_own t)

  -- an accepted redo of a single entry
  pub redo_done : {keys' bits' summary' : List ℕ} {after next : ℕ} → edit_refusal (redo m s keys bits n summary log_keys log_values used in_force) ≡ 0
      → next ≡ in_force + length (first_step (to_redo log_keys log_values used in_force))
      → Replaced n (redone m (records_of keys bits n) (to_redo log_keys log_values used in_force)) keys bits keys' bits' after
      → summary' ≡ summary_of m s (redone_picture m (records_of keys bits n) (to_redo log_keys log_values used in_force))
      → Redone m s keys bits n summary log_keys log_values used in_force (record { refusal = 0; n = after; used = used; in_force = next }) keys' bits' summary' log_keys log_values
  unfolding redone
  redo_done none is put counted = step_put _ _ _ _ none put counted is
