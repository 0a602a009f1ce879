-- The table of take back past its first rows, what a taking back that is not refused may rely on, and its answer. Rests on StepAnswers and the laws of the log's
-- last entry.
use Prim.Native.Nat.{ℕ, ◌<◌}
use mathlib.Core.Path.{◌≡◌, refl, sym}
use mathlib.Core.Bool.{false}
use mathlib.Core.List.{List}
use native.Mathlib.Omega.{arith}
use lib.ListN.{length}
use lib.Dec.{eqb}
use borrow.Author.Tests.{ne_eqb}
use Rattle.definitions.specs.Read.{records_of}
use Rattle.definitions.specs.Area.{summary_of}
use Rattle.definitions.specs.Log.{ends_in_mark, before_step}
use Rattle.definitions.specs.Calls.Edit.{LentSheet, as_lent, edit_refusal}
use Rattle.definitions.specs.Calls.TakeBack.{restored_picture, restored, take_back, TakenBack}
use Rattle.laws.proofs.Edits.{SheetPassed}
use Rattle.list.proofs.Accepted.{content_is}
use Rattle.edit_log.proofs.Last.{last_entry_there}
use Rattle.edit_log.proofs.Parts.{force_sound}
use Rattle.replace.specs.Putting.{Replaced}
use Rattle.edit.specs.EditCallChecks.{list_room_refusal}
use Rattle.undo.specs.TakingBackCall.{Takeable, Restorable}
use Rattle.edit.proofs.EditCallTables.{first_passed, passed_settings, passed_own, passed_log}
use Rattle.undo.proofs.StepAnswers.{step_put, step_row}

-- a list and a log that passed, and a single entry: what taking it back asks for
pub passed_restorable : {l : LentSheet} → SheetPassed l → 0 < l.in_force → ends_in_mark (records_of l.log_keys l.log_values l.in_force) ≡ false
    → Restorable l.m l.keys l.bits l.n l.log_keys l.log_values l.in_force
passed_restorable {l} p some single =
    let last = last_entry_there (force_sound (passed_log p)) some single in
    record {
      deepest = (passed_settings p).deep;
      own = passed_own p;
      single = single;
      ended = last.ended;
      some_content = last.some_content;
      valid = last.valid;
      correct = content_is l.m l.s _ _ last.correct;
    }

module _ {l : LentSheet} (t : Takeable l) where
  pub take-sheet : SheetPassed l
  take-sheet = first_passed 0 (sym t.passed) refl

  -- 11 is passed
  pub take_own : eqb l.in_force 0 ≡ false
  take_own = let some = t.some in ne_eqb l.in_force 0 (λ z. omega arith)

module _ {m s : ℕ} {keys bits : List ℕ} {n : ℕ} {summary log_keys log_values : List ℕ} {used in_force : ℕ} where
  -- past 11 the list's room decides
  pub take_row : Takeable (as_lent m s keys bits n summary log_keys log_values used in_force)
      → list_room_refusal (restored m (records_of keys bits n) (records_of log_keys log_values in_force)) keys bits
      ≡ edit_refusal (take_back m s keys bits n summary log_keys log_values used in_force)
  unfolding restored
  take_row t = step_row _ _ _ _ (take-sheet t) (take_own t)

  -- an accepted taking back of a single entry
  pub take_done : {keys' bits' summary' : List ℕ} {after start : ℕ} → edit_refusal (take_back m s keys bits n summary log_keys log_values used in_force) ≡ 0
      → start ≡ length (before_step (records_of log_keys log_values in_force))
      → Replaced n (restored m (records_of keys bits n) (records_of log_keys log_values in_force)) keys bits keys' bits' after
      → summary' ≡ summary_of m s (restored_picture m (records_of keys bits n) (records_of log_keys log_values in_force))
      → TakenBack m s keys bits n summary log_keys log_values used in_force (record { refusal = 0; n = after; used = used; in_force = start }) keys' bits' summary' log_keys log_values
  unfolding restored
  take_done none is put counted = step_put _ _ _ _ none put counted is
