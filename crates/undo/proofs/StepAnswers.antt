-- What taking back and redo share: an edit that leaves the log, with one row of its own. Past that the list's room decides; and its answers, by a list that was
-- put and by a group that was applied. Rests on the laws of edits.
use Prim.Native.Nat.{ℕ}
use mathlib.Core.Path.{◌≡◌, refl, sym, ◌∙◌}
use mathlib.Core.Bool.{false}
use mathlib.Core.List.{List, [], ◌∷◌}
use lib.ListN.{length}
use Rattle.definitions.specs.Picture.{Picture}
use Rattle.definitions.specs.List.{list_of_picture}
use Rattle.definitions.specs.Area.{summary_of}
use Rattle.definitions.specs.Refusal.{Row}
use Rattle.definitions.specs.Calls.Edit.{LentSheet, Edit, edit_refusal, Edits}
use Rattle.definitions.specs.Refused.{refusal_number}
use Rattle.definitions.specs.declared.refusal.Refusal.{Refusal}
use Rattle.definitions.proofs.Refused.{refusal_some}
use Rattle.laws.proofs.Edits.{SheetPassed, rest_decides, list_full, room_enough, edit_refused, edit_done}
use Rattle.replace.specs.Putting.{Replaced}
use Rattle.edit.specs.EditCallChecks.{list_room_refusal}
use Rattle.undo.specs.GroupCall.{StepDone, StepFull}

abbrev pub step_on : (l : LentSheet) (row : Row) (picture : Picture) (in_force : ℕ) → Edit
step_on l row picture in_force =
    record { lent = l; rows = row ∷ []; picture = picture; log_keys = l.log_keys; log_values = l.log_values; used = l.used; in_force = in_force }

module _ (l : LentSheet) (row : Row) (picture : Picture) (in_force : ℕ) where
  -- an accepted one, once its list is put and its summary counted
  pub step_put : {keys' bits' summary' : List ℕ} {after reached : ℕ} → edit_refusal (step_on l row picture in_force) ≡ 0
      → Replaced l.n (list_of_picture l.m picture) l.keys l.bits keys' bits' after
      → summary' ≡ summary_of l.m l.s picture
      → reached ≡ in_force
      → Edits (step_on l row picture in_force) (record { refusal = 0; n = after; used = l.used; in_force = reached }) keys' bits' summary' l.log_keys l.log_values
  step_put none put counted is =
      edit_done (step_on l row picture in_force) none put.length-is put.keys_are put.values_are counted refl is refl refl

  module _ (p : SheetPassed l) (passed : row.test ≡ false) where
    -- past its own row the list's room decides
    pub step_row : list_room_refusal (list_of_picture l.m picture) l.keys l.bits ≡ edit_refusal (step_on l row picture in_force)
    unfolding list_room_refusal
    step_row = rest_decides (step_on l row picture in_force) p (row ∷ []) _ refl (passed, tt)

    module _ {keys' bits' summary' : List ℕ} where
      -- 9
      pub step_full : (refusal : Refusal) → StepFull picture l.m l.keys l.bits l.summary keys' bits' summary' refusal
          → Edits (step_on l row picture in_force) (record { refusal = refusal_number refusal; n = 0; used = 0; in_force = 0 }) keys' bits' summary' l.log_keys l.log_values
      step_full refusal left =
          let refused = list_full (step_on l row picture in_force) p (passed, tt) (length (list_of_picture l.m picture)) refl left.1 in
          let told = edit_refused (step_on l row picture in_force) (refusal_number refusal) (left.0 ∙ refused) (refusal_some refusal) in
          record {
            answer = told.answer;
            keys_are = left.2 ∙ told.keys_are;
            bits_are = left.3 ∙ told.bits_are;
            summary_is = left.4 ∙ told.summary_is;
            log_keys_are = told.log_keys_are;
            log_values_are = told.log_values_are;
          }

      -- the group is taken back or redone
      pub step_applied : {after reached : ℕ} → StepDone picture l.m l.s l.n l.keys l.bits keys' bits' summary' after → reached ≡ in_force
          → Edits (step_on l row picture in_force) (record { refusal = 0; n = after; used = l.used; in_force = reached }) keys' bits' summary' l.log_keys l.log_values
      step_applied made is =
          let none = room_enough (step_on l row picture in_force) p (passed, tt) (length (list_of_picture l.m picture)) refl made.0 in
          step_put (sym none) made.1 made.2 is
