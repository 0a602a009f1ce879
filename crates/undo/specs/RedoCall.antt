-- What the functions of redo ask and leave: a call that the rows before the last have passed, the records to redo, the next entry and its plan where it is a
-- single one, and the call's promise. Only contracts need these. Rests on the definitions of a log and on edit_log's Entries.
use Rattle.std.specs.Prelude.{ℕ, ◌≤◌, ◌<◌, ◌≡◌, List}
use Rattle.keys.specs.Key.{slot_limit}
use Rattle.definitions.specs.List.{Record}
use Rattle.definitions.specs.Log.{first_step}
use Rattle.definitions.specs.Calls.Edit.{LentSheet}
use Rattle.edit_log.specs.declared.entry.Entry.{Entry}
use Rattle.edit_log.specs.declared.step.LogStep.{LogStep}
use Rattle.edit_log.specs.Entries.{last_entry, WholeLog}
use Rattle.edit_log.specs.Steps.{last_step}
use Rattle.edit.specs.EditCallChecks.{sheet_refusal}

-- what 1, 4, 18, 5 and 20 do not refuse
pub record Redoable (l : LentSheet) : Type 0 where
  pub passed : sheet_refusal l ≡ 0
  pub some : l.in_force < l.used

-- a log that is sound, at some m and s, and has records to redo
pub record LogToRedo (log_keys log_values : List ℕ) (used in_force : ℕ) : Type 0 where
  pub m : ℕ
  pub s : ℕ
  pub few : s ≤ slot_limit
  pub whole : WholeLog m s log_keys log_values used in_force
  pub some : in_force < used

-- the first of the steps to redo, by its places among them
abbrev pub next_step : List Record → LogStep
next_step steps = last_step (first_step steps)

-- its entry, where it is a single one
abbrev pub next_entry : List Record → Entry
next_entry steps = last_entry (first_step steps)
