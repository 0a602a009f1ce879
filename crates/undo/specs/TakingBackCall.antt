-- What the functions of take back ask and leave: a call that the rows before the last have passed, an accepted list and a log that ends in a single entry, and
-- the call's promise. Only contracts need these. Rests on Calls/Edit of the definitions.
use Rattle.std.specs.Prelude.{ℕ, ◌≤◌, ◌<◌, ◌≡◌, true, false, List}
use Rattle.keys.specs.Key.{valid_key}
use Rattle.definitions.specs.List.{Record}
use Rattle.definitions.specs.Read.{records_of, picture_of}
use Rattle.definitions.specs.Edit.{content_of}
use Rattle.definitions.specs.Log.{last_key, last_count, last_content, ends_in_mark}
use Rattle.definitions.specs.Calls.Edit.{LentSheet}
use Rattle.list.specs.Own.{OwnList}
use Rattle.edit_log.specs.Entries.{Ended}
use Rattle.replace.specs.Put.{plan_of}
use Rattle.replace.specs.declared.plan.Plan.{Plan}
use Rattle.edit.specs.EditCallChecks.{sheet_refusal}

-- what 1, 4, 18, 5 and 11 do not refuse
pub record Takeable (l : LentSheet) : Type 0 where
  pub passed : sheet_refusal l ≡ 0
  pub some : 0 < l.in_force

-- the plan of a taking back: the last entry's content is put in
abbrev pub restore_plan : ℕ → List Record → List Record → Plan
restore_plan m l log = plan_of m l (last_key log) (last_content log)

-- an accepted list, and a log that ends in a single entry, which has a correct content of its block
pub record Restorable (m : ℕ) (keys bits : List ℕ) (n : ℕ) (log_keys log_values : List ℕ) (in_force : ℕ) : Type 0 where
  pub deepest : m ≤ 10
  pub own : OwnList m keys bits n
  pub single : ends_in_mark (records_of log_keys log_values in_force) ≡ false
  pub ended : Ended log_keys log_values in_force
  pub some_content : 0 < last_count (records_of log_keys log_values in_force)
  pub valid : valid_key m (last_key (records_of log_keys log_values in_force)) ≡ true
  pub correct : last_content (records_of log_keys log_values in_force)
      ≡ content_of m (picture_of m (last_content (records_of log_keys log_values in_force))) (last_key (records_of log_keys log_values in_force))
