-- A step by its places in the log's two slices, and what the functions that read it ask. Only contracts need these. Rests on Log of the definitions.
use Rattle.std.specs.Prelude.{ℕ, suc, ◌≤◌, ◌<◌, ◌≡◌, true, List, length}
use Rattle.definitions.specs.List.{Record}
use Rattle.definitions.specs.Read.{records_of}
use Rattle.definitions.specs.Log.{ends_in_mark, step_entries, before_step, ends_in_entries, last_is_step, is_sound, EndsInEntry}
use Rattle.edit_log.specs.declared.step.LogStep.{LogStep}
use Rattle.edit_log.specs.Entries.{last_entry}

-- the last step of a log: the places where its entries start and end, and whether it is a group, which two records close
abbrev pub last_step : List Record → LogStep
last_step log = record { start = length (before_step log); end = length (step_entries log); grouped = ends_in_mark log }

-- the used records are there, and end in so many entries, at some m and s
pub record EntriesLast (count : ℕ) (keys values : List ℕ) (used : ℕ) : Type 0 where
  pub m : ℕ
  pub s : ℕ
  pub in_keys : used ≤ length keys
  pub in_values : used ≤ length values
  pub entries : ends_in_entries count m s (records_of keys values used) ≡ true

-- the used records are there, and end in a step, at some m and s
pub record Stepped (keys values : List ℕ) (used : ℕ) : Type 0 where
  pub m : ℕ
  pub s : ℕ
  pub in_keys : used ≤ length keys
  pub in_values : used ≤ length values
  pub step : last_is_step m s (records_of keys values used) ≡ true

-- there are used records, and they divide into steps, at some m and s
pub record Divided (keys values : List ℕ) (used : ℕ) : Type 0 where
  pub m : ℕ
  pub s : ℕ
  pub in_keys : used ≤ length keys
  pub in_values : used ≤ length values
  pub some : 0 < used
  pub sound : is_sound m s (records_of keys values used) ≡ true

-- the places from start up to another divide into entries, so many as count says
pub data EntriesBetween (m s : ℕ) (keys values : List ℕ) (start : ℕ) : ℕ → ℕ → Type 0 where
  none_between : EntriesBetween m s keys values start 0 start
  one_between : {count end : ℕ} → start < end → end ≤ length keys → end ≤ length values → EndsInEntry m s (records_of keys values end)
      → EntriesBetween m s keys values start count (last_entry (records_of keys values end)).start
      → EntriesBetween m s keys values start (suc count) end
