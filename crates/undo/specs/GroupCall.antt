-- What the functions that change a list by a group of entries ask and leave. Only contracts need these. Rests on the runs and steps of crate deeds.
use Rattle.std.specs.Prelude.{ℕ, ◌≤◌, ◌<◌, ◌≡◌, true, List, length}
use Rattle.keys.specs.Key.{slot_limit}
use Rattle.definitions.specs.Picture.{Picture}
use Rattle.definitions.specs.List.{Record, list_of_picture}
use Rattle.definitions.specs.Read.{room, records_of}
use Rattle.definitions.specs.Area.{summary_of}
use Rattle.definitions.specs.Refused.{refusal_number}
use Rattle.definitions.specs.declared.refusal.Refusal.{Refusal}
use Rattle.definitions.specs.Log.{ends_in_mark, step_count, step_entries, before_step, last_is_step}
use Rattle.list.specs.Own.{OwnList, shown_by}
use Rattle.replace.specs.Putting.{Replaced}
use Rattle.deeds.specs.declared.run.Run.{Run}
use Rattle.deeds.specs.Runs.{EntriesIn, last_of_run}

-- the used records of a log end in a group, at some s
pub record GroupLast (m : ℕ) (log_keys log_values : List ℕ) (used : ℕ) : Type 0 where
  pub deep : m ≤ 10
  pub s : ℕ
  pub few : s ≤ slot_limit
  pub in_keys : used ≤ length log_keys
  pub in_values : used ≤ length log_values
  pub step : last_is_step m s (records_of log_keys log_values used) ≡ true
  pub mark : ends_in_mark (records_of log_keys log_values used) ≡ true

-- its entries as a run
pub record GroupRun (m : ℕ) (run : Run) (log_keys log_values : List ℕ) (log : List Record) : Type 0 where
  pub entries : EntriesIn m run log_keys log_values
  pub start_is : run.start ≡ length (before_step log)
  pub entries_are : step_entries log ≡ records_of log_keys log_values run.end
  pub many : length (last_of_run run log_keys log_values) ≡ step_count log

-- an accepted list, and its summary
pub record WithSummary (m s : ℕ) (keys bits : List ℕ) (n : ℕ) (summary : List ℕ) : Type 0 where
  pub deep : m ≤ 10
  pub few : s ≤ slot_limit
  pub own : OwnList m keys bits n
  pub counts : summary ≡ summary_of m s (shown_by m keys bits n)

-- where there is room, the list of a picture and its summary stand, and the number of records is told
abbrev pub StepDone : (p : Picture) (m s n : ℕ) (keys bits keys' bits' summary' : List ℕ) (after : ℕ) → Type 0
StepDone p m s n keys bits keys' bits' summary' after =
    (length (list_of_picture m p) ≤ room keys bits) × Replaced n (list_of_picture m p) keys bits keys' bits' after × (summary' ≡ summary_of m s p)

-- else nothing is changed, and 9 is told
abbrev pub StepFull : (p : Picture) (m : ℕ) (keys bits summary keys' bits' summary' : List ℕ) → Refusal → Type 0
StepFull p m keys bits summary keys' bits' summary' refusal =
    (refusal_number refusal ≡ 9) × (room keys bits < length (list_of_picture m p)) × (keys' ≡ keys) × (bits' ≡ bits) × (summary' ≡ summary)
