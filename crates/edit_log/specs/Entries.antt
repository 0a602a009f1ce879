-- An entry by its places in the log's two slices, and what the functions that read, write and clear it ask and leave. Only contracts need these.
-- Rests on Log of the definitions.
use Rattle.std.specs.Prelude.{ℕ, ◌+◌, ◌-◌, ◌^◌, ◌≤◌, ◌<◌, ◌≡◌, Bool, true, ◌&&◌, List, length, get_or, take, drop, replicate, leb}
use Rattle.definitions.specs.List.{Record, keys_of, values_of}
use Rattle.definitions.specs.Read.{room, paired, records_of}
use Rattle.definitions.specs.Buffer.{over_at}
use Rattle.definitions.specs.Log.{closing_places, last_key, last_feature, last_count, before_last, closes, is_sound, to_redo}
use Rattle.edit_log.specs.declared.entry.Entry.{Entry}

-- the key, the feature and the count of the records that close the used ones
abbrev pub closing_key : List ℕ → ℕ → ℕ
closing_key keys used = get_or keys (used - 1) 0

abbrev pub closing_feature : List ℕ → ℕ → ℕ
closing_feature values used = get_or values (used - 1) 0

abbrev pub closing_count : List ℕ → ℕ → ℕ
closing_count values used = get_or values (used - 2) 0

-- the last entry is all among the records, and closed
unfoldable pub is_closed : ℕ → List Record → Bool
is_closed s log = leb (last_count log + closing_places) (length log) && closes s log

-- the last entry of a log: its key, the place where its content starts, how many records that has, and its feature
abbrev pub last_entry : List Record → Entry
last_entry log = record { key = last_key log; start = length (before_last log); count = last_count log; feature = last_feature log }

-- the used records are there, and their last entry is all among them
pub record Ended (keys values : List ℕ) (used : ℕ) : Type 0 where
  pub in_keys : used ≤ length keys
  pub in_values : used ≤ length values
  pub all_there : last_count (records_of keys values used) + closing_places ≤ used

-- so many records of two slices as count says, from a place on
abbrev pub records_from_place : List ℕ → List ℕ → ℕ → ℕ → List Record
records_from_place keys bits place count = paired (take count (drop place keys)) (take count (drop place bits))

-- the part of a slice of the log that an entry's content is lent as
abbrev pub content_part : Entry → List ℕ → List ℕ
content_part last l = take (last.start + last.count - last.start) (drop last.start l)

-- the content of an entry lies in two slices from a place on, and the log has room for the entry
pub record Loggable (new : Entry) (keys bits : List ℕ) (place : ℕ) (log_keys log_values : List ℕ) : Type 0 where
  pub content_there : place + new.count ≤ room keys bits
  pub fits : new.start + (new.count + closing_places) ≤ room log_keys log_values
  pub small : new.count < 2 ^ 32

-- an entry stands from a place on; all other places stay, and the place past it is told
pub record Logged (entry : List Record) (start : ℕ) (keys values keys' values' : List ℕ) (next : ℕ) : Type 0 where
  pub keys_are : keys' ≡ over_at start (keys_of entry) keys
  pub values_are : values' ≡ over_at start (values_of entry) values
  pub used_are : next ≡ start + length entry

-- the places from start on, up to those used, are zero; all other places stay
pub record Cleared (start used : ℕ) (keys values keys' values' : List ℕ) : Type 0 where
  pub keys_are : keys' ≡ over_at start (replicate (used - start) 0) keys
  pub values_are : values' ≡ over_at start (replicate (used - start) 0) values

-- a log that is not refused with 5: the used records are there, those in force are the first of them, and both parts divide into steps
pub record WholeLog (m s : ℕ) (keys values : List ℕ) (used in_force : ℕ) : Type 0 where
  pub in_keys : used ≤ length keys
  pub in_values : used ≤ length values
  pub within : in_force ≤ used
  pub in-force : is_sound m s (records_of keys values in_force) ≡ true
  pub redoable : is_sound m s (to_redo keys values used in_force) ≡ true
