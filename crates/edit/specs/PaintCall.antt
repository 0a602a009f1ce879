-- What the functions of paint ask and leave: the table's last two rows, what an accepted paint may rely on, and the call's promise. Only contracts
-- need these. Rests on Paint of the definitions.
use Rattle.std.specs.Prelude.{ℕ, ◌+◌, ◌^◌, ◌≤◌, ◌<◌, ◌≡◌, true, List, [], ◌∷◌, length, ltb}
use Rattle.keys.specs.Key.{slot_limit, valid_key}
use Rattle.definitions.specs.List.{Record, record_of, keys_of, values_of}
use Rattle.definitions.specs.Read.{room, records_of}
use Rattle.definitions.specs.Standing.{standing_of, part_length}
use Rattle.definitions.specs.Refusal.{◌gives◌, first}
use Rattle.definitions.specs.Calls.Paint.{painted, gained, logged}
use Rattle.list.specs.Own.{OwnList}
use Rattle.edit_log.specs.declared.entry.Entry.{Entry}
use Rattle.edit.specs.declared.decision.GrantedPaint.{GrantedPaint}
use Rattle.replace.specs.Put.{plan_of}
use Rattle.replace.specs.declared.plan.Plan.{Plan}

-- 10, 9
unfoldable pub room_refusal : (m : ℕ) (l : List Record) (list_room log_room in_force κ f : ℕ) → ℕ
room_refusal m l list_room log_room in_force κ f =
    first
    (ltb log_room (in_force + length (gained m l κ f)) gives 10
    ∷ ltb list_room (length (painted m l κ f)) gives 9
    ∷ [])

-- a block of an accepted list, and a feature that it may get
pub record Paintable (m : ℕ) (keys bits : List ℕ) (n κ f : ℕ) : Type 0 where
  pub deepest : m ≤ 10
  pub valid : valid_key m κ ≡ true
  pub own : OwnList m keys bits n
  pub feature : f < slot_limit

-- the entry that a paint of block κ with f writes from place start on, and its plan: the content that it puts in is one record
abbrev pub new_entry : ℕ → List Record → ℕ → ℕ → ℕ → Entry
new_entry m l start κ f = record { key = κ; start = start; count = part_length m κ l; feature = f }

abbrev pub paint_plan : ℕ → List Record → ℕ → ℕ → Plan
paint_plan m l κ f = plan_of m l κ (record_of κ (2 ^ f) ∷ [])

-- what a paint goes by that is not refused
abbrev pub granted_paint : ℕ → List Record → ℕ → ℕ → ℕ → GrantedPaint
granted_paint m l start κ f = record { new = new_entry m l start κ f; standing = standing_of m κ l; plan = paint_plan m l κ f }

-- the new entry of a block of an accepted list, for which the log has room
pub record Fresh (m : ℕ) (keys bits : List ℕ) (n : ℕ) (new : Entry) (log_keys log_values : List ℕ) : Type 0 where
  pub deepest : m ≤ 10
  pub own : OwnList m keys bits n
  pub valid : valid_key m new.key ≡ true
  pub whole : new.count ≡ part_length m new.key (records_of keys bits n)
  pub fits : new.start + length (gained m (records_of keys bits n) new.key new.feature) ≤ room log_keys log_values

-- an entry stands from a place on, what was used past it is zero, all other places stay, and the place past it is told
pub record Relogged (entry : List Record) (start used : ℕ) (keys values keys' values' : List ℕ) (next : ℕ) : Type 0 where
  pub keys_are : keys' ≡ logged used start (keys_of entry) keys
  pub values_are : values' ≡ logged used start (values_of entry) values
  pub used_are : next ≡ start + length entry
