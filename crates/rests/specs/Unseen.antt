-- A history with rests beside the same calls without them: what is asked of rests that nobody is to see, and what it means that nobody sees them. Rests
-- on Events.
use Rattle.std.specs.Prelude.{ℕ, ◌≡◌, List, [], ◌∷◌}
use Rattle.definitions.specs.Read.{records_of}
use Rattle.definitions.specs.Log.{to_redo}
use Rattle.history.specs.History.{Call, Buffers, answer}
use Rattle.rests.specs.Events.{Event, calling, resting, resting_short, Reached, list_room, log_room, after_event}

-- the events without the rests
unfoldable pub without_rests : List Event → List Event
without_rests [] = []
without_rests (calling c ∷ es) = calling c ∷ without_rests es
without_rests (resting to ∷ es) = without_rests es
without_rests (resting_short to ∷ es) = without_rests es

-- the slices have as much room for the list and for the log
pub record AsRoomy (t u : Reached) : Type 0 where
  pub for_list : list_room t.lent ≡ list_room u.lent
  pub for_log : log_room t.lent ≡ log_room u.lent

-- an event that brings all along and leads to slices with as much room
abbrev pub SameRoom : (m s : ℕ) (t : Reached) → Event → Type 0
SameRoom m s t (calling c) = Unit
SameRoom m s t (resting to) = AsRoomy (after_event m s t (resting to)) t
SameRoom m s t (resting_short to) = ⊥

-- events each of which does
unfoldable pub AllSameRoom : (m s : ℕ) (t : Reached) → List Event → Type 0
AllSameRoom m s t [] = Unit
AllSameRoom m s t (e ∷ es) = SameRoom m s t e × AllSameRoom m s (after_event m s t e) es

-- the same list, summary, log and counts, and the same answer to every next call
pub record Alike (m s : ℕ) (b b' : Buffers) : Type 0 where
  pub list : records_of b.keys b.bits b.n ≡ records_of b'.keys b'.bits b'.n
  pub summaries : b.summary ≡ b'.summary
  pub counts : b.n ≡ b'.n
  pub used : b.used ≡ b'.used
  pub in-force : b.in_force ≡ b'.in_force
  pub log_in_force : records_of b.log_keys b.log_values b.in_force ≡ records_of b'.log_keys b'.log_values b'.in_force
  pub log_to_redo : to_redo b.log_keys b.log_values b.used b.in_force ≡ to_redo b'.log_keys b'.log_values b'.used b'.in_force
  pub answers : (c : Call) → answer m s b c ≡ answer m s b' c
