-- Histories that outlive the process: calls as in a history, and between them rests, in which list, summary and log come into other slices. A rest is
-- told by the buffers that it leads to: the same list, its summary filled afresh, the log whole or without the steps to redo. Rests on History.
use Rattle.std.specs.Prelude.{ℕ, ◌≤◌, max, ◌≡◌, List, [], ◌∷◌}
use Rattle.definitions.specs.Read.{room, records_of, picture_of}
use Rattle.definitions.specs.Area.{summary_of}
use Rattle.history.specs.History.{Call, Buffers, Kept, nothing, built, after, answer, keep}

-- what happens in a history: a call, or a rest into other buffers; the second kind of rest leaves the steps to redo behind
pub data Event : Type 0 where
  calling : (c : Call) → Event
  resting : (to : Buffers) → Event
  resting_short : (to : Buffers) → Event

-- so many first records of a log stand first in other slices, which are long enough
pub record LogBrought (log_keys log_values : List ℕ) (brought : ℕ) (log_keys' log_values' : List ℕ) : Type 0 where
  pub fits : brought ≤ room log_keys' log_values'
  pub records : records_of log_keys' log_values' brought ≡ records_of log_keys log_values brought

-- from b, with so many records of the log brought along, to these buffers: the first n records are the same, the summary is theirs, and as many records
-- of the log are in force; the slices have any lengths that hold them, and anything past them
pub record Rested (m s : ℕ) (b : Buffers) (brought : ℕ) (to : Buffers) : Type 0 where
  pub count : to.n ≡ b.n
  pub fits : b.n ≤ room to.keys to.bits
  pub records : records_of to.keys to.bits b.n ≡ records_of b.keys b.bits b.n
  pub counted : to.summary ≡ summary_of m s (picture_of m (records_of to.keys to.bits to.n))
  pub log : LogBrought b.log_keys b.log_values brought to.log_keys to.log_values
  pub used : to.used ≡ brought
  pub force : to.in_force ≡ b.in_force

-- an event that may happen: any call, and a rest that brings along all records of the log, or those in force
abbrev pub MayHappen : (m s : ℕ) (b : Buffers) → Event → Type 0
MayHappen m s b (calling c) = Unit
MayHappen m s b (resting to) = Rested m s b b.used to
MayHappen m s b (resting_short to) = Rested m s b b.in_force to

-- slices lent for the list, the summary and the log, as they were when they were lent
pub record LentSlices : Type 0 where
  pub keys : List ℕ
  pub bits : List ℕ
  pub summary : List ℕ
  pub log_keys : List ℕ
  pub log_values : List ℕ

-- the slices of these buffers
abbrev pub slices_of : Buffers → LentSlices
slices_of b = record { keys = b.keys; bits = b.bits; summary = b.summary; log_keys = b.log_keys; log_values = b.log_values }

-- for how many records of a list they have room
abbrev pub list_room : LentSlices → ℕ
list_room lent = room lent.keys lent.bits

-- and for how many of a log
abbrev pub log_room : LentSlices → ℕ
log_room lent = room lent.log_keys lent.log_values

-- where a history stands: the buffers, the paints, the slices lent last, how many records list and log had at most in these slices, and for how many
-- records of a list there was room at most, in these or in earlier slices
pub record Reached : Type 0 where
  pub buffers : Buffers
  pub paints : Kept
  pub lent : LentSlices
  pub in_list : ℕ
  pub in_log : ℕ
  pub largest : ℕ

-- where it stands with no paints yet
abbrev pub begins : LentSlices → Buffers → Reached
begins lent b = record { buffers = b; paints = nothing; lent = lent; in_list = b.n; in_log = b.used; largest = list_room lent }

-- after build into these slices, with an empty log
abbrev pub built_into : (m s : ℕ) (raster : List ℕ) → LentSlices → Reached
built_into m s raster lent = begins lent (built m s raster lent.keys lent.bits lent.summary lent.log_keys lent.log_values)

-- without the paints that could be redone
abbrev pub without_undone : Kept → Kept
without_undone k = record { held = k.held; undone = []; fixed = k.fixed }

-- in other buffers, with these paints
abbrev pub stands_in : (largest : ℕ) (to : Buffers) → Kept → Reached
stands_in largest to k =
    record { buffers = to; paints = k; lent = slices_of to; in_list = to.n; in_log = to.used; largest = max largest (room to.keys to.bits) }

-- where it stands after an event: a call is a history's step in the slices lent last, and a rest keeps the paints
unfoldable pub after_event : (m s : ℕ) (t : Reached) → Event → Reached
after_event m s t (calling c) =
    record {
      buffers = after m s t.buffers c;
      paints = keep c (answer m s t.buffers c) t.paints;
      lent = t.lent;
      in_list = max t.in_list (after m s t.buffers c).n;
      in_log = max t.in_log (after m s t.buffers c).used;
      largest = t.largest;
    }
after_event m s t (resting to) = stands_in t.largest to t.paints
after_event m s t (resting_short to) = stands_in t.largest to (without_undone t.paints)

-- after events, the first event first
unfoldable pub after_events : (m s : ℕ) (t : Reached) → List Event → Reached
after_events m s t [] = t
after_events m s t (e ∷ es) = after_events m s (after_event m s t e) es

-- events each of which may happen where the ones before it led
unfoldable pub AllMay : (m s : ℕ) (t : Reached) → List Event → Type 0
AllMay m s t [] = Unit
AllMay m s t (e ∷ es) = MayHappen m s t.buffers e × AllMay m s (after_event m s t e) es
