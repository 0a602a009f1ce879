-- A rest by the library's own calls: the list is stored into a file, the file is loaded into other slices, and their summary is filled. The log's records
-- are brought beside it. Rests on Events.
use Rattle.std.specs.Prelude.{ℕ, ◌≤◌, ◌≡◌, false, List, length, take}
use Rattle.definitions.specs.Buffer.{over}
use Rattle.definitions.specs.Area.{bad_summary_length}
use Rattle.definitions.specs.Calls.Store.{stored, store_refusal, store, store_file}
use Rattle.definitions.specs.Calls.Load.{load, load_keys, load_bits}
use Rattle.definitions.specs.Calls.FillSummary.{fill_refusal, fill_summary, filled_summary}
use Rattle.definitions.specs.declared.Counted.{Counted}
use Rattle.definitions.specs.declared.Loaded.{Loaded}
use Rattle.definitions.specs.declared.Done.{Done}
use Rattle.history.specs.History.{Buffers}
use Rattle.rests.specs.Events.{Rested, LentSlices, slices_of, list_room, log_room}

-- the bytes that store leaves in a buffer, as many as it says
unfoldable pub file_from : (m s : ℕ) (b : Buffers) (buffer : List ℕ) → List ℕ
file_from m s b buffer = take (store m s b.keys b.bits b.n buffer).count (store_file m s b.keys b.bits b.n buffer)

-- a file loaded into slices and their summary filled, beside a log in any two slices
abbrev pub loaded_with : (m s : ℕ) (file : List ℕ) (lent : LentSlices) (log_keys log_values : List ℕ) (used in_force : ℕ) → Buffers
loaded_with m s file lent log_keys log_values used in_force =
    record {
      keys = load_keys file lent.keys lent.bits;
      bits = load_bits file lent.keys lent.bits;
      n = (load file lent.keys lent.bits).n;
      summary =
          filled_summary m s (load_keys file lent.keys lent.bits) (load_bits file lent.keys lent.bits) (load file lent.keys lent.bits).n lent.summary;
      log_keys = log_keys;
      log_values = log_values;
      used = used;
      in_force = in_force;
    }

-- where store, load and fill lead from b, with so many records of its log laid over the slices lent
abbrev pub leads_to : (m s : ℕ) (b : Buffers) (brought : ℕ) (buffer : List ℕ) → LentSlices → Buffers
leads_to m s b brought buffer lent =
    loaded_with m s (file_from m s b buffer) lent (over (take brought b.log_keys) lent.log_keys) (over (take brought b.log_values) lent.log_values) brought b.in_force

-- there is room: in the buffer for the file, in the slices for the list and for so many records of the log, and the summary has its length
pub record RoomToRest (m s : ℕ) (b : Buffers) (brought : ℕ) (buffer : List ℕ) (lent : LentSlices) : Type 0 where
  pub in_buffer : length (stored m s b.keys b.bits b.n) ≤ length buffer
  pub in_list : b.n ≤ list_room lent
  pub in_summary : bad_summary_length m s lent.summary ≡ false
  pub in_log : brought ≤ log_room lent

-- store, load and fill are accepted, load gives m, s and n back, what they leave are buffers that a rest may lead to, and the slices have the room that
-- they had when they were lent
pub record RestsByFile (m s : ℕ) (b : Buffers) (brought : ℕ) (buffer : List ℕ) (lent : LentSlices) : Type 0 where
  pub stored : store_refusal m s b.keys b.bits b.n buffer ≡ 0
  pub loaded : load (file_from m s b buffer) lent.keys lent.bits ≡ record { refusal = 0; m = m; s = s; n = b.n }
  pub filled :
      fill_refusal m s (leads_to m s b brought buffer lent).keys (leads_to m s b brought buffer lent).bits (leads_to m s b brought buffer lent).n lent.summary ≡ 0
  pub rested : Rested m s b brought (leads_to m s b brought buffer lent)
  pub list-room : list_room (slices_of (leads_to m s b brought buffer lent)) ≡ list_room lent
  pub log-room : log_room (slices_of (leads_to m s b brought buffer lent)) ≡ log_room lent

-- what is known of the calls of a rest by their promises: store was lent the list of b and a buffer, load the file that store left and the slices lent,
-- and fill what load left; all three are accepted
pub record RestCalls (m s : ℕ) (b : Buffers) (buffer : List ℕ) (lent : LentSlices) : Type 0 where
  pub stored : Counted
  pub buffer' : List ℕ
  pub store_answer : stored ≡ store m s b.keys b.bits b.n buffer
  pub store_leaves : buffer' ≡ store_file m s b.keys b.bits b.n buffer
  pub store_passed : stored.refusal ≡ 0
  -- the file is what store left, as many bytes as it says
  pub file : List ℕ
  pub same_file : file ≡ take stored.count buffer'
  pub loaded : Loaded
  pub keys' : List ℕ
  pub bits' : List ℕ
  pub load_answer : loaded ≡ load file lent.keys lent.bits
  pub load-keys : keys' ≡ load_keys file lent.keys lent.bits
  pub load-bits : bits' ≡ load_bits file lent.keys lent.bits
  pub load_passed : loaded.refusal ≡ 0
  pub filled : Done
  pub summary' : List ℕ
  pub fill_answer : filled ≡ fill_summary m s keys' bits' loaded.n lent.summary
  pub fill_leaves : summary' ≡ filled_summary m s keys' bits' loaded.n lent.summary
  pub fill_passed : filled.refusal ≡ 0

-- the buffers that they leave, beside a log in any two slices
abbrev pub comes_to : {m s : ℕ} {b : Buffers} {buffer : List ℕ} {lent : LentSlices} (x : RestCalls m s b buffer lent) (log_keys log_values : List ℕ) (used in_force : ℕ) → Buffers
comes_to x log_keys log_values used in_force =
    record {
      keys = x.keys';
      bits = x.bits';
      n = x.loaded.n;
      summary = x.summary';
      log_keys = log_keys;
      log_values = log_values;
      used = used;
      in_force = in_force;
    }
