-- Entries of a log as a step: of the entries whose blocks have a pixel the first in a list decides. A list of entries in the order in which they
-- decide is read from the log's end. Rests on Step and on the entries of the log.
use Rattle.std.specs.Prelude.{ℕ, zero, suc, ◌+◌, ◌^◌, ◌≤◌, ◌<◌, ◌≡◌, Bool, true, false, cond, ◌||◌, ◌&&◌, List, [], ◌∷◌, map, length, get_or, leb, eqb}
use Rattle.keys.specs.Key.{height_of, valid_key, slot_limit}
use Rattle.keys.specs.Block.{in_block, in_interval}
use Rattle.definitions.specs.Picture.{Picture}
use Rattle.definitions.specs.List.{Record, values_of}
use Rattle.definitions.specs.Read.{records_of, picture_of}
use Rattle.definitions.specs.Standing.{place_of}
use Rattle.definitions.specs.Log.{EndsInEntry}
use Rattle.list.specs.Check.{one_slot}
use Rattle.list.specs.Sorted.{Sorted}
use Rattle.edit_log.specs.declared.entry.Entry.{Entry}
use Rattle.edit_log.specs.Entries.{last_entry, records_from_place, content_part}
use Rattle.deeds.specs.declared.run.Run.{Run}
use Rattle.deeds.specs.declared.meeting.Meeting.{Meeting}
use Rattle.deeds.specs.declared.meeting.Meeting.TheVariants.{Leaf, Content, Cut}
use Rattle.deeds.specs.Step.{Step, plain}

-- a block, and what its pixels get
pub record Gift : Type 0 where
  pub key : ℕ
  pub content : Picture

-- some block has the pixel
unfoldable pub touched : (m : ℕ) → List Gift → ℕ → ℕ → Bool
touched m [] row column = false
touched m (g ∷ gs) row column = in_block m g.key row column || touched m gs row column

-- what the first block that has the pixel gives it
unfoldable pub given : (m : ℕ) → List Gift → Picture
given m [] row column = 0
given m (g ∷ gs) row column = cond (in_block m g.key row column) (g.content row column) (given m gs row column)

abbrev pub gifts_step : (m : ℕ) → List Gift → Step
gifts_step m gs = record { touches = touched m gs; gives = given m gs }

-- an entry that is taken back gives its block the content that it holds
abbrev pub content_of_entry : (log_keys log_values : List ℕ) → Entry → List Record
content_of_entry ks vs e = records_from_place ks vs e.start e.count

abbrev pub back_gift : (m : ℕ) (log_keys log_values : List ℕ) → Entry → Gift
back_gift m ks vs e = record { key = e.key; content = picture_of m (content_of_entry ks vs e) }

-- an entry that is painted again gives it the feature
abbrev pub again_gift : Entry → Gift
again_gift e = record { key = e.key; content = plain e.feature }

-- the entries between two places of a log, the last first; an entry has records, so as many turns as there are places suffice
unfoldable pub last_first : (turns : ℕ) (log_keys log_values : List ℕ) (start end : ℕ) → List Entry
last_first zero ks vs start end = []
last_first (suc turns) ks vs start end =
    cond (leb end start) [] (last_entry (records_of ks vs end) ∷ last_first turns ks vs start (last_entry (records_of ks vs end)).start)

-- the same, the first first, and others behind them
unfoldable pub first_first : (turns : ℕ) (log_keys log_values : List ℕ) (start end : ℕ) (others : List Entry) → List Entry
first_first zero ks vs start end others = others
first_first (suc turns) ks vs start end others =
    cond (leb end start) others (first_first turns ks vs start (last_entry (records_of ks vs end)).start (last_entry (records_of ks vs end) ∷ others))

-- the places between two places of a log divide into entries
pub data Chain (m s : ℕ) (log_keys log_values : List ℕ) (start : ℕ) : ℕ → Type 0 where
  done : Chain m s log_keys log_values start start
  more : {end : ℕ} → start < end → end ≤ length log_keys → end ≤ length log_values
      → EndsInEntry m s (records_of log_keys log_values end)
      → Chain m s log_keys log_values start (last_entry (records_of log_keys log_values end)).start
      → Chain m s log_keys log_values start end

-- entries, the last first, of which the first ends at or before a limit and each other at or before the key of the one in front of it
unfoldable pub descends : (m limit : ℕ) → List Entry → Bool
descends m limit [] = true
descends m limit (e ∷ es) = leb (e.key + 5 ^ height_of m e.key) limit && descends m e.key es

-- between two places of a log there are entries, at some s
pub record Between (m start end : ℕ) (log_keys log_values : List ℕ) : Type 0 where
  pub s : ℕ
  pub few : s ≤ slot_limit
  pub chain : Chain m s log_keys log_values start end

-- so between those of a run; whether they descend is told for speed alone
pub record EntriesIn (m : ℕ) (records_from_place : Run) (log_keys log_values : List ℕ) : Type 0 where
  pub between : Between m records_from_place.start records_from_place.end log_keys log_values
  pub told : records_from_place.ordered ≡ true → descends m (5 ^ m) (last_first records_from_place.end log_keys log_values records_from_place.start records_from_place.end) ≡ true

-- the entries of a run, the last first and the first first
abbrev pub last_of_run : Run → (log_keys log_values : List ℕ) → List Entry
last_of_run records_from_place ks vs = last_first records_from_place.end ks vs records_from_place.start records_from_place.end

abbrev pub first_of_run : Run → (log_keys log_values : List ℕ) → List Entry
first_of_run records_from_place ks vs = first_first records_from_place.end ks vs records_from_place.start records_from_place.end []

-- the entries are taken back last to first, so of those that have a pixel the first decides
abbrev pub back_step : (m : ℕ) → Run → (log_keys log_values : List ℕ) → Step
back_step m records_from_place ks vs = gifts_step m (map (back_gift m ks vs) (first_of_run records_from_place ks vs))

-- they are painted again first to last, so the last decides
abbrev pub again_step : (m : ℕ) → Run → (log_keys log_values : List ℕ) → Step
again_step m records_from_place ks vs = gifts_step m (map again_gift (last_of_run records_from_place ks vs))

-- the bits of the block with the key κ in an entry's content: of the last record at or before it
abbrev pub back_bits : (log_keys log_values : List ℕ) (κ : ℕ) → Entry → ℕ
back_bits ks vs κ e = get_or (values_of (content_of_entry ks vs e)) (place_of κ (content_of_entry ks vs e)) 0

-- what an entry that is taken back makes of its own block
unfoldable pub whole_of : (log_values : List ℕ) → Entry → Meeting
whole_of vs e = cond (eqb e.count 1) (Leaf (get_or vs e.start 0)) (Content e.start e.count)

-- what an entry makes of a block with the key κ that its own holds, taken back or painted again
unfoldable pub given_by : (back : Bool) (log_keys log_values : List ℕ) (κ : ℕ) → Entry → Meeting
given_by back ks vs κ e =
    cond back
    (cond (eqb e.key κ) (whole_of vs e) (cond (one_slot (back_bits ks vs κ e)) (Leaf (back_bits ks vs κ e)) Cut))
    (Leaf (2 ^ e.feature))

-- what one entry makes of a block with the key κ, where the entries that it decides before make something of it
unfoldable pub met_by : (m κ : ℕ) → (Entry → Meeting) → Entry → (others : Meeting) → Meeting
met_by m κ gives e others = cond (in_interval m e.key κ) (gives e) (cond (in_interval m κ e.key) Cut others)

-- what a list of entries makes of it, where all others make something of it
unfoldable pub meeting_by : (m : ℕ) (others : Meeting) (κ : ℕ) → (Entry → Meeting) → List Entry → Meeting
meeting_by m others κ gives [] = others
meeting_by m others κ gives (e ∷ es) = met_by m κ gives e (meeting_by m others κ gives es)

-- an entry's content lies in the log, and its keys ascend from one at or before κ on
pub record Held (e : Entry) (log_keys log_values : List ℕ) (κ : ℕ) : Type 0 where
  pub in_keys : e.start + e.count ≤ length log_keys
  pub in_values : e.start + e.count ≤ length log_values
  pub sorted : Sorted (content_part e log_keys) e.count κ

-- what an entry can be asked of a block with the key κ: its key is valid, its feature is a slot's, and where its block holds the other, its content is there
pub record Asking (m : ℕ) (e : Entry) (log_keys log_values : List ℕ) (κ : ℕ) : Type 0 where
  pub valid : valid_key m e.key ≡ true
  pub slot : e.feature ≤ 31
  pub held : in_interval m e.key κ ≡ true → Held e log_keys log_values κ

-- the place where the last count entries before a place start
unfoldable pub start_back : (count : ℕ) (log_keys log_values : List ℕ) (end : ℕ) → ℕ
start_back zero ks vs end = end
start_back (suc count) ks vs end = start_back count ks vs (last_entry (records_of ks vs end)).start
