-- The last entry of a log in two slices: where its key and its count stand; which places its content has; and what a sound log says of it. Rests on
-- the laws of the last entry and of the records of two slices.
use Prim.Native.Nat.{ℕ, ◌+◌, ◌-◌, ◌≤◌, ◌<◌}
use mathlib.Core.Path.{◌≡◌, sym, ap, ◌∙◌}
use mathlib.Core.Bool.{Bool, true, false}
use mathlib.Core.List.{List, [], ◌∷◌}
use native.Mathlib.Omega.{arith}
use lib.ListN.{length, get_or}
use Rattle.keys.specs.Key.{valid_key}
use Rattle.definitions.specs.List.{Record, record_of}
use Rattle.definitions.specs.Read.{records_of}
use Rattle.definitions.specs.Log.{closing_places, count_record, last_record, last_key, last_feature, last_count, before_last, last_content, is_content, ends_in_mark, is_sound, EndsInEntry}
use Rattle.laws.proofs.LastEntry.{length_before, content_place, length-content}
use Rattle.laws.proofs.LogEntries.{content_not_empty}
use Rattle.laws.proofs.SoundLog.{sound_ends}
use Rattle.laws.proofs.Records.{records-length, records_at, records_run}
use Rattle.edit_log.specs.declared.entry.Entry.{Entry}
use Rattle.edit_log.specs.Entries.{closing_key, closing_feature, closing_count, last_entry, Ended, records_from_place}

-- the last record stands in the last place that is used
pub last_record_at : (keys values : List ℕ) (used : ℕ) → used ≤ length keys → used ≤ length values → 0 < used
    → last_record (records_of keys values used) ≡ record_of (closing_key keys used) (closing_feature values used)
unfolding last_record
last_record_at keys values used in_keys in_values some =
    ap (λ n. get_or (records_of keys values used) (n - 1) (record_of 0 0)) (records-length keys values used in_keys in_values)
    ∙ records_at keys values used in_keys in_values (used - 1) (omega arith)

module _ (keys values : List ℕ) (used : ℕ) (in_keys : used ≤ length keys) (in_values : used ≤ length values) (some : closing_places ≤ used) where
  -- the record before the last
  pub count_record_at : count_record (records_of keys values used) ≡ record_of (get_or keys (used - 2) 0) (closing_count values used)
  unfolding count_record
  count_record_at =
      ap (λ n. get_or (records_of keys values used) (n - 2) (record_of 0 0)) (records-length keys values used in_keys in_values)
      ∙ records_at keys values used in_keys in_values (used - 2) (omega arith)

  -- the last entry's key stands in the last place that is used
  pub last_key_at : last_key (records_of keys values used) ≡ closing_key keys used
  unfolding last_key
  last_key_at = ap (λ x. x.key) (last_record_at keys values used in_keys in_values (omega arith))

  -- and so does its feature
  pub last_feature_at : last_feature (records_of keys values used) ≡ closing_feature values used
  unfolding last_feature
  last_feature_at = ap (λ x. x.value) (last_record_at keys values used in_keys in_values (omega arith))

  -- its count stands before them
  pub last_count_at : last_count (records_of keys values used) ≡ closing_count values used
  unfolding last_count
  last_count_at = ap (λ x. x.value) count_record_at

-- a last entry that is all there, by its places
module _ {keys values : List ℕ} {used : ℕ} (e : Ended keys values used) where
  -- the records
  abbrev pub log : List Record
  log = records_of keys values used

  size : length log ≡ used
  size = records-length keys values used e.in_keys e.in_values

  there : last_count log + closing_places ≤ length log
  there = let a = size in omega (arith, e.all_there)

  -- it takes the places past what stands before it
  pub entry_places : length (before_last log) + (last_count log + closing_places) ≡ used
  entry_places = length_before log there ∙ size

  -- its content is a run of records
  pub content_run : last_content log ≡ records_from_place keys values (length (before_last log)) (last_count log)
  content_run =
      let all = entry_places in
      content_place log there ∙ records_run keys values used (length (before_last log)) (last_count log) (omega arith)

  -- as long as its count says
  pub content-length : length (last_content log) ≡ last_count log
  content-length = length-content log there

  -- the count that was read, and how many places the entry takes by it
  module _ (count taken : ℕ) (read : count ≡ closing_count values used) (taken_is : taken ≡ count + closing_places) where
    count_at : count ≡ last_count log
    count_at = read ∙ sym (last_count_at keys values used e.in_keys e.in_values (omega (arith, e.all_there)))

    -- they are there
    pub taken_there : taken ≤ used
    taken_there = let a = count_at in omega (arith, e.all_there)

    -- what was read is the last entry
    pub last_found : ◌≡◌ {A = Entry} (record { key = closing_key keys used; start = used - taken; count = count; feature = closing_feature values used }) (last_entry log)
    last_found =
        let a = count_at in
        let all = entry_places in
        let key : closing_key keys used ≡ last_key log = sym (last_key_at keys values used e.in_keys e.in_values (omega (arith, e.all_there))) in
        let feature : closing_feature values used ≡ last_feature log
        = sym (last_feature_at keys values used e.in_keys e.in_values (omega (arith, e.all_there))) in
        let start : used - taken ≡ length (before_last log) = omega arith in
        λ i. record { key = key i; start = start i; count = a i; feature = feature i }

-- records that are there and divide into steps
pub record SoundLog (m s : ℕ) (keys values : List ℕ) (used : ℕ) : Type 0 where
  pub in_keys : used ≤ length keys
  pub in_values : used ≤ length values
  pub sound : is_sound m s (records_of keys values used) ≡ true

-- records that end in an entry: it is all there
pub entry_ended : {m s : ℕ} {keys values : List ℕ} {used : ℕ} → used ≤ length keys → used ≤ length values → EndsInEntry m s (records_of keys values used)
    → Ended keys values used
entry_ended {keys = keys} {values} {used} in_keys in_values ends =
    let size = records-length keys values used in_keys in_values in
    record { in_keys = in_keys; in_values = in_values; all_there = omega (arith, ends.all_there) }

-- the last entry of a sound log with records that does not end in a group
pub record LastEntry (m s : ℕ) (keys values : List ℕ) (used : ℕ) : Type 0 where
  pub ended : Ended keys values used
  pub some_content : 0 < last_count (records_of keys values used)
  pub valid : valid_key m (last_key (records_of keys values used)) ≡ true
  pub correct : is_content m s (last_key (records_of keys values used)) (last_content (records_of keys values used)) ≡ true

-- no content is no list
not_none : (m s κ : ℕ) (content : List Record) → is_content m s κ content ≡ true → 0 < length content
not_none m s κ [] e = absurd (let z : ◌≡◌ {A = Bool} true false = sym e ∙ content_not_empty m s κ in never z)
  where
    never : ◌≡◌ {A = Bool} true false → ⊥
    never z = let o : ◌≡◌ {A = ℕ} 0 1 = cc in omega arith
not_none m s κ (x ∷ content) e = omega arith

-- a sound log with records has one
pub last_entry_there : {m s : ℕ} {keys values : List ℕ} {used : ℕ} → SoundLog m s keys values used → 0 < used → ends_in_mark (records_of keys values used) ≡ false
    → LastEntry m s keys values used
last_entry_there {m} {s} {keys} {values} {used} sound some mark =
    let size = records-length keys values used sound.in_keys sound.in_values in
    let ends = sound_ends m s (records_of keys values used) sound.sound (omega arith) mark in
    let ended : Ended keys values used = entry_ended sound.in_keys sound.in_values ends in
    let content = content-length ended in
    let records = not_none m s (last_key (records_of keys values used)) (last_content (records_of keys values used)) ends.correct in
    record { ended = ended; some_content = omega arith; valid = ends.valid; correct = ends.correct }
