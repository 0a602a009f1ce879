-- The last entry as code finds and lends it: what stands before it, the first bits of its content, and the parts of the log's two slices that hold that.
-- Rests on Last.
use Prim.Native.Nat.{ℕ, ◌+◌, ◌-◌, ◌≤◌, ◌<◌}
use mathlib.Core.Path.{◌≡◌, sym, ap, ap₂, ◌∙◌}
use mathlib.Core.List.{List}
use native.Mathlib.Nat.{add-zero}
use native.Mathlib.Omega.{arith}
use lib.ListN.{length, get_or, take, drop, length-take, length-drop}
use lib.Seq.{length-take-le, take-take, get_or-take, get_or-drop}
use Rattle.definitions.specs.List.{keys_of, values_of}
use Rattle.definitions.specs.Read.{room, paired, records_of}
use Rattle.definitions.specs.Log.{closing_places, last_count, before_last, last_content}
use Rattle.laws.proofs.LastEntry.{before_place}
use Rattle.laws.proofs.Records.{paired_keys, paired_values, paired-length, records_first}
use Rattle.edit_log.specs.declared.entry.Entry.{Entry}
use Rattle.edit_log.specs.Entries.{last_entry, Ended, records_from_place, content_part}
use Rattle.edit_log.proofs.Last.{log, entry_places, content_run}

-- a run that is there: its keys, its values, and how many records it has
module _ (keys values : List ℕ) (place count : ℕ) (fits : place + count ≤ room keys values) where
  keys_there : length (take count (drop place keys)) ≡ count
  keys_there = let e = length-drop place keys in length-take-le count (drop place keys) (omega arith)

  values_there : length (take count (drop place values)) ≡ count
  values_there = let e = length-drop place values in length-take-le count (drop place values) (omega arith)

  pub run_keys : keys_of (records_from_place keys values place count) ≡ take count (drop place keys)
  run_keys = paired_keys _ _ (keys_there ∙ sym values_there)

  pub run_values : values_of (records_from_place keys values place count) ≡ take count (drop place values)
  run_values = paired_values _ _ (keys_there ∙ sym values_there)

  pub run_length : length (records_from_place keys values place count) ≡ count
  run_length = paired-length _ _ (keys_there ∙ sym values_there) ∙ keys_there

-- the last entry as it was found
module _ {keys values : List ℕ} {used : ℕ} (e : Ended keys values used) (last : Entry) (found : last ≡ last_entry (log e)) where
  -- where its content starts, and how many records that has
  pub start_is : last.start ≡ length (before_last (log e))
  start_is = ap (λ x. x.start) found

  pub count-is : last.count ≡ last_count (log e)
  count-is = ap (λ x. x.count) found

  -- the content and what closes it are the last places used
  pub places_are : last.start + (last.count + closing_places) ≡ used
  places_are = ap₂ (λ a b. a + (b + closing_places)) start_is count-is ∙ entry_places e

  -- what stands before it are the first records
  pub before_is : before_last (log e) ≡ records_of keys values last.start
  before_is =
      let all = places_are in
      before_place (log e)
      ∙ ap (λ n. take n (log e)) (sym start_is)
      ∙ records_first keys values used last.start (omega arith)

  content_is : last_content (log e) ≡ records_from_place keys values last.start last.count
  content_is = content_run e ∙ sym (ap₂ (records_from_place keys values) start_is count-is)

  -- the bits of its first record
  pub first-bits : 0 < last.count → get_or (values_of (last_content (log e))) 0 0 ≡ get_or values last.start 0
  first-bits some =
      let all = places_are in
      ap (λ l. get_or (values_of l) 0 0) content_is
      ∙ ap (λ l. get_or l 0 0) (run_values keys values last.start last.count (omega (arith, e.in_keys, e.in_values)))
      ∙ get_or-take last.count (drop last.start values) 0 0 some
      ∙ get_or-drop last.start values 0 0
      ∙ ap (λ i. get_or values i 0) (add-zero last.start)

  -- the part of a slice that is lent for the content
  pub lent_length : (l : List ℕ) → used ≤ length l → length (content_part last l) ≡ last.count
  lent_length l h = let all = places_are in simp (length-take, length-drop) (omega arith)

  lent_run : (l : List ℕ) → take last.count (content_part last l) ≡ take last.count (drop last.start l)
  lent_run l = take-take last.count (last.start + last.count - last.start) (drop last.start l) (omega arith)

  -- the two parts hold the content
  pub lent_content : records_of (content_part last keys) (content_part last values) last.count ≡ last_content (log e)
  lent_content = ap₂ paired (lent_run keys) (lent_run values) ∙ sym content_is
