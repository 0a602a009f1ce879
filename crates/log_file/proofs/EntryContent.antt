-- The content of the last entry in a log's bytes: its records are there, and decide whether the used records end in an entry. Rests on InBytes and on the laws
-- of a log in two slices.
use Prim.Native.Nat.{ℕ, ◌+◌, ◌*◌, ◌≤◌}
use mathlib.Core.Path.{◌≡◌, sym, ap₂, ◌∙◌}
use mathlib.Core.Bool.{Bool, true, ◌&&◌}
use mathlib.Core.List.{List}
use native.Mathlib.Omega.{arith}
use lib.ListN.{length, drop}
use borrow.Author.Tests.{le-leb}
use Rattle.keys.specs.Key.{valid_key}
use Rattle.definitions.specs.Read.{room}
use Rattle.definitions.specs.File.{four}
use Rattle.definitions.specs.Log.{closing_places, last_content, is_content, last_is_entry}
use Rattle.definitions.specs.LogFile.{value_bytes}
use Rattle.file.specs.Layout.{RecordsFit, records_at}
use Rattle.file.proofs.Laid.{fewer_there}
use Rattle.edit_log.specs.declared.entry.Entry.{Entry}
use Rattle.edit_log.specs.Entries.{is_closed, last_entry, Ended, records_from_place, content_part}
use Rattle.edit_log.proofs.Last.{content_run}
use Rattle.edit_log.proofs.Places.{start_is, count-is, places_are, lent_length, lent_content}
use Rattle.edit_log.proofs.Tests.{content_decides}
use Rattle.log_file.specs.Records.{places_in, keys_in_bytes, values_in_bytes, log_in}
use Rattle.log_file.proofs.InBytes.{in_places, laid_first, places_after, run_in}

module _ (bytes : List ℕ) {used : ℕ} (e : Ended (keys_in_bytes bytes) (values_in_bytes bytes) used) (last : Entry) (found : last ≡ last_entry (log_in bytes used)) where
  -- it ends before what closes it, among the places
  pub among : last.start + (last.count + closing_places) ≤ places_in bytes
  among = let all = places_are e last found in let h = in_places bytes e.in_keys in omega arith

  -- where its bytes begin
  pub begins : 8 * last.start ≤ length bytes
  unfolding places_in
  begins = let h = among in omega arith

  -- they lie there whole
  pub content_laid : RecordsFit value_bytes last.count (drop (8 * last.start) bytes)
  content_laid =
      let h = among in
      let p = places_after bytes last.start (omega arith) in
      let more = laid_first (drop (8 * last.start) bytes) (last.count + closing_places) (omega arith) (omega arith) in
      record { width_is = four; there = fewer_there four last.count (last.count + closing_places) (length (drop (8 * last.start) bytes)) (omega arith) more.there }

  content_is : records_at value_bytes last.count (drop (8 * last.start) bytes) ≡ last_content (log_in bytes used)
  content_is =
      let h = among in
      run_in bytes last.start last.count (omega arith)
      ∙ ap₂ (records_from_place (keys_in_bytes bytes) (values_in_bytes bytes)) (start_is e last found) (count-is e last found)
      ∙ sym (content_run e)

  -- and decide
  pub content_tells : (m s : ℕ) → is_closed s (log_in bytes used) ≡ true → (r : Bool) → valid_key m last.key ≡ true
      → r ≡ is_content m s last.key (records_at value_bytes last.count (drop (8 * last.start) bytes))
      → r ≡ last_is_entry m s (log_in bytes used)
  content_tells m s shut r valid told =
      let a = lent_length e last found (keys_in_bytes bytes) e.in_keys in
      let b = lent_length e last found (values_in_bytes bytes) e.in_values in
      content_decides e m s shut last found r valid
      (told
      ∙ sym (ap₂ (λ b l. b && is_content m s last.key l)
      (le-leb last.count (room (content_part last (keys_in_bytes bytes)) (content_part last (values_in_bytes bytes))) (omega arith))
      (lent_content e last found ∙ sym content_is)))
