-- An accepted build of a sheet's raster, with an empty log beside it, leaves the buffers that the laws ask for: the list and the summary of the sheet's picture.
-- Rests on the laws of a build.
use Prim.Native.Nat.{ℕ, ◌<◌, ◌≤◌}
use mathlib.Core.Path.{◌≡◌, ap, ◌∙◌}
use mathlib.Core.List.{List}
use native.Mathlib.Omega.{arith}
use lib.ListN.{length, drop, length-append, length-map}
use Rattle.keys.specs.Key.{root_key}
use Rattle.definitions.specs.Picture.{Picture, picture_of_raster}
use Rattle.definitions.specs.List.{Record, list_of_raster, keys_of, values_of}
use Rattle.definitions.specs.Buffer.{over}
use Rattle.definitions.specs.Calls.Survey.{survey_refusal}
use Rattle.laws.proofs.ListOf.{list_agree}
use Rattle.laws.proofs.RasterOf.{raster_of_picture, raster_back}
use Rattle.laws.proofs.SummaryOf.{summary_agree}
use Rattle.laws.proofs.Built.{build_count, build_keys, build_bits, build_summary, build_records}
use Rattle.history.specs.History.{built}
use Rattle.sheets.specs.Ground.{Ground, sheets_for, sheet_picture}
use Rattle.sheets.specs.Calls.{SheetHolds, AllHold}

-- what is laid over a slice fits it
over_long : (l : List Record) (new old : List ℕ) → length new ≡ length l → length l ≤ length (over new old)
over_long l new old e = let a = length-append new (drop (length new) old) in omega arith

-- the buffers after the build of a picture's raster hold its list and its summary
pub build_holds : (m s : ℕ) (p : Picture) (keys bits summary log_keys log_values : List ℕ) → survey_refusal m s (raster_of_picture m p) keys bits summary ≡ 0
    → SheetHolds m s p (built m s (raster_of_picture m p) keys bits summary log_keys log_values)
unfolding built
build_holds m s p keys bits summary log_keys log_values e =
    let raster : List ℕ = raster_of_picture m p in
    let l : List Record = list_of_raster m raster in
    let a = over_long l (keys_of l) keys (length-map l (λ x. x.key)) in
    let b = over_long l (values_of l) bits (length-map l (λ x. x.value)) in
    let count = build_count m s raster keys bits summary e in
    let in_keys = ap length (build_keys m s raster keys bits summary e) in
    let in-bits = ap length (build_bits m s raster keys bits summary e) in
    record {
      fits = omega arith;
      list = build_records m s raster keys bits summary e ∙ list_agree (picture_of_raster m raster) p m 0 0 root_key (raster_back m p);
      summary = build_summary m s raster keys bits summary e ∙ summary_agree m s (picture_of_raster m raster) p (raster_back m p);
    }

-- so sheets that were all built, each in its own buffers, hold what the laws ask for
pub built_hold : (m s : ℕ) (g : Ground) (filler : ℕ) (keys bits summary log_keys log_values : ℕ → ℕ → List ℕ)
    → ((i j : ℕ) → i < sheets_for m g.rows → j < sheets_for m g.columns
    → survey_refusal m s (raster_of_picture m (sheet_picture m g filler i j)) (keys i j) (bits i j) (summary i j) ≡ 0)
    → AllHold m s g filler (λ i j. built m s (raster_of_picture m (sheet_picture m g filler i j)) (keys i j) (bits i j) (summary i j) (log_keys i j) (log_values i j))
built_hold m s g filler keys bits summary log_keys log_values accepted i j down across =
    build_holds m s (sheet_picture m g filler i j) (keys i j) (bits i j) (summary i j) (log_keys i j) (log_values i j) (accepted i j down across)
