-- An accepted build: which tests it passed, what its slices hold then, and that they are read back as the list of the raster. Rests on the laws of
-- refusal tables and of records.
use Prim.Native.Nat.{ℕ, ◌≤◌}
use mathlib.Core.Path.{◌≡◌, refl}
use mathlib.Core.Bool.{false}
use mathlib.Core.List.{List, [], ◌∷◌}
use lib.ListN.{length}
use lib.Dec.{ltb}
use borrow.Author.Tests.{eq-eqb, ltb-false, le-ltb}
use Rattle.definitions.specs.Picture.{picture_of_raster}
use Rattle.definitions.specs.List.{list_of_raster, keys_of, values_of}
use Rattle.definitions.specs.Read.{room, records_of}
use Rattle.definitions.specs.Buffer.{over}
use Rattle.definitions.specs.Area.{summary_of, bad_summary_length}
use Rattle.definitions.specs.Refusal.{Row, ◌gives◌, bad_settings, bad_length, bad_pixel}
use Rattle.definitions.specs.Calls.Survey.{survey, survey_refusal, survey_keys, survey_bits, survey_summary}
use Rattle.laws.proofs.First.{first_none, none_first}
use Rattle.laws.proofs.Records.{records_over}

-- what an accepted build passed
pub record Builds (m s : ℕ) (raster keys bits summary : List ℕ) : Type 0 where
  pub settings : bad_settings m s ≡ false
  pub sized : bad_length m raster ≡ false
  pub below : bad_pixel s raster ≡ false
  pub counted : bad_summary_length m s summary ≡ false
  pub fits : length (list_of_raster m raster) ≤ room keys bits

module _ (m s : ℕ) (raster keys bits summary : List ℕ) where
  -- the table of refusals
  abbrev rows : List Row
  rows =
      bad_settings m s gives 1
      ∷ bad_length m raster gives 2
      ∷ bad_pixel s raster gives 3
      ∷ bad_summary_length m s summary gives 18
      ∷ ltb (room keys bits) (length (list_of_raster m raster)) gives 9
      ∷ []

  -- an accepted build passed its tests
  pub build_passed : survey_refusal m s raster keys bits summary ≡ 0 → Builds m s raster keys bits summary
  unfolding survey_refusal
  build_passed e =
      let none = first_none rows refl e in
      record { settings = none.0; sized = none.1.0; below = none.1.1.0; counted = none.1.1.1.0; fits = ltb-false _ _ none.1.1.1.1.0 }

  -- and a build that passes them is accepted
  pub build_accepted : Builds m s raster keys bits summary → survey_refusal m s raster keys bits summary ≡ 0
  unfolding survey_refusal
  build_accepted h = none_first rows (h.settings, (h.sized, (h.below, (h.counted, (le-ltb _ _ h.fits, tt)))))

  module _ (e : survey_refusal m s raster keys bits summary ≡ 0) where
    -- it gives the number of records
    pub build_count : (survey m s raster keys bits summary).count ≡ length (list_of_raster m raster)
    unfolding survey
    build_count = rw (eq-eqb _ 0 e)

    -- it writes the keys of the list over their slice
    pub build_keys : survey_keys m s raster keys bits summary ≡ over (keys_of (list_of_raster m raster)) keys
    unfolding survey_keys
    build_keys = rw (eq-eqb _ 0 e)

    -- and the bitstrings over theirs
    pub build_bits : survey_bits m s raster keys bits summary ≡ over (values_of (list_of_raster m raster)) bits
    unfolding survey_bits
    build_bits = rw (eq-eqb _ 0 e)

    -- and the counts of the raster into the summary
    pub build_summary : survey_summary m s raster keys bits summary ≡ summary_of m s (picture_of_raster m raster)
    unfolding survey_summary
    build_summary = rw (eq-eqb _ 0 e)

    -- the first records are then the list of the raster
    pub build_records : records_of (survey_keys m s raster keys bits summary) (survey_bits m s raster keys bits summary) (survey m s raster keys bits summary).count
        ≡ list_of_raster m raster
    build_records = rw (build_keys, build_bits, build_count) (records_over (list_of_raster m raster) (length (list_of_raster m raster)) keys bits refl)
