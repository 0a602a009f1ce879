-- Survey: a raster becomes its list and its summary (specification S4.15; C's build). Refusals 1, 2, 3, 18 (for the length alone), 9.
use Rattle.std.specs.Prelude.{ℕ, List, [], ◌∷◌, length, ltb}
use Rattle.definitions.specs.Picture.{picture_of_raster}
use Rattle.definitions.specs.List.{list_of_raster, keys_of, values_of}
use Rattle.definitions.specs.Read.{room}
use Rattle.definitions.specs.Buffer.{over}
use Rattle.definitions.specs.Area.{summary_of, bad_summary_length}
use Rattle.definitions.specs.Refusal.{◌gives◌, first, accepted, bad_settings, bad_length, bad_pixel}
use Rattle.definitions.specs.declared.Counted.{Counted}

module _ (m s : ℕ) (raster keys bits summary : List ℕ) where
  unfoldable pub survey_refusal : ℕ
  survey_refusal =
      first
      (bad_settings m s gives 1
      ∷ bad_length m raster gives 2
      ∷ bad_pixel s raster gives 3
      ∷ bad_summary_length m s summary gives 18
      ∷ ltb (room keys bits) (length (list_of_raster m raster)) gives 9
      ∷ [])

  -- the count is the number of records
  unfoldable pub survey : Counted
  survey =
      record { refusal = survey_refusal; count = accepted survey_refusal (length (list_of_raster m raster)) 0 }

  unfoldable pub survey_keys : List ℕ
  survey_keys = accepted survey_refusal (over (keys_of (list_of_raster m raster)) keys) keys

  unfoldable pub survey_bits : List ℕ
  survey_bits = accepted survey_refusal (over (values_of (list_of_raster m raster)) bits) bits

  -- every place of the summary is written
  unfoldable pub survey_summary : List ℕ
  survey_summary = accepted survey_refusal (summary_of m s (picture_of_raster m raster)) summary
