-- Raster from list. Refusals 1, 4, 2.
use Rattle.std.specs.Prelude.{ℕ, ◌^◌, List, [], ◌∷◌}
use Rattle.definitions.specs.Read.{records_of, picture_of}
use Rattle.definitions.specs.Window.{features_of_rows}
use Rattle.definitions.specs.Refusal.{◌gives◌, first, accepted, bad_settings, bad_length, no_list}
use Rattle.definitions.specs.declared.Done.{Done}

module _ (m s : ℕ) (keys bits : List ℕ) (n : ℕ) (pixels : List ℕ) where
  unfoldable pub raster_refusal : ℕ
  raster_refusal =
      first (bad_settings m s gives 1 ∷ no_list m s keys bits n gives 4 ∷ bad_length m pixels gives 2 ∷ [])

  unfoldable pub raster : Done
  raster = record { refusal = raster_refusal }

  -- row after row, the features of the picture that the list shows
  unfoldable pub raster_pixels : List ℕ
  raster_pixels =
      accepted raster_refusal
      (features_of_rows (picture_of m (records_of keys bits n)) 0 0 (2 ^ m) (2 ^ m))
      pixels
