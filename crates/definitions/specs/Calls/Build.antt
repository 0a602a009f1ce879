-- Build: a raster becomes its list. Refusals 1, 2, 3, 9.
use Rattle.std.specs.Prelude.{ℕ, List, [], ◌∷◌, length, ltb}
use Rattle.definitions.specs.List.{list_of_raster, keys_of, values_of}
use Rattle.definitions.specs.Read.{room}
use Rattle.definitions.specs.Buffer.{over}
use Rattle.definitions.specs.Refusal.{◌gives◌, first, accepted, bad_settings, bad_length, bad_pixel}
use Rattle.definitions.specs.declared.Counted.{Counted}

module _ (m s : ℕ) (raster keys bits : List ℕ) where
  unfoldable pub build_refusal : ℕ
  build_refusal =
      first
      (bad_settings m s gives 1
      ∷ bad_length m raster gives 2
      ∷ bad_pixel s raster gives 3
      ∷ ltb (room keys bits) (length (list_of_raster m raster)) gives 9
      ∷ [])

  -- the count is the number of records
  unfoldable pub build : Counted
  build =
      record {
        refusal = build_refusal;
        count = accepted build_refusal (length (list_of_raster m raster)) 0;
      }

  unfoldable pub build_keys : List ℕ
  build_keys = accepted build_refusal (over (keys_of (list_of_raster m raster)) keys) keys

  unfoldable pub build_bits : List ℕ
  build_bits = accepted build_refusal (over (values_of (list_of_raster m raster)) bits) bits
