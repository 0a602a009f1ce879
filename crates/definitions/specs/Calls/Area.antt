-- Area: how many pixels of a window have a feature (specification S8.10)? Refusals 1, 4, 18, 6, 7.
use Rattle.std.specs.Prelude.{ℕ, List, [], ◌∷◌}
use Rattle.definitions.specs.Read.{records_of, picture_of}
use Rattle.definitions.specs.Area.{area_in, no_summary}
use Rattle.definitions.specs.Window.{bad_window}
use Rattle.definitions.specs.Refusal.{◌gives◌, first, accepted, bad_settings, no_list, bad_feature}
use Rattle.definitions.specs.declared.Window.{Window}
use Rattle.definitions.specs.declared.Measured.{Measured}

module _ (m s : ℕ) (keys bits : List ℕ) (n : ℕ) (summary : List ℕ) (w : Window) (f : ℕ) where
  unfoldable pub area_refusal : ℕ
  area_refusal =
      first
      (bad_settings m s gives 1
      ∷ no_list m s keys bits n gives 4
      ∷ no_summary m s (picture_of m (records_of keys bits n)) summary gives 18
      ∷ bad_window m w gives 6
      ∷ bad_feature s f gives 7
      ∷ [])

  unfoldable pub area : Measured
  area =
      record {
        refusal = area_refusal;
        pixels = accepted area_refusal (area_in (picture_of m (records_of keys bits n)) w f) 0;
      }
