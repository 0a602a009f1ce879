-- Exist: does a feature occur in a window? Refusals 1, 4, 6, 7.
use Rattle.std.specs.Prelude.{ℕ, cond, List, [], ◌∷◌}
use Rattle.definitions.specs.Read.{records_of, picture_of}
use Rattle.definitions.specs.Window.{bad_window, exist_in}
use Rattle.definitions.specs.Refusal.{◌gives◌, first, accepted, bad_settings, no_list, bad_feature}
use Rattle.definitions.specs.declared.Window.{Window}
use Rattle.definitions.specs.declared.Exists.{Exists}

module _ (m s : ℕ) (keys bits : List ℕ) (n : ℕ) (w : Window) (f : ℕ) where
  unfoldable pub exist_refusal : ℕ
  exist_refusal =
      first
      (bad_settings m s gives 1
      ∷ no_list m s keys bits n gives 4
      ∷ bad_window m w gives 6
      ∷ bad_feature s f gives 7
      ∷ [])

  -- yes is 1
  unfoldable pub exist : Exists
  exist =
      record {
        refusal = exist_refusal;
        yes = accepted exist_refusal (cond (exist_in (picture_of m (records_of keys bits n)) w f) 1 0) 0;
      }
