-- Report: which features occur in a window? Refusals 1, 4, 6.
use Rattle.std.specs.Prelude.{ℕ, List, [], ◌∷◌}
use Rattle.definitions.specs.Read.{records_of, picture_of}
use Rattle.definitions.specs.Window.{bad_window, report_in}
use Rattle.definitions.specs.Refusal.{◌gives◌, first, accepted, bad_settings, no_list}
use Rattle.definitions.specs.declared.Window.{Window}
use Rattle.definitions.specs.declared.Reported.{Reported}

module _ (m s : ℕ) (keys bits : List ℕ) (n : ℕ) (w : Window) where
  unfoldable pub report_refusal : ℕ
  report_refusal =
      first (bad_settings m s gives 1 ∷ no_list m s keys bits n gives 4 ∷ bad_window m w gives 6 ∷ [])

  unfoldable pub report : Reported
  report =
      record {
        refusal = report_refusal;
        bits = accepted report_refusal (report_in (picture_of m (records_of keys bits n)) w) 0;
      }
