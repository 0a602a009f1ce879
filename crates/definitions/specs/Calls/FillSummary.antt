-- Fill the summary of a list (specification S8.8). Refusals 1, 4, 18 (for the length alone).
use Rattle.std.specs.Prelude.{ℕ, List, [], ◌∷◌}
use Rattle.definitions.specs.Read.{records_of, picture_of}
use Rattle.definitions.specs.Area.{summary_of, bad_summary_length}
use Rattle.definitions.specs.Refusal.{◌gives◌, first, accepted, bad_settings, no_list}
use Rattle.definitions.specs.declared.Done.{Done}

module _ (m s : ℕ) (keys bits : List ℕ) (n : ℕ) (summary : List ℕ) where
  unfoldable pub fill_refusal : ℕ
  fill_refusal =
      first (bad_settings m s gives 1 ∷ no_list m s keys bits n gives 4 ∷ bad_summary_length m s summary gives 18 ∷ [])

  unfoldable pub fill_summary : Done
  fill_summary = record { refusal = fill_refusal }

  -- every place of the summary is written
  unfoldable pub filled_summary : List ℕ
  filled_summary = accepted fill_refusal (summary_of m s (picture_of m (records_of keys bits n))) summary
