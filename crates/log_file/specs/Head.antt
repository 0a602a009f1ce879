-- The refusals of load that the bytes before the records decide, in the order of load's table, and what those bytes say. Only the contract of `head::read` needs
-- it.
use Rattle.std.specs.Prelude.{ℕ, ◌≡◌, List, [], ◌∷◌}
use Rattle.definitions.specs.File.{m_in, s_in}
use Rattle.definitions.specs.LogFile.{used_in, in_force_in, log_too_short, wrong_log_mark, wrong_log_version, wrong_log_settings, wrong_log_length}
use Rattle.definitions.specs.Refusal.{Row, ◌gives◌, first}
use Rattle.definitions.specs.declared.answers.LogHead.{LogHead}

abbrev pub log_head_rows : List ℕ → List Row
log_head_rows file =
    log_too_short file gives 15
    ∷ wrong_log_mark file gives 16
    ∷ wrong_log_version file gives 17
    ∷ wrong_log_settings file gives 1
    ∷ wrong_log_length file gives 15
    ∷ []

unfoldable pub log_head_refusal : List ℕ → ℕ
log_head_refusal file = first (log_head_rows file)

-- a head that was read says what the file does
pub record LogHeadIn (file : List ℕ) (head : LogHead) : Type 0 where
  pub m_is : head.m ≡ m_in file
  pub s_is : head.s ≡ s_in file
  pub used_is : head.used ≡ used_in file
  pub force_is : head.in_force ≡ in_force_in file
