-- The refusals of load that the bytes before the records decide, in the order of load's table, and what those bytes say. Only the contract of `head::read` needs
-- it.
use Rattle.std.specs.Prelude.{ℕ, ◌≡◌, List, [], ◌∷◌}
use Rattle.definitions.specs.File.{m_in, s_in, n_in, too_short, wrong_mark, wrong_version, wrong_settings, wrong_length}
use Rattle.definitions.specs.Refusal.{Row, ◌gives◌, first}
use Rattle.definitions.specs.declared.answers.ListHead.{ListHead}

abbrev pub head_rows : List ℕ → List Row
head_rows file =
    too_short file gives 15
    ∷ wrong_mark file gives 16
    ∷ wrong_version file gives 17
    ∷ wrong_settings file gives 1
    ∷ wrong_length file gives 15
    ∷ []

unfoldable pub head_refusal : List ℕ → ℕ
head_refusal file = first (head_rows file)

-- a head that was read says what the file does
pub record HeadIn (file : List ℕ) (head : ListHead) : Type 0 where
  pub m_is : head.m ≡ m_in file
  pub s_is : head.s ≡ s_in file
  pub n-is : head.n ≡ n_in file
