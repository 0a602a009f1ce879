-- What every call that asks a list and its summary does first: refusals 1, 4 and 18, the first three rows of its table. Rests on Refusal and Area of the
-- definitions, and on list's Own.
use Rattle.std.specs.Prelude.{ℕ, List, [], ◌∷◌}
use Rattle.definitions.specs.Area.{no_summary}
use Rattle.definitions.specs.Refusal.{Row, ◌gives◌, first, bad_settings, no_list}
use Rattle.list.specs.Own.{shown_by}

-- a table that begins with them
abbrev pub summary_first : (m s : ℕ) (keys bits : List ℕ) (n : ℕ) (summary : List ℕ) (more : List Row) → List Row
summary_first m s keys bits n summary more =
    bad_settings m s gives 1 ∷ no_list m s keys bits n gives 4 ∷ no_summary m s (shown_by m keys bits n) summary gives 18 ∷ more

unfoldable pub summary_refusal : (m s : ℕ) (keys bits : List ℕ) (n : ℕ) (summary : List ℕ) → ℕ
summary_refusal m s keys bits n summary = first (summary_first m s keys bits n summary [])
