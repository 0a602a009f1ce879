-- What every call that asks a list does first: refusals 1 and 4, the first two rows of its table. Rests on Refusal of the definitions.
use Rattle.std.specs.Prelude.{ℕ, List, [], ◌∷◌}
use Rattle.definitions.specs.Refusal.{Row, ◌gives◌, first, bad_settings, no_list}

-- a table that begins with them
abbrev pub list_first : (m s : ℕ) (keys bits : List ℕ) (n : ℕ) (more : List Row) → List Row
list_first m s keys bits n more = bad_settings m s gives 1 ∷ no_list m s keys bits n gives 4 ∷ more

unfoldable pub first_refusal : (m s : ℕ) (keys bits : List ℕ) (n : ℕ) → ℕ
first_refusal m s keys bits n = first (list_first m s keys bits n [])
