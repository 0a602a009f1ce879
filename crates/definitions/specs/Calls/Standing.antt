-- Standing: where a block stands. Refusals 1, 4, 8.
use Rattle.std.specs.Prelude.{ℕ, List, [], ◌∷◌}
use Rattle.definitions.specs.Read.{records_of}
use Rattle.definitions.specs.Standing.{standing_of, numbers_of}
use Rattle.definitions.specs.Refusal.{◌gives◌, first, accepted, bad_settings, no_list, bad_key}
use Rattle.definitions.specs.declared.Stands.{Stands}

unfoldable pub standing_refusal : (m s : ℕ) (keys bits : List ℕ) (n κ : ℕ) → ℕ
standing_refusal m s keys bits n κ =
    first (bad_settings m s gives 1 ∷ no_list m s keys bits n gives 4 ∷ bad_key m κ gives 8 ∷ [])

-- a refused call's answer: its number alone
abbrev pub stands_nowhere : (number : ℕ) → Stands
stands_nowhere number = record { refusal = number; kind = 0; place = 0; records = 0; leaf = 0; level = 0 }

unfoldable pub standing : (m s : ℕ) (keys bits : List ℕ) (n κ : ℕ) → Stands
standing m s keys bits n κ =
    accepted (standing_refusal m s keys bits n κ)
    (numbers_of (standing_of m κ (records_of keys bits n)))
    (stands_nowhere (standing_refusal m s keys bits n κ))
