-- Combine two lists into a third (specification S19). Refusals 1, 24, 4 (first list, then second), 25, 9.
use Rattle.std.specs.Prelude.{ℕ, not, ◌||◌, List, [], ◌∷◌, length, ltb, eqb}
use Rattle.definitions.specs.List.{Record, keys_of, values_of}
use Rattle.definitions.specs.Read.{room, records_of}
use Rattle.definitions.specs.Buffer.{over}
use Rattle.definitions.specs.Combine.{combined_list, bad_class_table}
use Rattle.definitions.specs.Refusal.{◌gives◌, first, accepted, bad_settings, no_list}
use Rattle.definitions.specs.declared.Counted.{Counted}

module _ (m₁ s₁ : ℕ) (keys₁ bits₁ : List ℕ) (n₁ m₂ s₂ : ℕ) (keys₂ bits₂ : List ℕ) (n₂ s₃ : ℕ) (table : List ℕ) where
  -- the list of the combined pictures
  unfoldable pub combination : List Record
  combination = combined_list m₁ (records_of keys₁ bits₁ n₁) (records_of keys₂ bits₂ n₂) table s₂

  module _ (keys bits : List ℕ) where
    -- the result's own settings are m₁ and s₃
    unfoldable pub combine_refusal : ℕ
    combine_refusal =
        first
        ((bad_settings m₁ s₁ || (bad_settings m₂ s₂ || bad_settings m₁ s₃)) gives 1
        ∷ not (eqb m₁ m₂) gives 24
        ∷ no_list m₁ s₁ keys₁ bits₁ n₁ gives 4
        ∷ no_list m₂ s₂ keys₂ bits₂ n₂ gives 4
        ∷ bad_class_table s₁ s₂ s₃ table gives 25
        ∷ ltb (room keys bits) (length combination) gives 9
        ∷ [])

    -- the count is the number of records
    unfoldable pub combine : Counted
    combine = record { refusal = combine_refusal; count = accepted combine_refusal (length combination) 0 }

    unfoldable pub combine_keys : List ℕ
    combine_keys = accepted combine_refusal (over (keys_of combination) keys) keys

    unfoldable pub combine_bits : List ℕ
    combine_bits = accepted combine_refusal (over (values_of combination) bits) bits
