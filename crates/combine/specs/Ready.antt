-- What the refusals before 9 decide and leave shown, and what a call answers past them, for the contracts of src/ alone.
use Rattle.std.specs.Prelude.{ℕ, ◌≤◌, ◌≡◌, cond, not, ◌||◌, List, [], ◌∷◌, ltb, eqb, length}
use Rattle.definitions.specs.List.{Record, list_of_picture, keys_of, values_of}
use Rattle.definitions.specs.Read.{room}
use Rattle.definitions.specs.Buffer.{over}
use Rattle.definitions.specs.Refusal.{Row, ◌gives◌, accepted, bad_settings, no_list}
use Rattle.definitions.specs.Combine.{combined, bad_class_table}
use Rattle.definitions.specs.declared.Counted.{Counted}
use Rattle.list.specs.Own.{OwnList, shown_by}
use Rattle.list.specs.Taken.{Taken}
use Rattle.list.specs.declared.accepted_list.Accepted.{Accepted}
use Rattle.combine.specs.Combining.{Named}

-- the rows of the table of refusals before 9
abbrev pub early_rows : (m₁ s₁ : ℕ) (keys₁ bits₁ : List ℕ) (n₁ m₂ s₂ : ℕ) (keys₂ bits₂ : List ℕ) (n₂ s₃ : ℕ) (table : List ℕ) → List Row
early_rows m₁ s₁ keys₁ bits₁ n₁ m₂ s₂ keys₂ bits₂ n₂ s₃ table =
    (bad_settings m₁ s₁ || (bad_settings m₂ s₂ || bad_settings m₁ s₃)) gives 1
    ∷ not (eqb m₁ m₂) gives 24
    ∷ no_list m₁ s₁ keys₁ bits₁ n₁ gives 4
    ∷ no_list m₂ s₂ keys₂ bits₂ n₂ gives 4
    ∷ bad_class_table s₁ s₂ s₃ table gives 25
    ∷ []

-- two accepted lists of one resolution, with a table for their classes
pub record CombineReady (m : ℕ) (keys₁ bits₁ : List ℕ) (n₁ : ℕ) (keys₂ bits₂ : List ℕ) (n₂ : ℕ) (table : List ℕ) (s₂ : ℕ) : Type 0 where
  pub deep : m ≤ 10
  pub first_own : OwnList m keys₁ bits₁ n₁
  pub second_own : OwnList m keys₂ bits₂ n₂
  pub named : Named (shown_by m keys₁ bits₁ n₁) (shown_by m keys₂ bits₂ n₂) m 0 0 table s₂

-- the list of what the two show, combined
abbrev pub result_of : (m : ℕ) (keys₁ bits₁ : List ℕ) (n₁ : ℕ) (keys₂ bits₂ : List ℕ) (n₂ : ℕ) (table : List ℕ) (s₂ : ℕ) → List Record
result_of m keys₁ bits₁ n₁ keys₂ bits₂ n₂ table s₂ =
    list_of_picture m (combined (shown_by m keys₁ bits₁ n₁) (shown_by m keys₂ bits₂ n₂) table s₂)

-- the same of two accepted lists
abbrev pub ListsReady : (first second : Accepted) (table : List ℕ) (s₂ : ℕ) → Type 0
ListsReady first second table s₂ =
    CombineReady first.m first.keys.now first.bits.now (length first.keys.now) second.keys.now second.bits.now (length second.keys.now) table s₂

abbrev pub list_combined : (first second : Accepted) (table : List ℕ) (s₂ : ℕ) → List Record
list_combined first second table s₂ =
    result_of first.m first.keys.now first.bits.now (length first.keys.now) second.keys.now second.bits.now (length second.keys.now) table s₂

-- each is taken from its own slices
pub record BothTaken (m₁ : ℕ) (keys₁ bits₁ : List ℕ) (n₁ m₂ : ℕ) (keys₂ bits₂ : List ℕ) (n₂ : ℕ) (first second : Accepted) : Type 0 where
  pub first_taken : Taken m₁ keys₁ bits₁ n₁ first
  pub second_taken : Taken m₂ keys₂ bits₂ n₂ second

-- 9 where a list has no room, and else the list is in the slices
pub record Answered (l : List Record) (keys bits keys' bits' : List ℕ) (answer : Counted) : Type 0 where
  pub refusal_is : answer.refusal ≡ cond (ltb (room keys bits) (length l)) 9 0
  pub count-is : answer.count ≡ accepted answer.refusal (length l) 0
  pub keys_are : keys' ≡ accepted answer.refusal (over (keys_of l) keys) keys
  pub bits_are : bits' ≡ accepted answer.refusal (over (values_of l) bits) bits
