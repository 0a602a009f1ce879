-- The answers of the small tests and of the two calls' tables, one for each way out of the code. Rests on the laws of tables.
use Prim.Native.Nat.{ℕ, ◌+◌}
use mir.Val.{bool_byte}
use mathlib.Core.Path.{◌≡◌, refl, sym, ap, ◌∙◌}
use mathlib.Core.Bool.{Bool, true, false, cond, not}
use mathlib.Core.List.{List}
use native.Mathlib.Omega.{arith}
use borrow.Author.Tests.{eq-eqb, ne_eqb}
use Rattle.keys.proofs.Cases.{decide}
use Rattle.list.specs.First.{first_refusal}
use Rattle.list.proofs.FirstRefusal.{first_no_list, first_good}
use Rattle.definitions.specs.Refusal.{bad_settings, no_list}
use Rattle.definitions.specs.BitStrings.{leaf_value}
use Rattle.laws.proofs.First.{this, later, holds_first, none_first}
use Rattle.bit_strings.specs.Steps.{next_bit}
use Rattle.bit_strings.specs.Strings.{early_refusal}
use Rattle.bit_strings.proofs.NextBit.{next_first}

-- the bitstring of a leaf, by the bit that was looked for
pub value_two : (l : List Bool) → 1 ≡ next_bit l → 2 ≡ leaf_value l
value_two l one = sym (ap (λ t. cond t 2 1) (sym (next_first l) ∙ eq-eqb (next_bit l) 1 (sym one)))

pub value_one : (l : List Bool) → (1 ≡ next_bit l → ⊥) → 1 ≡ leaf_value l
value_one l other = sym (ap (λ t. cond t 2 1) (sym (next_first l) ∙ ne_eqb (next_bit l) 1 (λ t. other (sym t))))

pub value_none : (l : List Bool) → 2 ≡ next_bit l → 1 ≡ leaf_value l
value_none l two = value_one l (λ (z : 1 ≡ next_bit l). omega arith)

pub value_found : (l : List Bool) (b : Bool) → cond b 1 0 ≡ next_bit l → 1 + bool_byte b ≡ leaf_value l
value_found l true e = value_two l e
value_found l false e = value_one l (λ (z : 1 ≡ next_bit l). omega arith)

-- ---- refusals 1, 23 and 4

module _ (m s : ℕ) (keys bits : List ℕ) (n : ℕ) where
  pub early_settings : bad_settings m s ≡ true → 1 ≡ early_refusal m s keys bits n
  unfolding early_refusal
  early_settings e = sym (holds_first (this e refl))

  module _ (good : bad_settings m s ≡ false) where
    pub early_slots : (s ≡ 2 → ⊥) → 23 ≡ early_refusal m s keys bits n
    unfolding early_refusal
    early_slots e = sym (holds_first (later good (this (ap not (ne_eqb s 2 e)) refl)))

    -- past these the list's own tests decide
    pub early_accepts : s ≡ 2 → first_refusal m s keys bits n ≡ early_refusal m s keys bits n
    unfolding early_refusal
    early_accepts two =
        decide (no_list m s keys bits n)
        (λ wrong. first_no_list m s keys bits n good wrong ∙ sym (holds_first (later good (later (ap not (eq-eqb s 2 two)) (this wrong refl)))))
        (λ right. first_good m s keys bits n good right ∙ sym (none_first _ (good, (ap not (eq-eqb s 2 two), (right, tt)))))
