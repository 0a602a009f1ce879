-- Rules whose ids ascend from a least id on, each good: rule by rule what refusal 13 says of all. Rests on keys' Cases.
use Prim.Native.Nat.{ℕ, ◌+◌, ◌≤◌}
use mathlib.Core.Path.{◌≡◌, refl, sym, ap, ◌∙◌}
use mathlib.Core.Bool.{Bool, true, false, not, ◌&&◌}
use mathlib.Core.List.{List, [], ◌∷◌}
use native.Mathlib.Omega.{arith}
use lib.Dec.{leb, ltb}
use borrow.Author.Tests.{leb-true, le-leb, ltb-true, lt-ltb}
use Rattle.keys.proofs.Cases.{and_left, and_right, and_both, same_test}
use Rattle.definitions.specs.Rules.{is_rule, all_rules, ids_ascend, bad_rules}
use Rattle.definitions.specs.declared.Rule.{Rule}

module _ (m s : ℕ) where
  -- every id is at least the least that may come, which is one more than the id before it; and every rule is good
  unfoldable pub good_from : ℕ → List Rule → Bool
  good_from next [] = true
  good_from next (rule ∷ rules) = (leb next rule.id && is_rule m s rule) && good_from (rule.id + 1) rules

  pub good_none : (next : ℕ) → good_from next [] ≡ true
  unfolding good_from
  good_none next = refl

  pub good_cons : (next : ℕ) (rule : Rule) (rules : List Rule) → good_from next (rule ∷ rules) ≡ (leb next rule.id && is_rule m s rule) && good_from (rule.id + 1) rules
  unfolding good_from
  good_cons next rule rules = refl

  module _ (next : ℕ) (rule : Rule) (rules : List Rule) (e : good_from next (rule ∷ rules) ≡ true) where
    abbrev this : Bool
    this = leb next rule.id && is_rule m s rule

    -- the first rule may come, and the others after it
    pub good_first : this ≡ true
    good_first = and_left this (good_from (rule.id + 1) rules) (sym (good_cons next rule rules) ∙ e)

    pub good_rest : good_from (rule.id + 1) rules ≡ true
    good_rest = and_right this (good_from (rule.id + 1) rules) (sym (good_cons next rule rules) ∙ e)

    pub good_low : next ≤ rule.id
    good_low = leb-true next rule.id (and_left (leb next rule.id) (is_rule m s rule) good_first)

  -- of rules that are not good the first is not, or the others are not
  pub not_good : (next : ℕ) (rule : Rule) (rules : List Rule) → leb next rule.id && is_rule m s rule ≡ true → good_from next (rule ∷ rules) ≡ false → good_from (rule.id + 1) rules ≡ false
  not_good next rule rules first bad = sym (good_cons next rule rules ∙ ap (λ b. b && good_from (rule.id + 1) rules) first) ∙ bad

  -- ids that ascend, and good rules, from the first id on
  from_all : (next : ℕ) (rule : Rule) (rules : List Rule) → next ≤ rule.id → ids_ascend (rule ∷ rules) ≡ true → all_rules m s (rule ∷ rules) ≡ true → good_from next (rule ∷ rules) ≡ true
  unfolding good_from ids_ascend all_rules
  from_all next rule [] low asc all = and_both _ true (and_both _ _ (le-leb next rule.id low) (and_left (is_rule m s rule) true all)) refl
  from_all next rule (second ∷ rules) low asc all =
      let step = ltb-true rule.id second.id (and_left (ltb rule.id second.id) (ids_ascend (second ∷ rules)) asc) in
      let rest = from_all (rule.id + 1) second rules (omega arith) (and_right (ltb rule.id second.id) (ids_ascend (second ∷ rules)) asc) (and_right (is_rule m s rule) (all_rules m s (second ∷ rules)) all) in
      and_both _ _ (and_both _ _ (le-leb next rule.id low) (and_left (is_rule m s rule) (all_rules m s (second ∷ rules)) all)) rest

  -- and back
  to_ascend : (next : ℕ) (rules : List Rule) → good_from next rules ≡ true → ids_ascend rules ≡ true
  unfolding ids_ascend
  to_ascend next [] e = refl
  to_ascend next (rule ∷ []) e = refl
  to_ascend next (rule ∷ (second ∷ rules)) e =
      let rest = good_rest next rule (second ∷ rules) e in
      let low = good_low (rule.id + 1) second rules rest in
      and_both _ _ (lt-ltb rule.id second.id (omega arith)) (to_ascend (rule.id + 1) (second ∷ rules) rest)

  to_all : (next : ℕ) (rules : List Rule) → good_from next rules ≡ true → all_rules m s rules ≡ true
  unfolding all_rules
  to_all next [] e = refl
  to_all next (rule ∷ rules) e =
      and_both _ _ (and_right (leb next rule.id) (is_rule m s rule) (good_first next rule rules e)) (to_all (rule.id + 1) rules (good_rest next rule rules e))

  all_good : (rules : List Rule) → ids_ascend rules ≡ true → all_rules m s rules ≡ true → good_from 0 rules ≡ true
  all_good [] asc all = good_none 0
  all_good (rule ∷ rules) asc all = from_all 0 rule rules (omega arith) asc all

  -- refusal 13 is given exactly where they are not good
  pub bad-rules : (rules : List Rule) → bad_rules m s rules ≡ not (good_from 0 rules)
  unfolding bad_rules
  bad-rules rules =
      ap not
      (same_test (ids_ascend rules && all_rules m s rules) (good_from 0 rules)
      (λ e. all_good rules (and_left (ids_ascend rules) (all_rules m s rules) e) (and_right (ids_ascend rules) (all_rules m s rules) e))
      (λ e. and_both _ _ (to_ascend 0 rules e) (to_all 0 rules e)))
