-- The table of a call that asks a list, from its first two rows on (refusals 1 and 4): what they refuse the call refuses, and past them the other rows
-- decide, of good settings and an accepted list. Rests on Tests and the laws of tables.
use Prim.Native.Nat.{ℕ, ◌≤◌}
use mathlib.Core.Path.{◌≡◌, refl, sym, ◌∙◌}
use mathlib.Core.Bool.{true, false}
use mathlib.Core.List.{List, []}
use native.Mathlib.Omega.{arith}
use borrow.Author.Tests.{not-false}
use Rattle.keys.proofs.Cases.{decide}
use Rattle.definitions.specs.Read.{is_list}
use Rattle.definitions.specs.Refusal.{Row, first, bad_settings, no_list}
use Rattle.laws.proofs.First.{NoneHolds, this, later, first_later, first_holds, first_none, none_first, holds_first, holds_more}
use Rattle.list.specs.First.{list_first, first_refusal}
use Rattle.list.proofs.Tests.{GoodSettings, good_settings}

-- what is shown once both rows are passed
pub record ListPassed (m s : ℕ) (keys bits : List ℕ) (n : ℕ) : Type 0 where
  pub sound : bad_settings m s ≡ false
  pub settings : GoodSettings m s
  pub list : is_list m s keys bits n ≡ true

module _ (m s : ℕ) (keys bits : List ℕ) (n : ℕ) where
  -- by the tests of the code
  pub first_settings : bad_settings m s ≡ true → first_refusal m s keys bits n ≡ 1
  unfolding first_refusal
  first_settings bad = holds_first (this bad refl)

  pub first_no_list : bad_settings m s ≡ false → no_list m s keys bits n ≡ true → first_refusal m s keys bits n ≡ 4
  unfolding first_refusal
  first_no_list good wrong = holds_first (later good (this wrong refl))

  pub first_good : bad_settings m s ≡ false → no_list m s keys bits n ≡ false → first_refusal m s keys bits n ≡ 0
  unfolding first_refusal
  first_good good list = none_first _ (good, (list, tt))

  -- what the first two rows refuse, the call refuses by the same number
  pub refused_first : (k : ℕ) (more : List Row) → k ≡ first_refusal m s keys bits n → (k ≡ 0 → ⊥) → k ≡ first (list_first m s keys bits n more)
  unfolding first_refusal
  refused_first k more e not-zero = sym (holds_first (holds_more more (first_holds k (list_first m s keys bits n []) not-zero (sym e))))

  neither : (k : ℕ) → k ≡ first_refusal m s keys bits n → k ≡ 0 → NoneHolds (list_first m s keys bits n [])
  unfolding first_refusal
  neither k e zero = first_none (list_first m s keys bits n []) refl (sym e ∙ zero)

  -- past them the other rows decide
  pub passed_first : (k : ℕ) (more : List Row) → k ≡ first_refusal m s keys bits n → k ≡ 0 → first (list_first m s keys bits n more) ≡ first more
  passed_first k more e zero = let none = neither k e zero in first_later _ _ none.0 ∙ first_later _ _ none.1.0

  -- and the list is good
  pub list_passed : (k : ℕ) → k ≡ first_refusal m s keys bits n → k ≡ 0 → ListPassed m s keys bits n
  list_passed k e zero =
      let none = neither k e zero in
      record { sound = none.0; settings = good_settings m s none.0; list = not-false (is_list m s keys bits n) none.1.0 }

  -- the number fits any width
  pub first_small : first_refusal m s keys bits n ≤ 4
  first_small =
      decide (bad_settings m s)
      (λ bad. let e = first_settings bad in omega arith)
      (λ good.
      decide (no_list m s keys bits n)
      (λ wrong. let e = first_no_list good wrong in omega arith)
      (λ list. let e = first_good good list in omega arith))
