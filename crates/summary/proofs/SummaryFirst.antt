-- The table of a call that asks a list and its summary, from its first three rows on (refusals 1, 4 and 18): what they refuse the call refuses, and past
-- them the other rows decide, of good settings, an accepted list and its summary. Rests on the laws of tables.
use Prim.Native.Nat.{ℕ}
use mathlib.Core.Path.{◌≡◌, refl, sym, ◌∙◌, ap}
use mathlib.Core.Bool.{Bool, true, false, not}
use mathlib.Core.List.{List, []}
use Rattle.definitions.specs.Area.{no_summary}
use Rattle.definitions.specs.Refusal.{Row, first, bad_settings, no_list}
use Rattle.laws.proofs.First.{NoneHolds, this, first_later, first_holds, first_none, none_first, holds_first, holds_more}
use Rattle.list.specs.First.{first_refusal}
use Rattle.list.specs.Own.{shown_by}
use Rattle.list.proofs.FirstRefusal.{refused_first, passed_first}
use Rattle.summary.specs.First.{summary_first, summary_refusal}

-- what is shown once the three rows are passed
pub record SummaryPassed (m s : ℕ) (keys bits : List ℕ) (n : ℕ) (summary : List ℕ) : Type 0 where
  pub settings : bad_settings m s ≡ false
  pub listed : no_list m s keys bits n ≡ false
  pub summed : no_summary m s (shown_by m keys bits n) summary ≡ false

-- what a test that answers the contrary says
contrary : (b x v : Bool) → b ≡ not x → b ≡ v → x ≡ not v
contrary b x v e t = twice x ∙ ap not (sym e ∙ t)
  where
    twice : (y : Bool) → y ≡ not (not y)
    twice true = refl
    twice false = refl

module _ (m s : ℕ) (keys bits : List ℕ) (n : ℕ) (summary : List ℕ) where
  -- by the tests of the code
  pub summary_refused : (k : ℕ) → k ≡ first_refusal m s keys bits n → (k ≡ 0 → ⊥) → k ≡ summary_refusal m s keys bits n summary
  unfolding summary_refusal
  summary_refused k e not-zero = refused_first m s keys bits n k _ e not-zero

  module _ (k : ℕ) (e : k ≡ first_refusal m s keys bits n) (zero : k ≡ 0) (r : Bool) (is : r ≡ not (no_summary m s (shown_by m keys bits n) summary)) where
    pub summary_good : r ≡ true → 0 ≡ summary_refusal m s keys bits n summary
    unfolding summary_refusal
    summary_good t = sym (passed_first m s keys bits n k _ e zero ∙ none_first _ (contrary r _ true is t, tt))

    pub summary_wrong : r ≡ false → 18 ≡ summary_refusal m s keys bits n summary
    unfolding summary_refusal
    summary_wrong t = sym (passed_first m s keys bits n k _ e zero ∙ holds_first (this (contrary r _ false is t) refl))

  -- what the first three rows refuse, the call refuses by the same number
  pub refused_summary : (k : ℕ) (more : List Row) → k ≡ summary_refusal m s keys bits n summary → (k ≡ 0 → ⊥) → k ≡ first (summary_first m s keys bits n summary more)
  unfolding summary_refusal
  refused_summary k more e not-zero = sym (holds_first (holds_more more (first_holds k (summary_first m s keys bits n summary []) not-zero (sym e))))

  neither : (k : ℕ) → k ≡ summary_refusal m s keys bits n summary → k ≡ 0 → NoneHolds (summary_first m s keys bits n summary [])
  unfolding summary_refusal
  neither k e zero = first_none (summary_first m s keys bits n summary []) refl (sym e ∙ zero)

  -- past them the other rows decide
  pub passed_summary : (k : ℕ) (more : List Row) → k ≡ summary_refusal m s keys bits n summary → k ≡ 0 → first (summary_first m s keys bits n summary more) ≡ first more
  passed_summary k more e zero =
      let none = neither k e zero in
      first_later _ _ none.0 ∙ first_later _ _ none.1.0 ∙ first_later _ _ none.1.1.0

  -- and the list and its summary are good
  pub summary_passed : (k : ℕ) → k ≡ summary_refusal m s keys bits n summary → k ≡ 0 → SummaryPassed m s keys bits n summary
  summary_passed k e zero = let none = neither k e zero in record { settings = none.0; listed = none.1.0; summed = none.1.1.0 }
