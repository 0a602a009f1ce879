-- The answers of the filling call: a refused call leaves the summary, and an accepted one has passed its table. Rests on list's FirstRefusal.
use Prim.Native.Nat.{ℕ}
use mathlib.Core.Path.{◌≡◌, refl, sym, ◌∙◌, ap}
use mathlib.Core.Bool.{true, false, not}
use mathlib.Core.List.{List}
use native.Mathlib.Omega.{arith}
use lib.Dec.{eqb}
use lib.ListN.{length}
use Rattle.definitions.specs.Area.{summary_length, summary_of}
use Rattle.definitions.specs.Refused.{refusal_number}
use Rattle.definitions.specs.declared.refusal.Refusal.{Refusal}
use Rattle.definitions.specs.Calls.FillSummary.{fill_refusal, fill_summary, filled_summary}
use Rattle.definitions.proofs.Refused.{refusal_some}
use Rattle.laws.proofs.First.{this, holds_first, none_first, accepted_done, accepted_left}
use Rattle.list.specs.First.{first_refusal}
use Rattle.list.specs.Own.{shown_by}
use Rattle.list.proofs.FirstRefusal.{refused_first, passed_first}

module _ (m s : ℕ) (keys bits : List ℕ) (n : ℕ) (summary : List ℕ) where
  -- a call that is refused answers so, and writes nothing
  Refuses : ℕ → Type 0
  Refuses k = (record { refusal = k } ≡ fill_summary m s keys bits n summary) × (summary ≡ filled_summary m s keys bits n summary)

  refuses : (k : ℕ) → k ≡ fill_refusal m s keys bits n summary → (k ≡ 0 → ⊥) → Refuses k
  unfolding fill_summary filled_summary Refuses
  refuses k is h = ((λ i. record { refusal = is i }), sym (accepted_left _ summary (λ e. h (is ∙ e))))

  -- by the rows of every call
  pub fill_refused : (r : Refusal) → refusal_number r ≡ first_refusal m s keys bits n
      → (record { refusal = refusal_number r } ≡ fill_summary m s keys bits n summary) × (summary ≡ filled_summary m s keys bits n summary)
  unfolding fill_refusal Refuses
  fill_refused r told = refuses (refusal_number r) (refused_first m s keys bits n (refusal_number r) _ told (refusal_some r)) (refusal_some r)

  module _ (told : 0 ≡ first_refusal m s keys bits n) where
    -- by the length
    pub fill_long : eqb (length summary) (summary_length m s) ≡ false
        → (record { refusal = 18 } ≡ fill_summary m s keys bits n summary) × (summary ≡ filled_summary m s keys bits n summary)
    unfolding fill_refusal Refuses
    fill_long e =
        refuses 18 (sym (passed_first m s keys bits n 0 _ told refl ∙ holds_first (this (ap not e) refl))) (λ x. absurd (omega arith))

    -- or by nothing
    module _ (right : eqb (length summary) (summary_length m s) ≡ true) where
      none : fill_refusal m s keys bits n summary ≡ 0
      unfolding fill_refusal
      none = passed_first m s keys bits n 0 _ told refl ∙ none_first _ (ap not right, tt)

      pub fill_done : record { refusal = 0 } ≡ fill_summary m s keys bits n summary
      unfolding fill_summary
      fill_done = λ i. record { refusal = sym none i }

      pub fill_wrote : (after : List ℕ) → after ≡ summary_of m s (shown_by m keys bits n) → after ≡ filled_summary m s keys bits n summary
      unfolding filled_summary
      fill_wrote after e = e ∙ sym (accepted_done _ summary none)
