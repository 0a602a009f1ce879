-- How a batch begins, by the rows of its table, and what it answers, by its refusal. Rests on laws' First and list's FirstRefusal.
use Prim.Native.Nat.{ℕ, ◌≤◌, ◌<◌, min}
use mathlib.Core.Path.{◌≡◌, refl, sym, ap, ◌∙◌}
use mathlib.Core.Bool.{cond}
use mathlib.Core.List.{List}
use borrow.Author.Tests.{lt-ltb, le-ltb, eq-eqb, ne_eqb}
use Rattle.definitions.specs.declared.Counted.{Counted}
use Rattle.laws.proofs.First.{this, none_first, holds_first, accepted_done, accepted_left}
use Rattle.list.specs.First.{first_refusal}
use Rattle.list.proofs.FirstRefusal.{refused_first, passed_first, first_small}
use lib.Dec.{eqb}
use native.Mathlib.Omega.{arith}
use Rattle.definitions.specs.Refused.{refusal_number, places_needed}
use Rattle.definitions.specs.declared.refusal.Refusal.{Refusal}
use Rattle.definitions.proofs.Refused.{refusal_some}
use Rattle.definitions.proofs.Needed.{none_needed}
use Rattle.batch.specs.declared.begin.BatchState.{BatchState}
use Rattle.batch.specs.Run.{answering_refusal, answering_begins, answering_ends}

module _ (m s : ℕ) (keys bits : List ℕ) (n questions room_refusals room_values : ℕ) where
  -- 1 and 4
  pub begin_early : (k : ℕ) → k ≡ first_refusal m s keys bits n → (k ≡ 0 → ⊥) → k ≡ answering_refusal m s keys bits n questions room_refusals room_values
  unfolding answering_refusal
  begin_early k e h = refused_first m s keys bits n k _ e h

  -- and then no places are needed
  pub early_needed : (refusal : Refusal) → refusal_number refusal ≡ first_refusal m s keys bits n
      → places_needed refusal ≡ cond (eqb (answering_refusal m s keys bits n questions room_refusals room_values) 12) questions 0
  early_needed refusal e =
      let small = first_small m s keys bits n in
      let other : refusal_number refusal ≡ 12 → ⊥ = λ z. omega arith in
      none_needed refusal other ∙ sym (ap (λ b. cond b questions 0) (ne_eqb _ 12 (λ z. other (begin_early (refusal_number refusal) e (refusal_some refusal) ∙ z))))

  pub begun : (refusal : ℕ) → refusal ≡ answering_refusal m s keys bits n questions room_refusals room_values
      → record { m = m; s = s; n = n; refusal = refusal; questions = questions; place = 0 } ≡ answering_begins m s keys bits n questions room_refusals room_values
  begun refusal e = λ i. record { m = m; s = s; n = n; refusal = e i; questions = questions; place = 0 }

  -- past them the room decides
  module _ (k : ℕ) (e : k ≡ first_refusal m s keys bits n) (zero : k ≡ 0) where
    pub begin_twelve : min room_refusals room_values < questions → 12 ≡ answering_refusal m s keys bits n questions room_refusals room_values
    unfolding answering_refusal
    begin_twelve short = sym (passed_first m s keys bits n k _ e zero ∙ holds_first (this (lt-ltb _ _ short) refl))

    pub begin_none : questions ≤ min room_refusals room_values → 0 ≡ answering_refusal m s keys bits n questions room_refusals room_values
    unfolding answering_refusal
    begin_none room = sym (passed_first m s keys bits n k _ e zero ∙ none_first _ (le-ltb _ _ room, tt))

counted : {a b b' : ℕ} → b ≡ b' → ◌≡◌ {A = Counted} (record { refusal = a; count = b }) (record { refusal = a; count = b' })
counted {a} e i = record { refusal = a; count = e i }

pub answer_done : (st : BatchState) → st.refusal ≡ 0 → record { refusal = st.refusal; count = st.questions } ≡ answering_ends st
unfolding answering_ends
answer_done st e = counted (sym (accepted_done _ _ e))

pub answer_full : (st : BatchState) → (st.refusal ≡ 0 → ⊥) → st.refusal ≡ 12 → record { refusal = st.refusal; count = st.questions } ≡ answering_ends st
unfolding answering_ends
answer_full st h e = counted (sym (accepted_left _ _ h ∙ ap (λ t. cond t st.questions 0) (eq-eqb st.refusal 12 e)))

pub answer_refused : (st : BatchState) → (st.refusal ≡ 0 → ⊥) → (st.refusal ≡ 12 → ⊥) → record { refusal = st.refusal; count = 0 } ≡ answering_ends st
unfolding answering_ends
answer_refused st h k = counted (sym (accepted_left _ _ h ∙ ap (λ t. cond t st.questions 0) (ne_eqb st.refusal 12 k)))
