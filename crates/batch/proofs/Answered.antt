-- What begins, runs over the questions and answers is the batch of specification S9: the answer and what the two slices hold afterwards. Rests on Fold and
-- OfBatch, and on laws' First and Buffer.
use Prim.Native.Nat.{ℕ, ◌+◌, ◌≤◌, min}
use mathlib.Core.Path.{◌≡◌, refl, sym, ap, subst, ◌∙◌}
use mathlib.Core.List.{List, [], ◌∷◌, map}
use native.Mathlib.Numerals.{add-one}
use native.Mathlib.Nat.{add-zero}
use native.Mathlib.Omega.{arith}
use lib.ListN.{length, set, length-map}
use lib.Seq.{sets}
use borrow.Author.Tests.{not-false, ltb-false}
use Rattle.keys.proofs.Cases.{equal}
use Rattle.definitions.specs.Read.{room, is_list}
use Rattle.definitions.specs.Calls.Batch.{refusal_to, value_to, batch_refusal, batch, batch_refusals, batch_values}
use Rattle.definitions.specs.declared.Question.{Question}
use Rattle.definitions.specs.declared.Counted.{Counted}
use Rattle.laws.proofs.First.{first_none, accepted_done, accepted_left}
use Rattle.laws.proofs.Buffer.{sets_over}
use Rattle.batch.specs.Run.{AcceptedMap, Answering, answering_of, at_place, answering_refusal, answering_begins, answered, batch_run, BatchReady, answering_ends, OfBatch}
use Rattle.batch.specs.declared.begin.BatchState.{BatchState}
use Rattle.batch.proofs.Fold.{step_answers, step_stays, run_nil, run_cons}
use Rattle.batch.proofs.OfBatch.{of_batch}

module _ (keys bits : List ℕ) where
  -- a refused batch stays as it is
  pub run_refused : (questions : List Question) (p : Answering) → (p.state.refusal ≡ 0 → ⊥) → batch_run keys bits questions p ≡ p
  run_refused [] p h = run_nil keys bits p
  run_refused (q ∷ questions) p h =
      run_cons keys bits q questions p ∙ ap (batch_run keys bits questions) (step_stays keys bits q p h) ∙ run_refused questions p h

  -- what the questions leave: one place after the other is written
  abbrev ran : List Question → Answering → Answering
  ran questions p =
      answering_of
      (at_place (p.state.place + length questions) p.state)
      (sets p.refusals p.state.place (map (refusal_to p.state.m p.state.s keys bits p.state.n) questions))
      (sets p.values p.state.place (map (value_to p.state.m p.state.s keys bits p.state.n) questions))

  progress : {a b : ℕ} {l l' v v' : List ℕ} (st : BatchState) → a ≡ b → l ≡ l' → v ≡ v' → answering_of (at_place a st) l v ≡ answering_of (at_place b st) l' v'
  progress st e f g i =
      record {
        state = record { m = st.m; s = st.s; n = st.n; refusal = st.refusal; questions = st.questions; place = e i };
        refusals = f i;
        values = g i;
      }

  pub run_answers : (questions : List Question) (p : Answering) → p.state.refusal ≡ 0 → batch_run keys bits questions p ≡ ran questions p
  run_answers [] p e = run_nil keys bits p ∙ progress p.state (sym (add-zero p.state.place)) refl refl
  run_answers (q ∷ questions) p e =
      run_cons keys bits q questions p
      ∙ ap (batch_run keys bits questions) (step_answers keys bits q p e)
      ∙ run_answers questions (answered keys bits q p) e
      ∙ progress p.state (omega arith) (ap (λ k. sets (set p.refusals p.state.place (refusal q)) k (map refusal questions)) (add-one p.state.place))
      (ap (λ k. sets (set p.values p.state.place (value q)) k (map value questions)) (add-one p.state.place))
    where
      refusal : Question → ℕ
      refusal = refusal_to p.state.m p.state.s keys bits p.state.n

      value : Question → ℕ
      value = value_to p.state.m p.state.s keys bits p.state.n

module _ (m s : ℕ) (keys bits : List ℕ) (n : ℕ) (questions : List Question) (refusals values : List ℕ) where
  abbrev start : BatchState
  start = answering_begins m s keys bits n (length questions) (length refusals) (length values)

  -- the state begins with the batch's refusal
  begins : start.refusal ≡ batch_refusal m s keys bits n questions refusals values
  unfolding answering_refusal batch_refusal
  begins = refl

  passed : batch_refusal m s keys bits n questions refusals values ≡ 0 → AcceptedMap m s keys bits n × (length questions ≤ min (length refusals) (length values))
  unfolding batch_refusal
  passed e =
      let none = first_none _ refl e in
      (record { settings = none.0; list = not-false (is_list m s keys bits n) none.1.0 }, ltb-false (room refusals values) (length questions) none.1.1.0)

  -- the questions may come
  pub start_ready : (r : BatchState) → r ≡ start → BatchReady keys bits (length questions) (answering_of r refusals values)
  start_ready r e =
      subst (λ st. BatchReady keys bits (length questions) (answering_of st refusals values)) (sym e)
      (record {
        fine = λ zero. let p = passed (sym begins ∙ zero) in
            record { list = p.0; room_refusals = let h = p.1 in omega arith; room_values = let h = p.1 in omega arith };
      })

  -- the three calls that make a batch: it begins, runs over the questions, and answers
  pub record BatchMade (begun done : BatchState) (result : Counted) (after after' : List ℕ) : Type 0 where
    pub begins_with : begun ≡ start
    pub runs : answering_of done after after' ≡ batch_run keys bits questions (answering_of begun refusals values)
    pub ends_with : result ≡ answering_ends done

  -- only the place of the state changes, and the answer does not look at it
  answer_batch : (place : ℕ) → answering_ends (at_place place start) ≡ batch m s keys bits n questions refusals values
  unfolding answering_refusal batch_refusal batch answering_ends
  answer_batch place = refl

  refusals_over : batch_refusal m s keys bits n questions refusals values ≡ 0
      → sets refusals 0 (map (refusal_to m s keys bits n) questions) ≡ batch_refusals m s keys bits n questions refusals values
  unfolding batch_refusals
  refusals_over e =
      let l = length-map questions (refusal_to m s keys bits n) in
      let h = (passed e).1 in
      sets_over (map (refusal_to m s keys bits n) questions) refusals (omega arith) ∙ sym (accepted_done _ refusals e)

  values_over : batch_refusal m s keys bits n questions refusals values ≡ 0
      → sets values 0 (map (value_to m s keys bits n) questions) ≡ batch_values m s keys bits n questions refusals values
  unfolding batch_values
  values_over e =
      let l = length-map questions (value_to m s keys bits n) in
      let h = (passed e).1 in
      sets_over (map (value_to m s keys bits n) questions) values (omega arith) ∙ sym (accepted_done _ values e)

  refusals_stay : (batch_refusal m s keys bits n questions refusals values ≡ 0 → ⊥) → refusals ≡ batch_refusals m s keys bits n questions refusals values
  unfolding batch_refusals
  refusals_stay h = sym (accepted_left _ refusals h)

  values_stay : (batch_refusal m s keys bits n questions refusals values ≡ 0 → ⊥) → values ≡ batch_values m s keys bits n questions refusals values
  unfolding batch_values
  values_stay h = sym (accepted_left _ values h)

  abbrev Promised : Counted → List ℕ → List ℕ → Type 0
  Promised result after after' =
      (result ≡ batch m s keys bits n questions refusals values)
      × (after ≡ batch_refusals m s keys bits n questions refusals values)
      × (after' ≡ batch_values m s keys bits n questions refusals values)

  -- what the progress at the end says
  ends_at : (place : ℕ) (l l' : List ℕ) {done : BatchState} {result : Counted} {after after' : List ℕ} → answering_of done after after' ≡ answering_of (at_place place start) l l'
      → result ≡ answering_ends done
      → l ≡ batch_refusals m s keys bits n questions refusals values
      → l' ≡ batch_values m s keys bits n questions refusals values
      → Promised result after after'
  ends_at place l l' e answers f g =
      (answers ∙ ap (λ p. answering_ends p.state) e ∙ answer_batch place, ap (λ p. p.refusals) e ∙ f, ap (λ p. p.values) e ∙ g)

  pub batch_law : {begun done : BatchState} {result : Counted} {after after' : List ℕ} → BatchMade begun done result after after' → Promised result after after'
  batch_law made =
      let runs = made.runs ∙ ap (λ st. batch_run keys bits questions (answering_of st refusals values)) made.begins_with in
      equal (batch_refusal m s keys bits n questions refusals values) 0
      (λ zero. ends_at _ _ _ (runs ∙ run_answers keys bits questions (answering_of start refusals values) (begins ∙ zero)) made.ends_with (refusals_over zero) (values_over zero))
      (λ refused. ends_at 0 refusals values (runs ∙ run_refused keys bits questions (answering_of start refusals values) (λ z. refused (sym begins ∙ z))) made.ends_with
      (refusals_stay refused) (values_stay refused))

  -- so the answer has one of a batch's numbers
  pub answer_of_batch : {begun done : BatchState} {result : Counted} {after after' : List ℕ} → BatchMade begun done result after after' → OfBatch result
  answer_of_batch made = subst OfBatch (sym (batch_law made).0) (of_batch m s keys bits n questions refusals values)
