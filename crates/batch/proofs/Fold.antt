-- A batch over the first questions, question by question: one more question is one more step, and all questions are the whole run; what it stands on is
-- kept, with one question less to come. Rests on keys' Cases and laws' OneByOne.
use Prim.Native.Nat.{ℕ, zero, suc, ◌+◌, ◌≤◌, ◌<◌}
use mathlib.Core.Path.{◌≡◌, refl, sym, ap, subst, ◌∙◌}
use mathlib.Core.List.{List, [], ◌∷◌}
use native.Mathlib.Numerals.{add-one}
use native.Mathlib.Omega.{arith}
use lib.ListN.{length, get_or, take, set, length-set}
use borrow.Author.Tests.{eq-eqb, ne_eqb}
use Rattle.keys.proofs.Cases.{equal}
use Rattle.definitions.specs.Calls.Batch.{refusal_to, value_to}
use Rattle.definitions.specs.declared.Question.{Question}
use Rattle.laws.proofs.OneByOne.{no_question}
use Rattle.batch.specs.Run.{ReplyNumbers, Answering, answering_of, at_place, reply_of, answered, batch_step, batch_run, BatchReady}

module _ (keys bits : List ℕ) where
  abbrev first : ℕ → List Question → Answering → Answering
  first i questions p = batch_run keys bits (take i questions) p

  -- a batch that is not refused answers, and a refused one stays
  pub step_answers : (q : Question) (p : Answering) → p.state.refusal ≡ 0 → batch_step keys bits q p ≡ answered keys bits q p
  unfolding batch_step
  step_answers q p e = rw (eq-eqb p.state.refusal 0 e)

  pub step_stays : (q : Question) (p : Answering) → (p.state.refusal ≡ 0 → ⊥) → batch_step keys bits q p ≡ p
  unfolding batch_step
  step_stays q p h = rw (ne_eqb p.state.refusal 0 h)

  -- what is left when the reply is put at its place
  pub step_put : (q : Question) (p : Answering) → p.state.refusal ≡ 0 → (reply : ReplyNumbers) → reply ≡ reply_of p.state.m p.state.s keys bits p.state.n q
      → (l v : List ℕ)
      → l ≡ set p.refusals p.state.place reply.refusal
      → v ≡ set p.values p.state.place reply.value
      → answering_of (at_place (p.state.place + 1) p.state) l v ≡ batch_step keys bits q p
  step_put q p e reply is l v f g =
      let refusals = f ∙ ap (λ r. set p.refusals p.state.place r.refusal) is in
      let values = g ∙ ap (λ r. set p.values p.state.place r.value) is in
      (λ i. answering_of (at_place (p.state.place + 1) p.state) (refusals i) (values i)) ∙ sym (step_answers q p e)

  pub run_nil : (p : Answering) → batch_run keys bits [] p ≡ p
  unfolding batch_run
  run_nil p = refl

  pub run_cons : (q : Question) (questions : List Question) (p : Answering) → batch_run keys bits (q ∷ questions) p ≡ batch_run keys bits questions (batch_step keys bits q p)
  unfolding batch_run
  run_cons q questions p = refl

  -- no question yet
  pub run_none : (questions : List Question) (p : Answering) → p ≡ first 0 questions p
  unfolding batch_run
  run_none questions p = refl

  take_next : (i : ℕ) (questions : List Question) (p : Answering) → i < length questions
      → batch_step keys bits (get_or questions i no_question) (first i questions p) ≡ first (suc i) questions p
  unfolding batch_run
  take_next i [] p h = absurd (omega arith)
  take_next zero (q ∷ questions) p h = refl
  take_next (suc i) (q ∷ questions) p h = take_next i questions (batch_step keys bits q p) (omega arith)

  -- one question more
  pub run_next : (i : ℕ) (questions : List Question) (start p next : Answering) → i < length questions → p ≡ first i questions start
      → next ≡ batch_step keys bits (get_or questions i no_question) p
      → next ≡ first (i + 1) questions start
  run_next i questions start p next h is e =
      e ∙ ap (batch_step keys bits (get_or questions i no_question)) is ∙ take_next i questions start h ∙ ap (λ j. first j questions start) (sym (add-one i))

  -- all questions
  pub run_all : (questions : List Question) (p : Answering) → first (length questions) questions p ≡ batch_run keys bits questions p
  unfolding batch_run
  run_all [] p = refl
  run_all (q ∷ questions) p = run_all questions (batch_step keys bits q p)

  -- fewer questions need no more
  pub ready_fewer : (fewer more : ℕ) (p : Answering) → fewer ≤ more → BatchReady keys bits more p → BatchReady keys bits fewer p
  ready_fewer fewer more p h ready =
      record {
        fine = λ none. let f = ready.fine none in
            record {
              list = f.list;
              room_refusals = let a = f.room_refusals in omega arith;
              room_values = let a = f.room_values in omega arith;
            };
      }

  ready_answered : (more : ℕ) (q : Question) (p : Answering) → p.state.refusal ≡ 0 → BatchReady keys bits (suc more) p → BatchReady keys bits more (answered keys bits q p)
  ready_answered more q p none ready =
      let f = ready.fine none in
      let a = length-set p.refusals p.state.place (refusal_to p.state.m p.state.s keys bits p.state.n q) in
      let b = length-set p.values p.state.place (value_to p.state.m p.state.s keys bits p.state.n q) in
      record {
        fine = λ _. record {
          list = f.list;
          room_refusals = let c = f.room_refusals in omega arith;
          room_values = let c = f.room_values in omega arith;
        };
      }

  pub ready_step : (more : ℕ) (q : Question) (p next : Answering) → next ≡ batch_step keys bits q p → BatchReady keys bits (suc more) p → BatchReady keys bits more next
  ready_step more q p next is ready =
      subst (BatchReady keys bits more) (sym is)
      (equal p.state.refusal 0
      (λ none. subst (BatchReady keys bits more) (sym (step_answers q p none)) (ready_answered more q p none ready))
      (λ refused. subst (BatchReady keys bits more) (sym (step_stays q p refused)) (ready_fewer more (suc more) p (omega arith) ready)))
