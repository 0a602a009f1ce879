-- The turns of the loop in `run`: before a turn the state and the two answer lists are those of a batch over the first i questions, and a step over the
-- question at i makes them those of the next turn. Rests on Fold.
use mathlib.Core.Path.{◌≡◌, ap, ◌∙◌}
use Prim.Native.Nat.{ℕ, suc, ◌+◌, ◌-◌, ◌≤◌, ◌<◌}
use native.Mathlib.Omega.{arith}
use mathlib.Core.List.{List}
use lib.ListN.{length, get_or, take}
use Rattle.definitions.specs.declared.Question.{Question}
use Rattle.laws.proofs.OneByOne.{no_question}
use Rattle.batch.specs.Run.{Answering, BatchReady, batch_step, batch_run}
use Rattle.batch.proofs.Fold.{run_none, run_next, run_all, ready_fewer, ready_step}

-- a turn, from the answers at entry to those before the question at i
pub record BatchTurn (keys bits : List ℕ) (questions : List Question) (entry p : Answering) (i : ℕ) : Type 0 where
  pub small : i ≤ length questions
  pub told : p ≡ batch_run keys bits (take i questions) entry
  pub ready : BatchReady keys bits (length questions - i) p

module _ (keys bits : List ℕ) (questions : List Question) where
  pub first_turn : (entry : Answering) → BatchReady keys bits (length questions) entry → BatchTurn keys bits questions entry entry 0
  first_turn entry ready =
      record {
        small = omega arith;
        told = run_none keys bits questions entry;
        ready = ready_fewer keys bits (length questions - 0) (length questions) entry (omega arith) ready;
      }

  module _ {entry p : Answering} {i : ℕ} (t : BatchTurn keys bits questions entry p i) where
    -- a question may come in a turn that is not the last
    pub one_comes : i < length questions → BatchReady keys bits 1 p
    one_comes more = ready_fewer keys bits 1 (length questions - i) p (omega arith) t.ready

    pub next_turn : (next : Answering) → i < length questions → next ≡ batch_step keys bits (get_or questions i no_question) p
        → BatchTurn keys bits questions entry next (i + 1)
    next_turn next more e =
        record {
          small = omega arith;
          told = run_next keys bits i questions entry p next more t.told e;
          ready = ready_step keys bits (length questions - (i + 1)) (get_or questions i no_question) p next e
              (ready_fewer keys bits (suc (length questions - (i + 1))) (length questions - i) p (omega arith) t.ready);
        }

    -- after the last turn the batch is over all questions
    pub all_ran : length questions ≤ i → p ≡ batch_run keys bits questions entry
    all_ran over =
        let last : i ≡ length questions = omega (arith, t.small) in
        t.told ∙ ap (λ j. batch_run keys bits (take j questions) entry) last ∙ run_all keys bits questions entry
