-- A batch, as the code goes: how it begins, what a question does to the state and to the two answer slices, and what it answers in the end. Only contracts
-- need these; that they give the batch of specification S9 is proved in proofs/.
use Rattle.std.specs.Prelude.{ℕ, ◌+◌, ◌≤◌, min, ◌≡◌, Bool, true, false, ◌||◌, cond, Result, Ok, Err, List, [], ◌∷◌, length, set, ltb, eqb}
use Rattle.definitions.specs.Read.{is_list}
use Rattle.definitions.specs.Refusal.{◌gives◌, first, accepted, bad_settings, no_list}
use Rattle.definitions.specs.Calls.Batch.{refusal_to, value_to}
use Rattle.definitions.specs.declared.Question.{Question}
use Rattle.definitions.specs.declared.Counted.{Counted}
use Rattle.definitions.specs.declared.refusal.Refusal.{Refusal}
use Rattle.definitions.specs.Refused.{refusal_number}
use Rattle.batch.specs.declared.begin.BatchState.{BatchState}

-- what a question is answered, in numbers: the refusal's number, or 0, and the value, which is 0 where it is refused
pub record ReplyNumbers : Type 0 where
  pub refusal : ℕ
  pub value : ℕ

abbrev pub reply_told : Result ℕ Refusal → ReplyNumbers
reply_told (Ok value) = record { refusal = 0; value = value }
reply_told (Err refusal) = record { refusal = refusal_number refusal; value = 0 }

-- settings and list are accepted
pub record AcceptedMap (m s : ℕ) (keys bits : List ℕ) (n : ℕ) : Type 0 where
  pub settings : bad_settings m s ≡ false
  pub list : is_list m s keys bits n ≡ true

-- the state, and what the two answer slices hold
pub record Answering : Type 0 where
  pub state : BatchState
  pub refusals : List ℕ
  pub values : List ℕ

abbrev pub answering_of : BatchState → List ℕ → List ℕ → Answering
answering_of state refusals values = record { state = state; refusals = refusals; values = values }

unfoldable pub answering_refusal : ℕ → ℕ → List ℕ → List ℕ → ℕ → ℕ → ℕ → ℕ → ℕ
answering_refusal m s keys bits n questions room_refusals room_values =
    first
    (bad_settings m s gives 1
    ∷ no_list m s keys bits n gives 4
    ∷ ltb (min room_refusals room_values) questions gives 12
    ∷ [])

abbrev pub answering_begins : ℕ → ℕ → List ℕ → List ℕ → ℕ → ℕ → ℕ → ℕ → BatchState
answering_begins m s keys bits n questions room_refusals room_values =
    record {
      m = m;
      s = s;
      n = n;
      refusal = answering_refusal m s keys bits n questions room_refusals room_values;
      questions = questions;
      place = 0;
    }

-- the same batch, with its next place
abbrev pub at_place : ℕ → BatchState → BatchState
at_place place st =
    record { m = st.m; s = st.s; n = st.n; refusal = st.refusal; questions = st.questions; place = place }

-- what one question is answered
abbrev pub reply_of : ℕ → ℕ → List ℕ → List ℕ → ℕ → Question → ReplyNumbers
reply_of m s keys bits n q = record { refusal = refusal_to m s keys bits n q; value = value_to m s keys bits n q }

module _ (keys bits : List ℕ) where
  -- the refusal and the value are written at the next place
  abbrev pub answered : Question → Answering → Answering
  answered q p =
      answering_of
      (at_place (p.state.place + 1) p.state)
      (set p.refusals p.state.place (refusal_to p.state.m p.state.s keys bits p.state.n q))
      (set p.values p.state.place (value_to p.state.m p.state.s keys bits p.state.n q))

  -- one question
  unfoldable pub batch_step : Question → Answering → Answering
  batch_step q p = cond (eqb p.state.refusal 0) (answered q p) p

  -- all questions
  unfoldable pub batch_run : List Question → Answering → Answering
  batch_run [] p = p
  batch_run (q ∷ qs) p = batch_run qs (batch_step q p)

  -- what a batch that is not refused stands on, with so many questions to come
  pub record BatchFine (more : ℕ) (p : Answering) : Type 0 where
    pub list : AcceptedMap p.state.m p.state.s keys bits p.state.n
    pub room_refusals : p.state.place + more ≤ length p.refusals
    pub room_values : p.state.place + more ≤ length p.values

  pub record BatchReady (more : ℕ) (p : Answering) : Type 0 where
    pub fine : p.state.refusal ≡ 0 → BatchFine more p

-- what the call answers
unfoldable pub answering_ends : BatchState → Counted
answering_ends st =
    record { refusal = st.refusal; count = accepted st.refusal st.questions (cond (eqb st.refusal 12) st.questions 0) }

-- the numbers that a batch answers: 0, and its three refusals
abbrev pub is_batch_number : ℕ → Bool
is_batch_number number = eqb number 0 || (eqb number 1 || (eqb number 4 || eqb number 12))

-- an answer of a batch has one of these numbers; places are needed with 12 alone
pub record OfBatch (counted : Counted) : Type 0 where
  pub number : is_batch_number counted.refusal ≡ true
  pub places : (counted.refusal ≡ 0 → ⊥) → (counted.refusal ≡ 12 → ⊥) → counted.count ≡ 0
