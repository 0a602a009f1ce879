-- Which run comes after a run, case by case, and what a run answers. Rests on the definitions alone.
use Prim.Native.Nat.{◌≤◌, ◌<◌}
use mathlib.Core.Path.{◌≡◌}
use mathlib.Core.Bool.{Bool, true, false, cond, ◌||◌}
use lib.Dec.{eqb, ltb}
use borrow.Author.Tests.{eq-eqb, ne_eqb, lt-ltb, le-ltb}
use Rattle.finding_runs.specs.declared.state.RunState.{RunState}
use Rattle.finding_runs.specs.Run.{refusing, resting, restarting, after_run, answer_of}

module _ {A : Type 0} (first second third fourth fifth : Bool) (stopped faulty counts rests full writes : A) where
  abbrev chain : A
  chain = cond first (cond (second || third) faulty (cond fourth (cond fifth counts rests) (cond fifth full writes))) stopped

  chain_stopped : first ≡ false → chain ≡ stopped
  chain_stopped e = rw e

  chain_faulty : first ≡ true → second ≡ true → chain ≡ faulty
  chain_faulty e f = rw (e, f)

  chain_left : first ≡ true → second ≡ false → third ≡ true → chain ≡ faulty
  chain_left e f g = rw (e, f, g)

  chain_right : first ≡ true → second ≡ false → third ≡ false → chain ≡ cond fourth (cond fifth counts rests) (cond fifth full writes)
  chain_right e f g = rw (e, f, g)

module _ (st : RunState) where
  abbrev running : Bool
  running = eqb st.refusal 0

  abbrev left : Bool
  left = ltb st.passed st.waivers

  abbrev bounds : Bool
  bounds = eqb st.mode 0

  abbrev past : Bool
  past = ltb st.room st.live

  abbrev writing : RunState
  writing = restarting st.room st

  pub next_stopped : (st.refusal ≡ 0 → ⊥) → after_run st ≡ st
  unfolding after_run
  next_stopped h = chain_stopped running st.faulty left bounds past st (refusing 14 st) (restarting 0 st) (resting st) (refusing 12 st) writing (ne_eqb _ _ h)

  -- 14
  pub next_faulty : st.refusal ≡ 0 → st.faulty ≡ true → after_run st ≡ refusing 14 st
  unfolding after_run
  next_faulty e f = chain_faulty running st.faulty left bounds past st (refusing 14 st) (restarting 0 st) (resting st) (refusing 12 st) writing (eq-eqb _ _ e) f

  pub next_left : st.refusal ≡ 0 → st.faulty ≡ false → st.passed < st.waivers → after_run st ≡ refusing 14 st
  unfolding after_run
  next_left e f g =
      chain_left running st.faulty left bounds past st (refusing 14 st) (restarting 0 st) (resting st) (refusing 12 st) writing (eq-eqb _ _ e) f (lt-ltb _ _ g)

  -- no waiver is wrong
  module _ (e : st.refusal ≡ 0) (f : st.faulty ≡ false) (g : st.waivers ≤ st.passed) where
    right : after_run st ≡ cond bounds (cond past (restarting 0 st) (resting st)) (cond past (refusing 12 st) writing)
    unfolding after_run
    right =
        chain_right running st.faulty left bounds past st (refusing 14 st) (restarting 0 st) (resting st) (refusing 12 st) writing (eq-eqb _ _ e) f (le-ltb _ _ g)

    -- after the run that bounds
    pub next_counts : st.mode ≡ 0 → st.room < st.live → after_run st ≡ restarting 0 st
    next_counts h i = rw (right, eq-eqb st.mode 0 h, lt-ltb st.room st.live i)

    pub next_rests : st.mode ≡ 0 → st.live ≤ st.room → after_run st ≡ resting st
    next_rests h i = rw (right, eq-eqb st.mode 0 h, le-ltb st.room st.live i)

    -- 12
    pub next_full : (st.mode ≡ 0 → ⊥) → st.room < st.live → after_run st ≡ refusing 12 st
    next_full h i = rw (right, ne_eqb st.mode 0 h, lt-ltb st.room st.live i)

    pub next_writes : (st.mode ≡ 0 → ⊥) → st.live ≤ st.room → after_run st ≡ writing
    next_writes h i = rw (right, ne_eqb st.mode 0 h, le-ltb st.room st.live i)

  -- what is answered
  pub answer_done : st.refusal ≡ 0 → answer_of st ≡ record { refusal = st.refusal; live = st.live; hidden = st.hidden }
  unfolding answer_of
  answer_done e = rw (eq-eqb _ _ e)

  pub answer_full : st.refusal ≡ 12 → answer_of st ≡ record { refusal = st.refusal; live = st.live; hidden = 0 }
  unfolding answer_of
  answer_full e = rw e

  pub answer_refused : (st.refusal ≡ 0 → ⊥) → (st.refusal ≡ 12 → ⊥) → answer_of st ≡ record { refusal = st.refusal; live = 0; hidden = 0 }
  unfolding answer_of
  answer_refused h g = rw (ne_eqb _ _ h, ne_eqb _ _ g)
