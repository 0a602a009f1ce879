-- What one rule does to a run, case by case: the run is refused already or passes over all rules, the rule is bad, a waiver is wrong, or the rule's findings
-- are gathered or bounded. Rests on the definitions alone.
use Prim.Native.Nat.{ℕ, ◌+◌}
use mathlib.Core.Path.{◌≡◌, ◌∙◌}
use mathlib.Core.Bool.{Bool, true, false, cond, not, ◌&&◌, ◌||◌}
use mathlib.Core.List.{List}
use native.Mathlib.Omega.{arith}
use lib.Dec.{eqb}
use borrow.Author.Tests.{eq-eqb, ne_eqb}
use Rattle.definitions.specs.declared.Rule.{Rule}
use Rattle.finding_runs.specs.Run.{Progress, progress_of, refusing, faulty_from, may_come, is_unknown, gathered, bounded, served, rule_step}

-- what a chain of three tests gives
module _ {A : Type 0} (first second third : Bool) (stopped bad faulty good : A) where
  abbrev chain : A
  chain = cond first (cond second (cond third faulty good) bad) stopped

  chain_stopped : first ≡ false → chain ≡ stopped
  chain_stopped e = rw e

  chain_bad : first ≡ true → second ≡ false → chain ≡ bad
  chain_bad e f = rw (e, f)

  chain_faulty : first ≡ true → second ≡ true → third ≡ true → chain ≡ faulty
  chain_faulty e f g = rw (e, f, g)

  chain_good : first ≡ true → second ≡ true → third ≡ false → chain ≡ good
  chain_good e f g = rw (e, f, g)

module _ (keys bits waiver_ids waiver_keys : List ℕ) (rule : Rule) (p : Progress) where
  abbrev step : Progress
  step = rule_step keys bits waiver_ids waiver_keys rule p

  -- a waiver is wrong
  abbrev pub is_faulty : Bool
  is_faulty = p.state.faulty || is_unknown keys bits waiver_ids waiver_keys rule p.state

  abbrev bad : Progress
  bad = progress_of (refusing 13 p.state) p.ids p.keys

  abbrev faulty : Progress
  faulty = progress_of (faulty_from (rule.id + 1) p.state) p.ids p.keys

  abbrev good : Progress
  good = served keys bits waiver_ids waiver_keys rule p

  abbrev going : Bool
  going = eqb p.state.refusal 0 && not (eqb p.state.mode 2)

  goes : p.state.refusal ≡ 0 → (p.state.mode ≡ 2 → ⊥) → going ≡ true
  goes e h = rw (eq-eqb p.state.refusal 0 e, ne_eqb p.state.mode 2 h)

  -- a refused run stays as it is
  pub step_stopped : (p.state.refusal ≡ 0 → ⊥) → step ≡ p
  unfolding rule_step
  step_stopped h = chain_stopped going (may_come rule p.state) is_faulty p bad faulty good (rw (ne_eqb p.state.refusal 0 h))

  -- and so does one that passes over all rules
  pub step_rests : p.state.refusal ≡ 0 → p.state.mode ≡ 2 → step ≡ p
  unfolding rule_step
  step_rests e f =
      chain_stopped going (may_come rule p.state) is_faulty p bad faulty good (rw (eq-eqb p.state.refusal 0 e, eq-eqb p.state.mode 2 f))

  -- the run goes on
  module _ (zero : p.state.refusal ≡ 0) (on : p.state.mode ≡ 2 → ⊥) where
    -- 13
    pub step_bad : may_come rule p.state ≡ false → step ≡ bad
    unfolding rule_step
    step_bad f = chain_bad going (may_come rule p.state) is_faulty p bad faulty good (goes zero on) f

    -- only the rules are looked at
    pub step_faulty : may_come rule p.state ≡ true → is_faulty ≡ true → step ≡ faulty
    unfolding rule_step
    step_faulty f g = chain_faulty going (may_come rule p.state) is_faulty p bad faulty good (goes zero on) f g

    -- the rule is served
    pub step_good : may_come rule p.state ≡ true → is_faulty ≡ false → step ≡ good
    unfolding rule_step
    step_good f g = chain_good going (may_come rule p.state) is_faulty p bad faulty good (goes zero on) f g

  -- its findings are bounded, or gathered
  pub served_bounds : p.state.mode ≡ 0 → good ≡ bounded keys bits waiver_ids waiver_keys rule p
  unfolding served
  served_bounds e = rw (eq-eqb p.state.mode 0 e)

  pub served_gathers : (p.state.mode ≡ 0 → ⊥) → good ≡ gathered keys bits waiver_ids waiver_keys rule p
  unfolding served
  served_gathers h = rw (ne_eqb p.state.mode 0 h)

  -- as in a run that walks
  pub walks_on : p.state.mode ≡ 1 → p.state.mode ≡ 2 → ⊥
  walks_on e f = omega arith

  pub step_gathers : p.state.refusal ≡ 0 → p.state.mode ≡ 1 → may_come rule p.state ≡ true → is_faulty ≡ false → step ≡ gathered keys bits waiver_ids waiver_keys rule p
  step_gathers zero walks f g = step_good zero (walks_on walks) f g ∙ served_gathers (λ e. omega arith)
