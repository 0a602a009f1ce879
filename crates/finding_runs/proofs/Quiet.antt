-- A refused run, and one that passes over all rules, stay as they are; a run that may write nothing leaves the answer slices. Rests on StepCases.
use Prim.Native.Nat.{ℕ}
use mathlib.Core.Path.{◌≡◌, refl, ap, ◌∙◌}
use mathlib.Core.List.{List, [], ◌∷◌}
use Rattle.keys.proofs.Cases.{decide, equal}
use Rattle.definitions.specs.declared.Rule.{Rule}
use Rattle.walk.specs.Given.{written}
use Rattle.walk.proofs.Written.{written_nothing}
use Rattle.finding_runs.specs.Run.{Progress, may_come, rule_step, rules_run}
use Rattle.finding_runs.proofs.Fold.{run_nil, run_cons}
use Rattle.finding_runs.proofs.StepCases.{is_faulty, step_stopped, step_rests, step_bad, step_faulty, step_good, served_bounds, served_gathers}

-- what stays: the limit and both slices
record Quiet (p q : Progress) : Type 0 where
  limit : q.state.limit ≡ 0
  ids : q.ids ≡ p.ids
  keys : q.keys ≡ p.keys

module _ (keys bits waiver_ids waiver_keys : List ℕ) where
  abbrev step : Rule → Progress → Progress
  step = rule_step keys bits waiver_ids waiver_keys

  abbrev run : List Rule → Progress → Progress
  run = rules_run keys bits waiver_ids waiver_keys

  -- a refused run
  pub run_stopped : (rules : List Rule) (p : Progress) → (p.state.refusal ≡ 0 → ⊥) → run rules p ≡ p
  run_stopped [] p h = run_nil keys bits waiver_ids waiver_keys p
  run_stopped (rule ∷ rules) p h =
      run_cons keys bits waiver_ids waiver_keys rule rules p ∙ ap (run rules) (step_stopped keys bits waiver_ids waiver_keys rule p h) ∙ run_stopped rules p h

  -- a run that passes over all rules
  pub run_rests : (rules : List Rule) (p : Progress) → p.state.refusal ≡ 0 → p.state.mode ≡ 2 → run rules p ≡ p
  run_rests [] p e f = run_nil keys bits waiver_ids waiver_keys p
  run_rests (rule ∷ rules) p e f =
      run_cons keys bits waiver_ids waiver_keys rule rules p ∙ ap (run rules) (step_rests keys bits waiver_ids waiver_keys rule p e f) ∙ run_rests rules p e f

  nothing_written : (limit : ℕ) (answer : List ℕ) (place : ℕ) (given : List ℕ) → limit ≡ 0 → written limit answer place given ≡ answer
  nothing_written limit answer place given e = ap (λ l. written l answer place given) e ∙ written_nothing answer place given

  step_quiet : (rule : Rule) (p : Progress) → p.state.limit ≡ 0 → Quiet p (step rule p)
  step_quiet rule p zero =
      equal p.state.refusal 0
      (λ running.
      equal p.state.mode 2
      (λ resting. rw (step_rests keys bits waiver_ids waiver_keys rule p running resting) (record { limit = zero; ids = refl; keys = refl }))
      (λ on.
      decide (may_come rule p.state)
      (λ may.
      decide (is_faulty keys bits waiver_ids waiver_keys rule p)
      (λ faulty. rw (step_faulty keys bits waiver_ids waiver_keys rule p running on may faulty) (record { limit = zero; ids = refl; keys = refl }))
      (λ good.
      equal p.state.mode 0
      (λ bounds.
      rw (step_good keys bits waiver_ids waiver_keys rule p running on may good ∙ served_bounds keys bits waiver_ids waiver_keys rule p bounds)
      (record { limit = zero; ids = refl; keys = refl }))
      (λ gathers.
      rw (step_good keys bits waiver_ids waiver_keys rule p running on may good ∙ served_gathers keys bits waiver_ids waiver_keys rule p gathers)
      (record { limit = zero; ids = nothing_written p.state.limit p.ids _ _ zero; keys = nothing_written p.state.limit p.keys _ _ zero }))))
      (λ bad. rw (step_bad keys bits waiver_ids waiver_keys rule p running on bad) (record { limit = zero; ids = refl; keys = refl }))))
      (λ stopped. rw (step_stopped keys bits waiver_ids waiver_keys rule p stopped) (record { limit = zero; ids = refl; keys = refl }))

  run_quiet : (rules : List Rule) (p : Progress) → p.state.limit ≡ 0 → Quiet p (run rules p)
  run_quiet [] p zero = rw (run_nil keys bits waiver_ids waiver_keys p) (record { limit = zero; ids = refl; keys = refl })
  run_quiet (rule ∷ rules) p zero =
      let q = step_quiet rule p zero in
      let r = run_quiet rules (step rule p) q.limit in
      rw (run_cons keys bits waiver_ids waiver_keys rule rules p) (record { limit = r.limit; ids = r.ids ∙ q.ids; keys = r.keys ∙ q.keys })

  -- a run that may write nothing
  pub quiet_ids : (rules : List Rule) (p : Progress) → p.state.limit ≡ 0 → (run rules p).ids ≡ p.ids
  quiet_ids rules p zero = (run_quiet rules p zero).ids

  pub quiet_keys : (rules : List Rule) (p : Progress) → p.state.limit ≡ 0 → (run rules p).keys ≡ p.keys
  quiet_keys rules p zero = (run_quiet rules p zero).keys
