-- The run that bounds goes as a run that counts: it refuses the same and finds the same waivers wrong, and its number is not below the number of live
-- findings. Rests on StepCases and on the law that select gives at most as many keys as the window has pixels.
use Prim.Native.Nat.{ℕ, ◌+◌, ◌≤◌}
use mathlib.Core.Path.{◌≡◌, refl, ◌∙◌}
use mathlib.Core.Bool.{true}
use mathlib.Core.List.{List, [], ◌∷◌}
use native.Mathlib.Omega.{arith}
use lib.ListN.{length, length-map}
use Rattle.keys.proofs.Cases.{decide, equal}
use Rattle.definitions.specs.Picture.{Picture}
use Rattle.definitions.specs.Window.{select_in}
use Rattle.definitions.specs.Rules.{finding_of, window_of_rule, findings_of, waivers_of, live_of}
use Rattle.definitions.specs.declared.Rule.{Rule}
use Rattle.laws.proofs.Waivers.{live_and_hidden}
use Rattle.walk.proofs.Few.{select_few}
use Rattle.finding_runs.specs.declared.state.RunState.{RunState}
use Rattle.finding_runs.specs.Run.{Progress, progress_of, refusing, faulty_from, bounding, restarting, pixels_of, may_come, picture, findings_at, gathered, rule_step, rules_run}
use Rattle.finding_runs.proofs.Fold.{run_nil, run_cons}
use Rattle.finding_runs.proofs.StepCases.{is_faulty, step_stopped, step_bad, step_faulty, step_good, step_gathers, served_bounds, walks_on}

-- a rule has at most as many findings as its window has pixels
findings_bounded : (m : ℕ) (p : Picture) (rule : Rule) → length (findings_of m p rule) ≤ pixels_of rule
unfolding findings_of
findings_bounded m p rule =
    let few = select_few p (window_of_rule rule) rule.feature m in
    let size = length-map (select_in m p (window_of_rule rule) rule.feature) (finding_of rule.id) in
    omega arith

module _ (keys bits waiver_ids waiver_keys : List ℕ) where
  abbrev run : List Rule → Progress → Progress
  run = rules_run keys bits waiver_ids waiver_keys

  abbrev step : Rule → Progress → Progress
  step = rule_step keys bits waiver_ids waiver_keys

  -- of a run that counts, from p to q, beside one that bounds and ends with the state st
  pub record Bounded (p q : Progress) (st : RunState) : Type 0 where
    pub bound : ℕ
    pub same : st ≡ bounding bound q.state
    pub enough : q.state.live ≤ bound
    pub walks : q.state.mode ≡ 1
    pub restarts : restarting 0 q.state ≡ restarting 0 p.state
    pub faults : p.state.faulty ≡ true → q.state.faulty ≡ true
    pub not_full : (p.state.refusal ≡ 12 → ⊥) → q.state.refusal ≡ 12 → ⊥

  -- what one rule leaves
  record After (p q : Progress) : Type 0 where
    walks : q.state.mode ≡ 1
    restarts : restarting 0 q.state ≡ restarting 0 p.state
    faults : p.state.faulty ≡ true → q.state.faulty ≡ true
    not_full : (p.state.refusal ≡ 12 → ⊥) → q.state.refusal ≡ 12 → ⊥

  -- the live findings of one rule are not more than the window's pixels
  few_live : (rule : Rule) (st : RunState) → length (live_of st.m (waivers_of waiver_ids waiver_keys) (findings_at keys bits waiver_ids waiver_keys rule st)) ≤ pixels_of rule
  few_live rule st =
      let found = findings_at keys bits waiver_ids waiver_keys rule st in
      let few = findings_bounded st.m (picture keys bits waiver_ids waiver_keys st) rule in
      let both = live_and_hidden st.m (waivers_of waiver_ids waiver_keys) found in
      omega arith

  -- one rule of both runs, and then the others
  next : (rule : Rule) (rules : List Rule) (p other : Progress) (q : Progress) (more : ℕ) (ids found_keys : List ℕ)
      → step rule p ≡ q
      → step rule other ≡ progress_of (bounding more q.state) ids found_keys
      → After p q
      → Bounded q (run rules q) (run rules (progress_of (bounding more q.state) ids found_keys)).state
      → Bounded p (run (rule ∷ rules) p) (run (rule ∷ rules) other).state
  next rule rules p other q more ids found_keys e f a b =
      rw (run_cons keys bits waiver_ids waiver_keys rule rules p, run_cons keys bits waiver_ids waiver_keys rule rules other, e, f)
      record {
        bound = b.bound;
        same = b.same;
        enough = b.enough;
        walks = b.walks;
        restarts = b.restarts ∙ a.restarts;
        faults = λ e. b.faults (a.faults e);
        not_full = λ h. b.not_full (a.not_full h);
      }

  pub run_bounded : (rules : List Rule) (p : Progress) (live : ℕ) (ids found_keys : List ℕ) → p.state.mode ≡ 1 → p.state.live ≤ live
      → Bounded p (run rules p) (run rules (progress_of (bounding live p.state) ids found_keys)).state
  run_bounded [] p live ids found_keys walks low =
      rw (run_nil keys bits waiver_ids waiver_keys p, run_nil keys bits waiver_ids waiver_keys (progress_of (bounding live p.state) ids found_keys))
      record { bound = live; same = refl; enough = low; walks = walks; restarts = refl; faults = λ e. e; not_full = λ h. h }
  run_bounded (rule ∷ rules) p live ids found_keys walks low =
      let other = progress_of (bounding live p.state) ids found_keys in
      equal p.state.refusal 0
      (λ zero.
      let on = walks_on keys bits waiver_ids waiver_keys rule p walks in
      decide (may_come rule p.state)
      (λ may.
      decide (is_faulty keys bits waiver_ids waiver_keys rule p)
      (λ faulty.
      let q = progress_of (faulty_from (rule.id + 1) p.state) p.ids p.keys in
      next rule rules p other q live ids found_keys (step_faulty keys bits waiver_ids waiver_keys rule p zero on may faulty)
      (step_faulty keys bits waiver_ids waiver_keys rule other zero (λ e. omega arith) may faulty)
      (record { walks = walks; restarts = refl; faults = λ e. refl; not_full = λ h. h })
      (run_bounded rules q live ids found_keys walks low))
      (λ good.
      let q = gathered keys bits waiver_ids waiver_keys rule p in
      let more = live + pixels_of rule in
      next rule rules p other q more ids found_keys (step_gathers keys bits waiver_ids waiver_keys rule p zero walks may good)
      (step_good keys bits waiver_ids waiver_keys rule other zero (λ e. omega arith) may good ∙ served_bounds keys bits waiver_ids waiver_keys rule other refl)
      (record { walks = walks; restarts = refl; faults = λ e. e; not_full = λ h. h })
      (run_bounded rules q more ids found_keys walks (let few = few_live rule p.state in omega arith))))
      (λ bad.
      let q = progress_of (refusing 13 p.state) p.ids p.keys in
      next rule rules p other q live ids found_keys (step_bad keys bits waiver_ids waiver_keys rule p zero on bad)
      (step_bad keys bits waiver_ids waiver_keys rule other zero (λ e. omega arith) bad)
      (record { walks = walks; restarts = refl; faults = λ e. e; not_full = λ h e. omega arith })
      (run_bounded rules q live ids found_keys walks low)))
      (λ stopped.
      next rule rules p other p live ids found_keys (step_stopped keys bits waiver_ids waiver_keys rule p stopped) (step_stopped keys bits waiver_ids waiver_keys rule other stopped)
      (record { walks = walks; restarts = refl; faults = λ e. e; not_full = λ h. h })
      (run_bounded rules p live ids found_keys walks low))
