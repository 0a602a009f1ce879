-- Runs over a table: no step moves the asking office's rows, so a run over the table is one over those rows alone, and what it stands on is kept. Rests on
-- Ready, StepCases and NextCases.
use Prim.Native.Nat.{ℕ, ◌+◌, ◌-◌}
use mathlib.Core.Path.{◌≡◌, refl, sym, ap, ap₂, ◌∙◌, subst}
use mathlib.Core.List.{List, [], ◌∷◌}
use native.Mathlib.Omega.{arith}
use lib.ListN.{take, drop}
use Rattle.keys.proofs.Cases.{decide, split, equal}
use Rattle.definitions.specs.declared.Rule.{Rule}
use Rattle.finding_runs.specs.declared.state.RunState.{RunState}
use Rattle.finding_runs.specs.Run.{Progress, may_come, own_part, rule_step, rules_run, table_step, table_run, RulesReady, TableReady, after_run}
use Rattle.finding_runs.proofs.Fold.{run_nil, run_cons}
use Rattle.finding_runs.proofs.StepCases.{is_faulty, step_stopped, step_rests, step_bad, step_faulty, step_good, served_bounds, served_gathers}
use Rattle.finding_runs.proofs.NextCases.{next_stopped, next_faulty, next_left, next_counts, next_rests, next_full, next_writes}
use Rattle.finding_runs.proofs.Ready.{ready_step, ready_run}

-- the rows stand where they stood
pub record SameTable (a b : RunState) : Type 0 where
  pub offset : b.offset ≡ a.offset
  pub count : b.waivers ≡ a.waivers

-- so the parts are the same
same_part : {a b : RunState} → SameTable a b → (l : List ℕ) → own_part b l ≡ own_part a l
same_part e l = ap₂ (λ n i. take n (drop i l)) e.count e.offset

pub same_on : {a b c : RunState} → SameTable a b → SameTable b c → SameTable a c
same_on e f = record { offset = f.offset ∙ e.offset; count = f.count ∙ e.count }

module _ (keys bits waiver_ids waiver_keys : List ℕ) where
  step_same : (rule : Rule) (p : Progress) → SameTable p.state (rule_step keys bits waiver_ids waiver_keys rule p).state
  step_same rule p =
      equal p.state.refusal 0
      (λ running.
      equal p.state.mode 2
      (λ resting. rw (step_rests keys bits waiver_ids waiver_keys rule p running resting) (record { offset = refl; count = refl }))
      (λ on.
      decide (may_come rule p.state)
      (λ may.
      decide (is_faulty keys bits waiver_ids waiver_keys rule p)
      (λ faulty. rw (step_faulty keys bits waiver_ids waiver_keys rule p running on may faulty) (record { offset = refl; count = refl }))
      (λ good.
      equal p.state.mode 0
      (λ bounds.
      rw (step_good keys bits waiver_ids waiver_keys rule p running on may good ∙ served_bounds keys bits waiver_ids waiver_keys rule p bounds) (record { offset = refl; count = refl }))
      (λ gathers.
      rw (step_good keys bits waiver_ids waiver_keys rule p running on may good ∙ served_gathers keys bits waiver_ids waiver_keys rule p gathers) (record { offset = refl; count = refl }))))
      (λ bad. rw (step_bad keys bits waiver_ids waiver_keys rule p running on bad) (record { offset = refl; count = refl }))))
      (λ stopped. rw (step_stopped keys bits waiver_ids waiver_keys rule p stopped) (record { offset = refl; count = refl }))

  run_same : (rules : List Rule) (p : Progress) → SameTable p.state (rules_run keys bits waiver_ids waiver_keys rules p).state
  run_same [] p = rw (run_nil keys bits waiver_ids waiver_keys p) (record { offset = refl; count = refl })
  run_same (rule ∷ rules) p =
      rw (run_cons keys bits waiver_ids waiver_keys rule rules p)
      (same_on (step_same rule p) (run_same rules (rule_step keys bits waiver_ids waiver_keys rule p)))

-- the next run has the same rows
pub next_same : (st : RunState) → SameTable st (after_run st)
next_same st =
    equal st.refusal 0
    (λ running.
    decide st.faulty
    (λ faulty. rw (next_faulty st running faulty) (record { offset = refl; count = refl }))
    (λ sound.
    split st.passed st.waivers
    (λ left. rw (next_left st running sound left) (record { offset = refl; count = refl }))
    (λ none.
    equal st.mode 0
    (λ bounds. split st.room st.live
    (λ past. rw (next_counts st running sound none bounds past) (record { offset = refl; count = refl }))
    (λ within. rw (next_rests st running sound none bounds within) (record { offset = refl; count = refl })))
    (λ walks. split st.room st.live
    (λ full. rw (next_full st running sound none walks full) (record { offset = refl; count = refl }))
    (λ fits. rw (next_writes st running sound none walks fits) (record { offset = refl; count = refl }))))))
    (λ stopped. rw (next_stopped st stopped) (record { offset = refl; count = refl }))

module _ (keys bits ids waived : List ℕ) where
  abbrev part : RunState → List ℕ → List ℕ → Type 0
  part st a b = (own_part st ids ≡ a) × (own_part st waived ≡ b)

  -- a run over the table is one over the office's rows
  run_is : (rules : List Rule) (p : Progress) (a b : List ℕ) → part p.state a b → table_run keys bits ids waived rules p ≡ rules_run keys bits a b rules p
  unfolding table_run table_step
  run_is [] p a b h = sym (run_nil keys bits a b p)
  run_is (rule ∷ rules) p a b h =
      let one : table_step keys bits ids waived rule p ≡ rule_step keys bits a b rule p = ap₂ (λ x y. rule_step keys bits x y rule p) h.0 h.1 in
      let same = step_same keys bits a b rule p in
      ap (table_run keys bits ids waived rules) one
      ∙ run_is rules (rule_step keys bits a b rule p) a b (same_part same ids ∙ h.0, same_part same waived ∙ h.1)
      ∙ sym (run_cons keys bits a b rule rules p)

  pub table_run_is : (rules : List Rule) (p : Progress) → table_run keys bits ids waived rules p ≡ rules_run keys bits (own_part p.state ids) (own_part p.state waived) rules p
  table_run_is rules p = run_is rules p (own_part p.state ids) (own_part p.state waived) (refl, refl)

  -- from a state with the same rows
  pub table_run_from : {st : RunState} (rules : List Rule) (p : Progress) → SameTable st p.state → table_run keys bits ids waived rules p ≡ rules_run keys bits (own_part st ids) (own_part st waived) rules p
  table_run_from {st} rules p same = run_is rules p (own_part st ids) (own_part st waived) (same_part same ids, same_part same waived)

  pub table_run_same : (rules : List Rule) (p : Progress) → SameTable p.state (table_run keys bits ids waived rules p).state
  table_run_same rules p = rw (table_run_is rules p) (run_same keys bits (own_part p.state ids) (own_part p.state waived) rules p)

  -- what a run stands on, where the rows stay
  pub ready_same : (p q : Progress) → SameTable p.state q.state → TableReady keys bits ids waived p → RulesReady keys bits (own_part p.state ids) (own_part p.state waived) q
      → TableReady keys bits ids waived q
  ready_same p q same h own =
      let a = same.offset in
      let b = same.count in
      record {
        in_ids = omega (arith, h.in_ids);
        in_waived = omega (arith, h.in_waived);
        own = subst (λ x. RulesReady keys bits x (own_part q.state waived) q) (sym (same_part same ids)) (subst (λ y. RulesReady keys bits (own_part p.state ids) y q) (sym (same_part same waived)) own);
      }

  pub table_ready_step : (rule : Rule) (p next : Progress) → next ≡ table_step keys bits ids waived rule p → TableReady keys bits ids waived p → TableReady keys bits ids waived next
  unfolding table_step
  table_ready_step rule p next e h =
      let a = own_part p.state ids in
      let b = own_part p.state waived in
      let same = step_same keys bits a b rule p in
      ready_same p next (record { offset = ap (λ q. q.state.offset) e ∙ same.offset; count = ap (λ q. q.state.waivers) e ∙ same.count }) h (ready_step keys bits a b rule p next e h.own)

  pub table_ready_run : (rules : List Rule) (p : Progress) → TableReady keys bits ids waived p → TableReady keys bits ids waived (table_run keys bits ids waived rules p)
  table_ready_run rules p h =
      let a = own_part p.state ids in
      let b = own_part p.state waived in
      ready_same p (table_run keys bits ids waived rules p) (table_run_same rules p) h (rw (table_run_is rules p) (ready_run keys bits a b rules p h.own))

  -- the part as a step cuts it out, from its first place to its end
  abbrev pub between : RunState → List ℕ → List ℕ
  between st l = take (st.offset + st.waivers - st.offset) (drop st.offset l)

  between_is : (st : RunState) (l : List ℕ) → between st l ≡ own_part st l
  between_is st l = let e : st.offset + st.waivers - st.offset ≡ st.waivers = omega arith in ap (λ n. take n (drop st.offset l)) e

  pub step_cut : (rule : Rule) (p : Progress) → rule_step keys bits (between p.state ids) (between p.state waived) rule p ≡ table_step keys bits ids waived rule p
  unfolding table_step
  step_cut rule p = ap₂ (λ x y. rule_step keys bits x y rule p) (between_is p.state ids) (between_is p.state waived)
