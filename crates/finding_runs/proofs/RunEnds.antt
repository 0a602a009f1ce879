-- How a run that walks ends where it does not gather all: refused with 13 where the rules are not good, and otherwise with a wrong waiver. Rests on StepCases,
-- GoodRules, KnownIds and Quiet.
use Prim.Native.Nat.{ℕ, ◌+◌}
use mathlib.Core.Path.{◌≡◌, refl, sym, ap, ◌∙◌}
use mathlib.Core.Bool.{Bool, true, false, not, ◌&&◌, ◌||◌, true≢false}
use mathlib.Core.List.{List, [], ◌∷◌}
use native.Mathlib.Omega.{arith}
use lib.Dec.{ltb}
use Rattle.keys.proofs.Cases.{decide, or_left}
use Rattle.definitions.specs.Rules.{Finding, waivers_of}
use Rattle.definitions.specs.declared.Rule.{Rule}
use Rattle.finding_runs.specs.Run.{waivers_below, Progress, progress_of, refusing, faulty_from, may_come, is_unknown, gathered, rules_run}
use Rattle.finding_runs.proofs.Fold.{run_nil, run_cons}
use Rattle.finding_runs.proofs.StepCases.{is_faulty, step_bad, step_faulty, step_gathers, walks_on}
use Rattle.finding_runs.proofs.GoodRules.{good_from, good_none, good_first, good_rest, not_good}
use Rattle.finding_runs.proofs.KnownIds.{known_from}
use Rattle.finding_runs.proofs.Quiet.{run_stopped}

-- a run is refused or goes on with a wrong waiver
pub record Faulted (p : Progress) : Type 0 where
  pub running : p.state.refusal ≡ 0
  pub fault : p.state.faulty ≡ true

module _ (keys bits waiver_ids waiver_keys : List ℕ) where
  abbrev ws : List Finding
  ws = waivers_of waiver_ids waiver_keys

  abbrev run : List Rule → Progress → Progress
  run = rules_run keys bits waiver_ids waiver_keys

  abbrev good_at : Progress → List Rule → Bool
  good_at p rules = good_from p.state.m p.state.s p.state.next rules

  -- 13
  pub run_bad : (rules : List Rule) (p : Progress) → p.state.refusal ≡ 0 → p.state.mode ≡ 1 → good_at p rules ≡ false → (run rules p).state.refusal ≡ 13
  run_bad [] p zero walks bad = absurd (true≢false (sym (good_none p.state.m p.state.s p.state.next) ∙ bad))
  run_bad (rule ∷ rules) p zero walks bad =
      decide (may_come rule p.state)
      (λ may.
      let rest = not_good p.state.m p.state.s p.state.next rule rules may bad in
      decide (is_faulty keys bits waiver_ids waiver_keys rule p)
      (λ faulty.
      ap (λ q. q.state.refusal)
      (run_cons keys bits waiver_ids waiver_keys rule rules p ∙ ap (run rules) (step_faulty keys bits waiver_ids waiver_keys rule p zero (walks_on keys bits waiver_ids waiver_keys rule p walks) may faulty))
      ∙ run_bad rules (progress_of (faulty_from (rule.id + 1) p.state) p.ids p.keys) zero walks rest)
      (λ sound.
      ap (λ q. q.state.refusal)
      (run_cons keys bits waiver_ids waiver_keys rule rules p ∙ ap (run rules) (step_gathers keys bits waiver_ids waiver_keys rule p zero walks may sound))
      ∙ run_bad rules (gathered keys bits waiver_ids waiver_keys rule p) zero walks rest))
      (λ wrong.
      ap (λ q. q.state.refusal)
      (run_cons keys bits waiver_ids waiver_keys rule rules p
      ∙ ap (run rules) (step_bad keys bits waiver_ids waiver_keys rule p zero (walks_on keys bits waiver_ids waiver_keys rule p walks) wrong)
      ∙ run_stopped keys bits waiver_ids waiver_keys rules (progress_of (refusing 13 p.state) p.ids p.keys) (λ e. omega arith)))

  -- a wrong waiver stays one
  pub run_faulty : (rules : List Rule) (p : Progress) → Faulted p → p.state.mode ≡ 1 → good_at p rules ≡ true → Faulted (run rules p)
  run_faulty [] p f walks good = rw (run_nil keys bits waiver_ids waiver_keys p) f
  run_faulty (rule ∷ rules) p f walks good =
      let may = good_first p.state.m p.state.s p.state.next rule rules good in
      let rest = good_rest p.state.m p.state.s p.state.next rule rules good in
      let q = progress_of (faulty_from (rule.id + 1) p.state) p.ids p.keys in
      rw (run_cons keys bits waiver_ids waiver_keys rule rules p
      ∙ ap (run rules) (step_faulty keys bits waiver_ids waiver_keys rule p f.running (walks_on keys bits waiver_ids waiver_keys rule p walks) may (or_left p.state.faulty _ f.fault)))
      (run_faulty rules q (record { running = f.running; fault = refl }) walks rest)

  not_known : (a b : Bool) → a && b ≡ false → a ≡ true → b ≡ false
  not_known a b e f = sym (ap (λ x. x && b) f) ∙ e

  -- a waiver that no rule has
  pub run_unknown : (rules : List Rule) (p : Progress) → p.state.refusal ≡ 0 → p.state.mode ≡ 1 → good_at p rules ≡ true → known_from ws p.state.next rules ≡ false → Faulted (run rules p)
  unfolding known_from
  run_unknown [] p zero walks good unknown = absurd (true≢false unknown)
  run_unknown (rule ∷ rules) p zero walks good unknown =
      let may = good_first p.state.m p.state.s p.state.next rule rules good in
      let rest = good_rest p.state.m p.state.s p.state.next rule rules good in
      let q = progress_of (faulty_from (rule.id + 1) p.state) p.ids p.keys in
      decide (is_faulty keys bits waiver_ids waiver_keys rule p)
      (λ faulty.
      rw (run_cons keys bits waiver_ids waiver_keys rule rules p ∙ ap (run rules) (step_faulty keys bits waiver_ids waiver_keys rule p zero (walks_on keys bits waiver_ids waiver_keys rule p walks) may faulty))
      (run_faulty rules q (record { running = zero; fault = refl }) walks rest))
      (λ sound.
      rw (run_cons keys bits waiver_ids waiver_keys rule rules p ∙ ap (run rules) (step_gathers keys bits waiver_ids waiver_keys rule p zero walks may sound))
      (run_unknown rules (gathered keys bits waiver_ids waiver_keys rule p) zero walks rest
      (not_known (not (ltb (waivers_below p.state.next ws) (waivers_below rule.id ws))) (known_from ws (rule.id + 1) rules) unknown
      (ap not (second_false p.state.faulty (is_unknown keys bits waiver_ids waiver_keys rule p.state) sound)))))
    where
      second_false : (a b : Bool) → a || b ≡ false → b ≡ false
      second_false true b e = absurd (true≢false e)
      second_false false b e = e
