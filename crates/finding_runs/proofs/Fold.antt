-- A run over the rules, rule by rule; and over a table a run over the first rules: one more rule is one more step, and all rules are the whole run. Rests on the definitions alone.
use Prim.Native.Nat.{ℕ, zero, suc, ◌+◌, ◌<◌}
use mathlib.Core.Path.{◌≡◌, refl, sym, ap, ◌∙◌}
use mathlib.Core.List.{List, [], ◌∷◌}
use native.Mathlib.Numerals.{add-one}
use native.Mathlib.Omega.{arith}
use lib.ListN.{length, get_or, take}
use Rattle.definitions.specs.declared.Rule.{Rule}
use Rattle.finding_runs.specs.Run.{Progress, rule_step, rules_run, table_step, table_run}

-- a rule to stand where there is none
abbrev pub no_rule : Rule
no_rule = record { id = 0; row = 0; column = 0; height = 0; width = 0; feature = 0 }

module _ (keys bits waiver_ids waiver_keys : List ℕ) where
  abbrev step : Rule → Progress → Progress
  step = rule_step keys bits waiver_ids waiver_keys

  pub run_nil : (p : Progress) → rules_run keys bits waiver_ids waiver_keys [] p ≡ p
  unfolding rules_run
  run_nil p = refl

  pub run_cons : (rule : Rule) (rules : List Rule) (p : Progress)
      → rules_run keys bits waiver_ids waiver_keys (rule ∷ rules) p ≡ rules_run keys bits waiver_ids waiver_keys rules (step rule p)
  unfolding rules_run
  run_cons rule rules p = refl

-- over a table
module _ (keys bits ids waived : List ℕ) where
  abbrev tstep : Rule → Progress → Progress
  tstep = table_step keys bits ids waived

  abbrev first : ℕ → List Rule → Progress → Progress
  first i rules p = table_run keys bits ids waived (take i rules) p

  -- no rule yet
  pub run_none : (rules : List Rule) (p : Progress) → p ≡ first 0 rules p
  unfolding table_run
  run_none rules p = refl

  take_next : (i : ℕ) (rules : List Rule) (p : Progress) → i < length rules → tstep (get_or rules i no_rule) (first i rules p) ≡ first (suc i) rules p
  unfolding table_run
  take_next i [] p h = absurd (omega arith)
  take_next zero (rule ∷ rules) p h = refl
  take_next (suc i) (rule ∷ rules) p h = take_next i rules (tstep rule p) (omega arith)

  -- one rule more
  pub run_next : (i : ℕ) (rules : List Rule) (start p next : Progress) → i < length rules → p ≡ first i rules start
      → next ≡ tstep (get_or rules i no_rule) p
      → next ≡ first (i + 1) rules start
  run_next i rules start p next h is e =
      e ∙ ap (tstep (get_or rules i no_rule)) is ∙ take_next i rules start h ∙ ap (λ j. first j rules start) (sym (add-one i))

  -- all rules
  pub run_all : (rules : List Rule) (p : Progress) → first (length rules) rules p ≡ table_run keys bits ids waived rules p
  unfolding table_run
  run_all [] p = refl
  run_all (rule ∷ rules) p = run_all rules (tstep rule p)
