-- The turns of the loop in `run`: before a turn the state and the two answer lists are those of a run over the first i rules, and a step over the rule at i
-- makes them those of the next turn. Rests on the laws of a run in Fold, and on TableRuns.
use mathlib.Core.Path.{◌≡◌, ap, ◌∙◌}
use Prim.Native.Nat.{ℕ, ◌+◌, ◌≤◌, ◌<◌}
use native.Mathlib.Omega.{arith}
use mathlib.Core.List.{List}
use lib.ListN.{length, get_or, take}
use Rattle.definitions.specs.declared.Rule.{Rule}
use Rattle.finding_runs.specs.Run.{Progress, TableReady, table_step, table_run}
use Rattle.finding_runs.proofs.Fold.{no_rule, run_none, run_next, run_all}
use Rattle.finding_runs.proofs.TableRuns.{table_ready_step}

-- a turn, from the progress at entry to the one before the rule at i
pub record RunTurn (keys bits waiver_ids waiver_keys : List ℕ) (rules : List Rule) (entry p : Progress) (i : ℕ) : Type 0 where
  pub small : i ≤ length rules
  pub found : p ≡ table_run keys bits waiver_ids waiver_keys (take i rules) entry
  pub ready : TableReady keys bits waiver_ids waiver_keys p

module _ (keys bits waiver_ids waiver_keys : List ℕ) (rules : List Rule) where
  pub first_turn : (entry : Progress) → TableReady keys bits waiver_ids waiver_keys entry → RunTurn keys bits waiver_ids waiver_keys rules entry entry 0
  first_turn entry ready = record { small = omega arith; found = run_none keys bits waiver_ids waiver_keys rules entry; ready = ready }

  module _ {entry p : Progress} {i : ℕ} (t : RunTurn keys bits waiver_ids waiver_keys rules entry p i) where
    pub next_turn : (next : Progress) → i < length rules → next ≡ table_step keys bits waiver_ids waiver_keys (get_or rules i no_rule) p
        → RunTurn keys bits waiver_ids waiver_keys rules entry next (i + 1)
    next_turn next more e =
        record {
          small = omega arith;
          found = run_next keys bits waiver_ids waiver_keys i rules entry p next more t.found e;
          ready = table_ready_step keys bits waiver_ids waiver_keys (get_or rules i no_rule) p next e t.ready;
        }

    -- after the last turn the run is over all rules
    pub all_ran : length rules ≤ i → p ≡ table_run keys bits waiver_ids waiver_keys rules entry
    all_ran over =
        let last : i ≡ length rules = omega (arith, t.small) in
        t.found ∙ ap (λ j. table_run keys bits waiver_ids waiver_keys (take j rules) entry) last ∙ run_all keys bits waiver_ids waiver_keys rules entry
