-- Each turn is a step over the rule there. Rests on RunTurns.
use Rattle.finding_runs.proofs.RunTurns.{first_turn, next_turn, all_ran}
use Rattle.finding_runs.proofs.all_rules.run.Goals as goal

pub loop-rule-init : goal.loop-rule-init
loop-rule-init c = first_turn _ _ _ _ _ _ c.requires

pub loop-rule-preserved : goal.loop-rule-preserved
loop-rule-preserved c = next_turn _ _ _ _ _ c.loop-rule.invariant _ c.loop-rule-test.true c.step-st.ensures

pub returns : goal.returns
returns c = all_ran _ _ _ _ _ c.loop-rule.invariant c.loop-rule-test.false
