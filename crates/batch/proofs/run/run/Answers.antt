-- Each turn is a step over the question there. Rests on RunTurns.
use Rattle.batch.proofs.RunTurns.{first_turn, one_comes, next_turn, all_ran}
use Rattle.batch.proofs.run.run.Goals as goal

pub loop-question-init : goal.loop-question-init
loop-question-init c = first_turn _ _ _ _ c.requires

pub step-st-requires : goal.step-st-requires
step-st-requires c = one_comes _ _ _ c.loop-question.invariant c.loop-question-test.true

pub loop-question-preserved : goal.loop-question-preserved
loop-question-preserved c = next_turn _ _ _ c.loop-question.invariant _ c.loop-question-test.true c.step-st.ensures

pub returns : goal.returns
returns c = all_ran _ _ _ c.loop-question.invariant c.loop-question-test.false
