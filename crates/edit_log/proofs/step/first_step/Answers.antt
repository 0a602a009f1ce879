-- `step::first_step`: each turn goes on to the step before. Rests on First.
use Rattle.edit_log.proofs.First.{divided_stepped, walk_begins, start_less, walk_left, walk_turns, walk_ends}
use Rattle.edit_log.proofs.step.first_step.Goals as goal

pub last_step-start-requires : goal.last_step-start-requires
last_step-start-requires c = divided_stepped c.requires

pub loop-start-init : goal.loop-start-init
loop-start-init c = walk_begins _ c.requires c.last_step-start.ensures

pub last_step-start-requires-in-loop-start : goal.last_step-start-requires-in-loop-start
last_step-start-requires-in-loop-start c = divided_stepped (walk_left c.loop-start.invariant c.loop-start-test.true)

pub loop-start-smaller : goal.loop-start-smaller
loop-start-smaller c = start_less (walk_turns c.loop-start.invariant _ c.loop-start-test.true c.last_step-start-in-loop-start.ensures)

pub loop-start-preserved : goal.loop-start-preserved
loop-start-preserved c = walk_turns c.loop-start.invariant _ c.loop-start-test.true c.last_step-start-in-loop-start.ensures

pub last_step-requires : goal.last_step-requires
last_step-requires c = divided_stepped c.loop-start.invariant.left

pub returns : goal.returns
returns c = walk_ends c.loop-start.invariant _ c.loop-start-test.false c.last_step.ensures
