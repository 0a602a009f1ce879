-- `copy` meets its contract: at the end all places are copied. Rests on Moves.
use Rattle.slices.proofs.Moves.{move_begins, move_turns, move_ends}
use Rattle.slices.proofs.copy.Goals as goal

pub loop-done-init : goal.loop-done-init
loop-done-init c = move_begins _ _ _ _ _

pub loop-done-preserved : goal.loop-done-preserved
loop-done-preserved c = move_turns c.loop-done.invariant c.requires.0 c.loop-done-test.true

pub returns : goal.returns
returns c = move_ends c.loop-done.invariant c.loop-done-test.false
