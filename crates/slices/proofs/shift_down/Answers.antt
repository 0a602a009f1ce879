-- `shift_down` meets its contract: at the end all places are moved. Rests on Moves.
use Rattle.slices.proofs.Moves.{move_begins, slide_turns, move_ends}
use Rattle.slices.proofs.shift_down.Goals as goal

pub loop-i-init : goal.loop-i-init
loop-i-init c = move_begins _ _ _ _ _

pub loop-i-preserved : goal.loop-i-preserved
loop-i-preserved c = slide_turns c.loop-i.invariant c.requires.0 c.requires.1 c.loop-i-test.true

pub returns : goal.returns
returns c = move_ends c.loop-i.invariant c.loop-i-test.false
