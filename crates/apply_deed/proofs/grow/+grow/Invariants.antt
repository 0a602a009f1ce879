-- The height of the block falls at each call.
use Rattle.apply_deed.proofs.grow.+grow.Given as goal

abbrev pub decreases-grow : goal.decreases-grow
decreases-grow l = l.block.height
