-- The height of the block falls at each call.
-- record. The height falls at each call.
use Rattle.apply_deed.proofs.shrink.+shrink.Given as goal

abbrev pub decreases-shrink : goal.decreases-shrink
decreases-shrink l = l.block.height
