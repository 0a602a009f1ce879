-- The height of the block falls at each call.
use Rattle.apply_deed.proofs.spread.+spread.Given as goal

abbrev pub decreases-spread : goal.decreases-spread
decreases-spread l = l.block.height
