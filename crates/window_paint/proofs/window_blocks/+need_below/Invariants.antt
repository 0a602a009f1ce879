-- The height of the block falls at each call.
use Rattle.window_paint.proofs.window_blocks.+need_below.Given as goal

abbrev pub decreases-need_below : goal.decreases-need_below
decreases-need_below l = l.block.height
