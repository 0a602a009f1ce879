-- The height of the block falls at each call.
use Rattle.window_paint.proofs.window_logging.+log_blocks.Given as goal

abbrev pub decreases-log_blocks : goal.decreases-log_blocks
decreases-log_blocks l = l.block.height
