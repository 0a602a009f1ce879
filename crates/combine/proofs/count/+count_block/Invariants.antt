-- `count::count_block`: the step falls at each call.
use Rattle.combine.proofs.count.+count_block.Given as goal

abbrev pub decreases-count_block : goal.decreases-count_block
decreases-count_block l = l.step
