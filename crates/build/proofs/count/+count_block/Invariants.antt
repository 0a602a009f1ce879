-- `count::count_block`: the height falls at each call.
use Rattle.build.proofs.count.+count_block.Given as goal

abbrev pub decreases-count_block : goal.decreases-count_block
decreases-count_block l = l.height
