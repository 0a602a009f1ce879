-- `count::pass_block`: the step falls at each call.
use Rattle.leaves.proofs.count.+pass_block.Given as goal

abbrev pub decreases-pass_block : goal.decreases-pass_block
decreases-pass_block l = l.span.step
