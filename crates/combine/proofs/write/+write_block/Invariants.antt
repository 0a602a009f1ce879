-- `write::write_block`: the step falls at each call.
use Rattle.combine.proofs.write.+write_block.Given as goal

abbrev pub decreases-write_block : goal.decreases-write_block
decreases-write_block l = l.span.step
