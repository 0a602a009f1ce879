-- The height of the block falls at each call.
use Rattle.apply_deed.proofs.tally.+tally_leaf.Given as goal

abbrev pub decreases-tally_leaf : goal.decreases-tally_leaf
decreases-tally_leaf l = l.block.height
