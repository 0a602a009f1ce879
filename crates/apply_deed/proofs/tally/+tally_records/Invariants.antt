-- The height of the block falls at each call.
use Rattle.apply_deed.proofs.tally.+tally_records.Given as goal

abbrev pub decreases-tally_records : goal.decreases-tally_records
decreases-tally_records l = l.block.height
