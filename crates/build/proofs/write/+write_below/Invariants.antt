-- `write::write_below`: the height falls at each call.
use Rattle.build.proofs.write.+write_below.Given as goal

abbrev pub decreases-write_below : goal.decreases-write_below
decreases-write_below l = l.height
