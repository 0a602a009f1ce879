-- `lay::lay_below`: the step falls at each call.
use Rattle.leaves.proofs.lay.+lay_below.Given as goal

abbrev pub decreases-lay_below : goal.decreases-lay_below
decreases-lay_below l = l.span.step
