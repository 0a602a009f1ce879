-- What the search keeps: the count lies from low, which starts past the known place, to high. Each turn leaves less between. Rests on Count.
use Prim.Native.Nat.{◌-◌}
use lib.ListN.{length}
use Rattle.list.proofs.Count.{Bracket}
use Rattle.list.proofs.search.up_to_from.Given as goal

abbrev pub invariant-loop-low : goal.invariant-loop-low
invariant-loop-low l = Bracket l.keys (length l.keys) l.x l.low l.high

abbrev pub decreases-loop-low : goal.decreases-loop-low
decreases-loop-low l = l.high - l.low
