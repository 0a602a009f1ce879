-- `check_file::after_node`: the children that the loop has passed are those that the model has passed, and past the first one the place is no 0. A call for a child
-- has a fifth of the step. Rests on FileTurn.
use Prim.Native.Nat.{◌<◌}
use Rattle.file.proofs.FileTurn.{PassedIn}
use Rattle.file.proofs.check_file.+after_node.Given as goal

abbrev pub decreases-after_node : goal.decreases-after_node
decreases-after_node l = l.step

abbrev pub invariant-loop-digit : goal.invariant-loop-digit
invariant-loop-digit l = record { passed : PassedIn l.width l.n l.file l.first l.key l.own l.step l.next l.union l.digit; past : 1 < l.digit → 0 < l.next }
