-- `check_file::after_sixteen`: the children that the loop has passed are those that the model has passed, at the step 5. The code goes by the next child's
-- key. Rests on FileTurn.
use Prim.Native.Nat.{◌+◌, ◌-◌}
use Rattle.file.proofs.FileTurn.{ChildrenIn}
use Rattle.file.proofs.check_file.after_sixteen.Given as goal

abbrev pub invariant-loop-child : goal.invariant-loop-child
invariant-loop-child l = ChildrenIn l.width l.n l.file l.first l.key l.own 5 l.next l.union l.child

abbrev pub decreases-loop-child : goal.decreases-loop-child
decreases-loop-child l = l.key + 25 - l.child
