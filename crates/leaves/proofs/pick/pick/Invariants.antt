-- `pick::pick`: after each turn the leaves of the records passed are written, one after the other.
use Rattle.std.proofs.Common.{length}
use Rattle.leaves.proofs.Picking.{PickedLeaves}
use Rattle.leaves.proofs.pick.pick.Given as goal

abbrev pub invariant-loop-i : goal.invariant-loop-i
invariant-loop-i l =
    PickedLeaves l.list.keys.now l.list.bits.now (length l.list.keys.now) l.initial.leaf_keys l.initial.leaf_features l.leaf_keys l.leaf_features l.at l.i
