-- The children before the digit are checked, and what was counted of their blocks is kept. The step falls with each call.
use Prim.Native.Nat.{◌/◌}
use Rattle.summary.proofs.KeptRows.{Keeping}
use Rattle.summary.proofs.kept.+keep_blocks.Given as goal

abbrev pub decreases-keep_blocks : goal.decreases-keep_blocks
decreases-keep_blocks l = l.step

abbrev pub invariant-loop-digit : goal.invariant-loop-digit
invariant-loop-digit l =
    Keeping l.keys l.bits l.at l.key l.own l.step l.area (l.share / 4) l.kept l.number l.next l.union l.digit
