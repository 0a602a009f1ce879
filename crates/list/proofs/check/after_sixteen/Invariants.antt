-- What the loop keeps: the children before the digit are those that the model has passed, at the step 5, and past the first one the place is no 0. Rests on
-- Turn.
use Prim.Native.Nat.{◌<◌}
use Rattle.list.proofs.Turn.{TurnPassed}
use Rattle.list.proofs.check.after_sixteen.Given as goal

abbrev pub invariant-loop-digit : goal.invariant-loop-digit
invariant-loop-digit l = record { passed : TurnPassed l.keys l.bits l.first l.key l.own 5 l.next l.union l.digit; past : 1 < l.digit → 0 < l.next }
