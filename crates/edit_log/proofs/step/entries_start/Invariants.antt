-- `step::entries_start`: what stands before all the entries is what stands before those that the loop has not passed. Rests on Walk.
use Prim.Native.Nat.{◌-◌}
use Rattle.edit_log.proofs.Walk.{Walked}
use Rattle.edit_log.proofs.step.entries_start.Given as goal

abbrev pub invariant-loop-passed : goal.invariant-loop-passed
invariant-loop-passed l = Walked l.count l.keys l.values l.used l.start (l.count - l._passed)
