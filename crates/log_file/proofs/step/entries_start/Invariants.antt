-- `step::entries_start`: what stands before all the entries is what stands before those that the loop has not passed. Rests on Walk of crate edit_log.
use Prim.Native.Nat.{◌-◌}
use Rattle.edit_log.proofs.Walk.{Walked}
use Rattle.log_file.specs.Records.{keys_in_bytes, values_in_bytes}
use Rattle.log_file.proofs.step.entries_start.Given as goal

abbrev pub invariant-loop-passed : goal.invariant-loop-passed
invariant-loop-passed l = Walked l.count (keys_in_bytes l.bytes) (values_in_bytes l.bytes) l.used l.start (l.count - l._passed)
