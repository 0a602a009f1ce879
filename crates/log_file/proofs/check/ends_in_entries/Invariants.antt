-- `check::ends_in_entries`: the entries that the loop has passed are entries, so the records end in all of them exactly when those before end in the others.
-- Rests on Walk of crate edit_log.
use Prim.Native.Nat.{◌-◌}
use Rattle.edit_log.proofs.Walk.{PassedEntries}
use Rattle.log_file.specs.Records.{keys_in_bytes, values_in_bytes}
use Rattle.log_file.proofs.check.ends_in_entries.Given as goal

abbrev pub invariant-loop-passed : goal.invariant-loop-passed
invariant-loop-passed l = PassedEntries l.count l.m l.s (keys_in_bytes l.bytes) (values_in_bytes l.bytes) l.used l.end (l.count - l._passed)
