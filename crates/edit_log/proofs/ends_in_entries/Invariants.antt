-- `ends_in_entries`: the entries that the loop has passed are entries, so the records end in all of them exactly when those before end in the others.
-- Rests on Walk.
use Prim.Native.Nat.{◌-◌}
use Rattle.edit_log.proofs.Walk.{PassedEntries}
use Rattle.edit_log.proofs.ends_in_entries.Given as goal

abbrev pub invariant-loop-passed : goal.invariant-loop-passed
invariant-loop-passed l = PassedEntries l.count l.m l.s l.keys l.values l.used l.end (l.count - l._passed)
