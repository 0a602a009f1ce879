-- Before `left` lie entries, which descend from `limit` exactly when all entries descend.
use Prim.Native.Nat.{◌^◌}
use mathlib.Core.Path.{◌≡◌}
use Rattle.deeds.specs.Runs.{Between, descends, last_first}
use Rattle.deeds.proofs.run.is_ordered.Given as goal

abbrev pub invariant-loop-left : goal.invariant-loop-left
invariant-loop-left l =
    Between l.m l.start l.left l.log_keys l.log_values
    × (descends l.m l.limit (last_first l.left l.log_keys l.log_values l.start l.left) ≡ descends l.m (5 ^ l.m) (last_first l.end l.log_keys l.log_values l.start l.end))

abbrev pub decreases-loop-left : goal.decreases-loop-left
decreases-loop-left l =
    l.left
