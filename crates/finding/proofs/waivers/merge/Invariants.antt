-- The waivers before the place are passed, and what is left over the rest is what it was at the start.
use Prim.Native.Nat.{◌+◌}
use mathlib.Core.Path.{◌≡◌}
use Rattle.finding.specs.Covering.{end_of, start_of}
use Rattle.finding.proofs.Settling.{SettlingGoes}
use Rattle.finding.proofs.waivers.merge.Given as goal

abbrev pub invariant-loop-waiver : goal.invariant-loop-waiver
invariant-loop-waiver l =
    (l.place ≡ l.from + l.waiver-index) × SettlingGoes l.m l.waived (start_of l.m l.furthest l.key) l.from (end_of l.m l.key) l.place l.at.furthest l.at.next
