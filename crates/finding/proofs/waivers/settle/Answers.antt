-- Where the waivers are past the block it is not covered, and else the merge says it.
use mathlib.Core.Path.{sym}
use native.Mathlib.Omega.{arith}
use Rattle.finding.proofs.Settling.{passed_widen, settled_past}
use Rattle.finding.proofs.waivers.settle.Goals as goal

pub returns-then-are_past : goal.returns-then-are_past
returns-then-are_past c =
    let pre = c.requires in
    let past = c.are_past.ensures c.if-are_past.true in
    record { hidden = sym (settled_past _ _ pre.1 pre.2 pre.3 past.0 past.1); passed = passed_widen _ pre.3 (omega arith) }
