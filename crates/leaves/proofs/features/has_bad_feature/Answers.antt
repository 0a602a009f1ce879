-- `features::has_bad_feature`: each turn looks at one feature more. Rests on build's RasterTests.
use Rattle.std.proofs.Common.{arith}
use Rattle.build.proofs.RasterTests.{scan_bad, scan_good, scan_ends}
use Rattle.leaves.proofs.features.has_bad_feature.Goals as goal
use Rattle.leaves.proofs.features.has_bad_feature.Goals.{then-s-feature, else-s-feature}

pub loop-feature-preserved : goal.loop-feature-preserved
loop-feature-preserved c =
    let seen = c.loop-feature.invariant in
    elim c.if-s-feature.branch [
      | then-s-feature w ↦ rw w.bad-is (scan_bad seen (omega arith) (omega arith))
      | else-s-feature w ↦ rw w.bad-is (scan_good seen (omega arith) (omega arith))
    ]

pub returns : goal.returns
returns c = scan_ends c.loop-feature.invariant (omega arith)
