-- `features::has_bad_feature`: after each turn a bad feature was found, or it is among those that are left.
use Rattle.build.proofs.RasterTests.{Scanned}
use Rattle.leaves.proofs.features.has_bad_feature.Given as goal

abbrev pub invariant-loop-feature : goal.invariant-loop-feature
invariant-loop-feature l = Scanned l.s l.features l.bad l.feature-index
