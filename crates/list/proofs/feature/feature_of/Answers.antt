-- `feature::feature_of` meets its contract: below the one slot of a leaf stand as many zeros as its feature says.
use native.Mathlib.Omega.{arith}
use lib.Count.{trailing_le}
use Rattle.list.proofs.Trailing.{feature_below, trailing_feature}
use Rattle.list.proofs.feature.feature_of.Goals as goal

pub overflow_cast-result : goal.overflow_cast-result
overflow_cast-result c = let h = trailing_le 32 c.args.bits in omega arith

pub returns : goal.returns
returns c =
    let e = trailing_feature c.args.bits c.requires c.ranges.bits.fits in
    let h = feature_below c.args.bits c.requires c.ranges.bits.fits in
    (e, omega arith)
