-- `pixels::has_bad_pixel`: each turn looks at one pixel more. Rests on RasterTests.
use Rattle.std.proofs.Common.{arith}
use Rattle.build.proofs.RasterTests.{scan_bad, scan_good, scan_ends}
use Rattle.build.proofs.pixels.has_bad_pixel.Goals as goal
use Rattle.build.proofs.pixels.has_bad_pixel.Goals.{then-s-from, else-s-from}

pub loop-pixel-preserved : goal.loop-pixel-preserved
loop-pixel-preserved c =
    let seen = c.loop-pixel.invariant in
    elim c.if-s-from.branch [
      | then-s-from w ↦ rw w.bad-is (scan_bad seen (omega arith) (omega arith))
      | else-s-from w ↦ rw w.bad-is (scan_good seen (omega arith) (omega arith))
    ]

pub returns : goal.returns
returns c = scan_ends c.loop-pixel.invariant (omega arith)
