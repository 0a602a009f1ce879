-- `pixels::has_bad_pixel`: after each turn a bad pixel was found, or it is among the pixels that are left.
use Rattle.build.proofs.RasterTests.{Scanned}
use Rattle.build.proofs.pixels.has_bad_pixel.Given as goal

abbrev pub invariant-loop-pixel : goal.invariant-loop-pixel
invariant-loop-pixel l = Scanned l.s l.raster l.bad l.pixel-index
