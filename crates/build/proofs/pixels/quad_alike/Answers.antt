-- `pixels::quad_alike`: the four places are the block's pixels, and three equal the first. Rests on Alike.
use Rattle.std.proofs.Common.{arith}
use Rattle.build.proofs.Alike.{further_inside, quad_one}
use Rattle.build.proofs.pixels.quad_alike.Goals as goal

pub bounds-raster-south-2 : goal.bounds-raster-south-2
bounds-raster-south-2 c = let h = further_inside c.requires 1 1 (omega arith) (omega arith) in omega arith

pub returns : goal.returns
returns c t = quad_one c.args.side c.args.raster.now c.args.row c.args.column t
