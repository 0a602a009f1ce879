-- `TwoByTwo::fill_node`: four records follow the node's own. Rests on FourPixels.
use Rattle.std.proofs.Common.{arith}
use Rattle.read.proofs.FourPixels.{four_there}
use Rattle.read.proofs.fill.TwoByTwoBlock.fill_node.Goals as goal

pub overflow_add-result : goal.overflow_add-result
overflow_add-result c = let h = four_there c.args.raster.now c.requires in omega (arith, c.well_formed)
