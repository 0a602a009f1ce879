-- `window_blocks::lies` meets its contract: by the walk's tests of the block's pixels.
use Rattle.std.proofs.Common.{arith}
use Rattle.window_paint.proofs.WindowLies.{small_told, lies_told}
use Rattle.window_paint.proofs.window_blocks.lies.Goals as goal

pub square-requires : goal.square-requires
square-requires c = omega (arith, c.requires.deep)

pub lies-requires : goal.lies-requires
lies-requires c = small_told c.requires c.square.ensures

pub returns : goal.returns
returns c = lies_told c.requires c.square.ensures c.lies.ensures
