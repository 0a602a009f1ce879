-- A square's pixels are 4 to the power of its height.
use native.Mathlib.Omega.{arith}
use Rattle.summary.proofs.BlockNumbers.{area_many}
use Rattle.summary.proofs.blocks.area_of.Goals as goal

pub returns : goal.returns
returns c = area_many c.args.m _ c.power_of_two-side.ensures (omega arith)
