-- `fill::fill_square`: one row more is painted. Rests on Filling.
use Rattle.std.proofs.Common.{arith}
use Rattle.read.proofs.Filling.{rows_begin, row_goes}
use Rattle.read.proofs.fill.fill_square.Goals as goal

pub loop-row-init : goal.loop-row-init
loop-row-init c = rows_begin _ _ _ _ _

pub loop-row-preserved : goal.loop-row-preserved
loop-row-preserved c = row_goes c.loop-row.invariant c.requires (omega arith) _ c.fill_row.ensures
