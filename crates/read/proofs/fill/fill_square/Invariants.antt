-- `fill::fill_square`: after each turn the rows passed are painted, and `from` is where the next begins.
use Rattle.read.proofs.Filling.{RowsPassed}
use Rattle.read.proofs.fill.fill_square.Given as goal

abbrev pub invariant-loop-row : goal.invariant-loop-row
invariant-loop-row l = RowsPassed l.initial.raster l.wide l.place l.side l.feature l.raster l.from l.row
