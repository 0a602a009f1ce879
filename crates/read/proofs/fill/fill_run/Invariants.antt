-- `fill::fill_run`: after each turn the places passed have the feature.
use Rattle.std.proofs.Common.{◌+◌}
use Rattle.read.proofs.Filling.{PlacesPassed}
use Rattle.read.proofs.fill.fill_run.Given as goal

abbrev pub invariant-loop-column : goal.invariant-loop-column
invariant-loop-column g l = PlacesPassed l.initial.raster l.from (l.from + g.row.SIDE) l.feature l.raster (l.from + l.column)
