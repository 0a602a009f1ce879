-- `calls::report_clipped` meets its contract: the strict call answers for the clipped window.
use mathlib.Core.Path.{◌∙◌}
use Rattle.laws.proofs.ClippedCalls.{report_same}
use Rattle.clipped.proofs.Lines.{same_window}
use Rattle.clipped.proofs.calls.report_clipped.Goals as goal

pub returns : goal.returns
returns c = c.report.ensures ∙ report_same _ _ _ _ _ (same_window _ _ _ _ c.ranges.row c.ranges.column c.clipped_window-window.ensures)
