-- `calls::select_clipped` meets its contract: the strict call answers for the clipped window, and leaves the answer slice as it does.
use mathlib.Core.Path.{◌∙◌}
use Rattle.laws.proofs.ClippedCalls.{select_same, answer_same}
use Rattle.clipped.proofs.Lines.{same_window}
use Rattle.clipped.proofs.calls.select_clipped.Goals as goal

pub returns-clause-value : goal.returns-clause-value
returns-clause-value c = c.select.ensures.value ∙ select_same _ _ _ _ _ _ _ (same_window _ _ _ _ c.ranges.row c.ranges.column c.clipped_window-window.ensures)

pub returns-clause-answer_after : goal.returns-clause-answer_after
returns-clause-answer_after c =
    c.select.ensures.answer_after ∙ answer_same _ _ _ _ _ _ _ (same_window _ _ _ _ c.ranges.row c.ranges.column c.clipped_window-window.ensures)
