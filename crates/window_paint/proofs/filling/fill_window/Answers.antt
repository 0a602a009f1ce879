-- `filling::fill_window` meets its contract: the step of the window is the deed's.
use Rattle.window_paint.proofs.WindowFilled.{can_paint, can_change, change_fills}
use Rattle.window_paint.proofs.filling.fill_window.Goals as goal

pub painting-requires : goal.painting-requires
painting-requires c = can_paint c.requires.0

pub change-requires : goal.change-requires
change-requires c = rw (c.painting.ensures.step, c.painting.ensures.map) (can_change _ _ _ _ _ _ c.requires.0 c.requires.1)

pub returns : goal.returns
returns c = change_fills _ _ _ _ _ _ (rw (c.painting.ensures.step, c.painting.ensures.map) at c.change.ensures)
