-- `filling::has_room` meets its contract: the step of the window is the deed's.
use Rattle.std.proofs.Common.{◌∙◌, ap, length}
use Rattle.std.specs.Prelude.{leb}
use Rattle.apply_deed.specs.Change.{list_stepped}
use Rattle.window_paint.proofs.WindowFilled.{step_fills}
use Rattle.window_paint.proofs.filling.has_room.Goals as goal

pub returns : goal.returns
returns c =
    let list = c.args.list.now in
    c.has_room.ensures
    ∙ ap (λ t. leb (length (list_stepped t list)) c.args.room) c.painting.ensures.step
    ∙ ap (λ l. leb (length l) c.args.room) (step_fills list.m list.keys.now list.bits.now (length list.keys.now) c.args.window c.args.feature)
