-- `window_logging::log_window` meets its contract: the entries, what closes them, and then what was used past the group is cleared.
use Rattle.list.proofs.Fuller.{near_root}
use Rattle.edit.proofs.Relogging.{relogged}
use Rattle.window_paint.proofs.GroupLogged.{group_enterable, closing_fits, group_logged}
use Rattle.window_paint.proofs.window_logging.log_window.Goals as goal

pub log_blocks-written-requires : goal.log_blocks-written-requires
log_blocks-written-requires c = let a = c.requires in (group_enterable a c.root-root.ensures, near_root a.list.own _)

pub close_group-end-requires : goal.close_group-end-requires
close_group-end-requires c = closing_fits c.requires (rw c.root-root.ensures at c.log_blocks-written.ensures.0)

pub returns : goal.returns
returns c =
    let a = c.requires in
    relogged a.fits a.there
    (group_logged a (rw c.root-root.ensures at c.log_blocks-written.ensures.0) c.close_group-end.ensures) c.clear_from.ensures
