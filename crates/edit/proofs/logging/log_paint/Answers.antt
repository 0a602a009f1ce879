-- The entry is written, and then what was used past it is cleared.
use Rattle.edit.proofs.Relogging.{relogged, logged_room}
use Rattle.edit.proofs.logging.log_paint.Goals as goal

pub clear_from-requires : goal.clear_from-requires
clear_from-requires c = logged_room c.requires.fresh.fits c.requires.used_there c.log_content-end.ensures

pub returns : goal.returns
returns c = relogged c.requires.fresh.fits c.requires.used_there c.log_content-end.ensures c.clear_from.ensures
