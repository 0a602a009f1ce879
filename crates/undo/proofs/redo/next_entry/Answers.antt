-- The last entry of the part of the log that is lent, up to where the next step ends.
use Rattle.undo.proofs.RedoPlan.{next_ended, next_found}
use Rattle.undo.proofs.redo.next_entry.Goals as goal

pub last_entry-requires : goal.last_entry-requires
last_entry-requires c =
    let start = c.before in
    next_ended start.requires.0 _ start.requires.2 start.requires.1

pub returns : goal.returns
returns c =
    let start = c.before in
    next_found start.requires.0 _ start.requires.2 start.requires.1 _ c.last_entry.ensures
