-- The first step of the part of the log that is lent.
use Rattle.undo.proofs.RedoPlan.{redo_divided, step_found}
use Rattle.undo.proofs.redo.next_step.Goals as goal

pub first_step-requires : goal.first_step-requires
first_step-requires c = redo_divided c.requires

pub returns : goal.returns
returns c = step_found c.requires _ c.first_step.ensures
