-- The next step's kind says which way it is redone.
use Rattle.undo.proofs.RedoPlan.{next_single, next_group}
use Rattle.undo.proofs.RedoTable.{to-redo}
use Rattle.undo.proofs.redo.redo_step.Goals as goal

pub next_step-next-requires : goal.next_step-next-requires
next_step-next-requires c = to-redo c.requires

pub redo_group-requires : goal.redo_group-requires
redo_group-requires c = let told = next_group _ _ c.next_step-next.ensures c.if-next.true in (c.requires, told.0, told.1)

pub redo_entry-requires : goal.redo_entry-requires
redo_entry-requires c = let told = next_single _ _ c.next_step-next.ensures c.if-next.false in (c.requires, told.0, told.1)
