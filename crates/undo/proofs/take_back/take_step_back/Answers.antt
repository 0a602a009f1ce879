-- The mark says which way the last step is taken back.
use native.Mathlib.Omega.{arith}
use Rattle.edit.proofs.EditCallTables.{passed_force}
use Rattle.undo.proofs.TakingBackTable.{take-sheet}
use Rattle.undo.proofs.take_back.take_step_back.Goals as goal

pub ends_in_mark-requires : goal.ends_in_mark-requires
ends_in_mark-requires c =
    let room = passed_force (take-sheet c.requires) in
    (omega arith, omega arith)
