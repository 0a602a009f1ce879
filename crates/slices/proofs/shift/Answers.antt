-- `shift` meets its contract: what stays where it is is not moved. Rests on Moves.
use native.Mathlib.Omega.{arith}
use Rattle.slices.proofs.Moves.{not_moved}
use Rattle.slices.proofs.shift.Goals as goal

pub returns-else-from-to : goal.returns-else-from-to
returns-else-from-to c = not_moved _ _ _ _ (omega arith) c.requires.0
