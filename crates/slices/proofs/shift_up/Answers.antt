-- `shift_up` meets its contract: at the end none is left. Rests on Moves.
use native.Mathlib.Omega.{arith}
use Rattle.slices.proofs.Moves.{raise_begins, raise_turns, raise_ends}
use Rattle.slices.proofs.shift_up.Goals as goal

pub loop-i-init : goal.loop-i-init
loop-i-init c = raise_begins _ _ _ _

pub loop-i-preserved : goal.loop-i-preserved
loop-i-preserved c = raise_turns c.loop-i.invariant c.requires.0 (omega arith) (omega arith)

pub returns : goal.returns
returns c = raise_ends c.loop-i.invariant c.loop-i-test.false
