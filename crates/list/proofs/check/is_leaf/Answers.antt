-- `check::is_leaf` meets its contract: a number that is not 0 is a power of two exactly when it shares no slot with the number before it.
use native.Mathlib.Omega.{arith}
use Rattle.list.proofs.OneSlot.{clear_slot}
use Rattle.list.proofs.check.is_leaf.Goals as goal

pub overflow_sub-result : goal.overflow_sub-result
overflow_sub-result c = omega arith

pub returns : goal.returns
returns c = clear_slot c.args.bits c.requires
