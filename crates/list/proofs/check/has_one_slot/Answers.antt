-- `check::has_one_slot` meets its contract: a number that is not 0 is a power of two exactly when it shares no slot with the number before it.
use mathlib.Core.Path.{sym, ap, ◌∙◌}
use native.Mathlib.Omega.{arith}
use Rattle.list.specs.Check.{one_slot}
use Rattle.list.proofs.OneSlot.{none_slot, clear_slot}
use Rattle.list.proofs.check.has_one_slot.Goals as goal

pub returns-then-bits-eq0 : goal.returns-then-bits-eq0
returns-then-bits-eq0 c = sym (ap one_slot c.if-bits-eq0.true ∙ none_slot)

pub overflow_sub-result : goal.overflow_sub-result
overflow_sub-result c = omega arith

pub returns : goal.returns
returns c = clear_slot c.args.bits (omega arith)
