-- `parents::child_bits` meets its contract: the child in hand, or another one by the list.
use Rattle.std.proofs.Common.{◌∙◌}
use Rattle.replace.proofs.FamilyRead.{child_own, child_other}
use Rattle.replace.proofs.parents.child_bits.Goals as goal

pub returns-then-x-own : goal.returns-then-x-own
returns-then-x-own c = child_own _ _ _ _ c.if-x-own.true

pub returns-else-x-own : goal.returns-else-x-own
returns-else-x-own c = c.bits_at.ensures ∙ child_other _ _ _ _ c.if-x-own.false
