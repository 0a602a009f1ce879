-- `shrink_own` meets its contract: one slot or several.
use mathlib.Core.Path.{sym, ◌∙◌}
use Rattle.apply_deed.proofs.ShrinkLaws.{own_one, own_several}
use Rattle.apply_deed.proofs.shrink.shrink_own.Goals as goal

pub returns-then-has_one_slot : goal.returns-then-has_one_slot
returns-then-has_one_slot c = own_one (sym c.has_one_slot.ensures ∙ c.if-has_one_slot.true)

pub returns : goal.returns
returns c = own_several (sym c.has_one_slot.ensures ∙ c.if-has_one_slot.false)
