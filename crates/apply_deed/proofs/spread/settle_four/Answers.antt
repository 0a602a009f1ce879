-- `settle_four` meets its contract: build's writing of four own records where the test of their union fails, else nothing.
use Rattle.std.proofs.Common.{refl, sym, ◌∙◌, arith}
use Rattle.definitions.specs.Bits.{union_of_four}
use Rattle.apply_deed.proofs.SpreadSteps.{settled_alike, settled_apart}
use Rattle.apply_deed.proofs.spread.settle_four.Goals as goal

pub returns-then-has_one_slot : goal.returns-then-has_one_slot
unfolding union_of_four
returns-then-has_one_slot c = settled_alike refl (sym c.has_one_slot.ensures ∙ c.if-has_one_slot.true) c.saturating_sub.ensures

pub overflow_sub-place : goal.overflow_sub-place
unfolding union_of_four
overflow_sub-place c = c.requires.some (sym c.has_one_slot.ensures ∙ c.if-has_one_slot.false)

pub overflow_sub-lower : goal.overflow_sub-lower
overflow_sub-lower c = c.requires.positive

pub power_of_five-step-requires : goal.power_of_five-step-requires
power_of_five-step-requires c = omega (arith, c.requires.deep)

pub write_four-wrote-requires : goal.write_four-wrote-requires
unfolding union_of_four
write_four-wrote-requires c = rw c.power_of_five-step.ensures (c.requires.asked (sym c.has_one_slot.ensures ∙ c.if-has_one_slot.false))

pub returns : goal.returns
unfolding union_of_four
returns c = settled_apart c.power_of_five-step.ensures c.write_four-wrote.ensures (sym c.has_one_slot.ensures ∙ c.if-has_one_slot.false)
