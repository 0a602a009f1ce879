-- `count::joined`: the union in the definition's order, and the count by the same test. Rests on CountBlock.
use Rattle.std.proofs.Common.{sym, ◌∙◌}
use Rattle.definitions.specs.Bits.{union_of_four}
use Rattle.build.proofs.CountBlock.{joined_alike, joined_apart}
use Rattle.build.proofs.count.joined.Goals as goal

pub returns-then-has_one_slot : goal.returns-then-has_one_slot
unfolding union_of_four
returns-then-has_one_slot c = joined_alike _ _ (sym c.has_one_slot.ensures ∙ c.if-has_one_slot.true)

pub returns : goal.returns
unfolding union_of_four
returns c = joined_apart _ _ (sym c.has_one_slot.ensures ∙ c.if-has_one_slot.false)
