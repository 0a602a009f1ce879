-- `taken_back` meets its contract: the whole content, or the content's bits.
use Rattle.std.proofs.Common.{sym, ◌∙◌, arith}
use Rattle.deeds.proofs.EntryTurns.{given_whole, given_one, given_cut}
use Rattle.deeds.proofs.entries.taken_back.Goals as goal

pub whole-requires : goal.whole-requires
whole-requires c = let h = c.requires in omega (arith, h.in_values, h.sorted.some)

pub returns-then-asked-key : goal.returns-then-asked-key
returns-then-asked-key c = c.whole.ensures ∙ given_whole _ _ _ _ c.if-asked-key.true

pub returns-then-has_one_slot : goal.returns-then-has_one_slot
returns-then-has_one_slot c = given_one _ _ _ _ c.if-asked-key.false _ c.content_bits-bits.ensures (sym c.has_one_slot.ensures ∙ c.if-has_one_slot.true)

pub returns-else-has_one_slot : goal.returns-else-has_one_slot
returns-else-has_one_slot c = given_cut _ _ _ _ c.if-asked-key.false _ c.content_bits-bits.ensures (sym c.has_one_slot.ensures ∙ c.if-has_one_slot.false)
