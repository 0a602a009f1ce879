-- `write::asked`: the tests of its table in their order. Rests on Answers.
use Rattle.std.proofs.Common.{sym, ◌∙◌}
use Rattle.bit_strings.proofs.Answers.{early_settings, early_slots, early_accepts}
use Rattle.bit_strings.proofs.write.asked.Goals as goal

pub returns-then-are_bad-clause-told : goal.returns-then-are_bad-clause-told
returns-then-are_bad-clause-told c = early_settings _ _ _ _ _ (sym c.are_bad.ensures ∙ c.if-are_bad.true)

pub returns-then-s-ne2-clause-told : goal.returns-then-s-ne2-clause-told
returns-then-s-ne2-clause-told c = early_slots _ _ _ _ _ (sym c.are_bad.ensures ∙ c.if-are_bad.false) c.if-s-ne2.true

pub returns-clause-told : goal.returns-clause-told
returns-clause-told c =
    c.accept.ensures.told ∙ early_accepts _ _ _ _ _ (sym c.are_bad.ensures ∙ c.if-are_bad.false) c.if-s-ne2.false
