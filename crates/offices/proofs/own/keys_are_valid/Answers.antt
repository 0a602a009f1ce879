-- The key at the place decides, or those after it.
use mathlib.Core.Path.{sym, ◌∙◌}
use Rattle.offices.proofs.OwnRows.{keys_fail, keys_go_on, keys_end}
use Rattle.offices.proofs.own.keys_are_valid.Goals as goal

pub returns-then-not-is_valid : goal.returns-then-not-is_valid
returns-then-not-is_valid c = keys_fail _ _ _ c.loop-number-test.true c.loop-number.invariant (sym c.is_valid.ensures ∙ c.if-not-is_valid.true)

pub loop-number-preserved : goal.loop-number-preserved
loop-number-preserved c = keys_go_on _ _ _ c.loop-number-test.true c.loop-number.invariant (sym c.is_valid.ensures ∙ c.if-not-is_valid.false)

pub returns : goal.returns
returns c = keys_end _ _ _ c.loop-number-test.false c.loop-number.invariant
