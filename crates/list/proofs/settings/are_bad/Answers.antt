-- `settings::are_bad` meets its contract: its tests are those of refusal 1, in the same order.
use borrow.Author.Tests.{lt-ltb, le-ltb, eq-eqb, ne_eqb}
use Rattle.definitions.specs.Refusal.{bad_settings}
use Rattle.list.proofs.settings.are_bad.Goals as goal

pub returns-then-m-gt-DEEPEST_LEVEL : goal.returns-then-m-gt-DEEPEST_LEVEL
unfolding bad_settings
returns-then-m-gt-DEEPEST_LEVEL c = simp (lt-ltb _ _ c.if-m-gt-DEEPEST_LEVEL.true)

pub returns-then-s-eq0 : goal.returns-then-s-eq0
unfolding bad_settings
returns-then-s-eq0 c = simp (le-ltb _ _ c.if-m-gt-DEEPEST_LEVEL.false, eq-eqb _ _ c.if-s-eq0.true)

pub returns : goal.returns
unfolding bad_settings
returns c = simp (le-ltb _ _ c.if-m-gt-DEEPEST_LEVEL.false, ne_eqb _ _ c.if-s-eq0.false)
