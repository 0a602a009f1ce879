-- `lies` meets its contract, by the two tests.
use mathlib.Core.Path.{sym, ◌∙◌}
use Rattle.walk.proofs.Lies.{lie_apart, lie_within, lie_cut}
use Rattle.walk.proofs.lying.lies.Goals as goal

pub returns-then-apart : goal.returns-then-apart
returns-then-apart c = lie_apart _ _ (sym c.apart.ensures ∙ c.if-apart.true)

pub returns-then-within : goal.returns-then-within
returns-then-within c = lie_within _ _ (sym c.apart.ensures ∙ c.if-apart.false) (sym c.within.ensures ∙ c.if-within.true)

pub returns-else-within : goal.returns-else-within
returns-else-within c = lie_cut _ _ (sym c.apart.ensures ∙ c.if-apart.false) (sym c.within.ensures ∙ c.if-within.false)
