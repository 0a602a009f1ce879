-- `run_of` meets its contract.
use mathlib.Core.Path.{refl, sym, ◌∙◌}
use Rattle.deeds.proofs.run.run_of.Goals as goal

pub returns : goal.returns
returns c = (refl, refl, record { between = c.requires.1; told = λ o. sym c.is_ordered-ordered.ensures ∙ o })
