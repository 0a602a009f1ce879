-- `Key::height` meets its contract: a valid key has as many zeros at its end as levels below its block.
use mathlib.Core.Path.{◌∙◌}
use Rattle.keys.proofs.LastZeros.{zeros_height}
use Rattle.keys.proofs.Key.height.Goals as goal

pub returns : goal.returns
returns c = c.at_end.ensures.0 ∙ zeros_height _ _ c.requires.1
