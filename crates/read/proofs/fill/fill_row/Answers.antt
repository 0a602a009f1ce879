-- `fill::fill_row`: the library's fill paints one run. Rests on Filling.
use Rattle.read.proofs.Filling.{part_filled}
use Rattle.read.proofs.fill.fill_row.Goals as goal

pub returns : goal.returns
returns c = part_filled _ _ _ _ _ c.requires.0 c.requires.1 (c.fill.ensures.after (λ y same. same))
