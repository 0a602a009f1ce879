-- `holds` meets its contract.
use mathlib.Core.Path.{◌∙◌}
use Rattle.keys.proofs.LastZeros.{keys_height}
use Rattle.deeds.proofs.EntryTurns.{not_from, from_so}
use Rattle.deeds.proofs.entries.holds.Goals as goal

pub returns-then-inner-outer : goal.returns-then-inner-outer
returns-then-inner-outer c = not_from _ _ _ c.if-inner-outer.true

pub returns : goal.returns
returns c = from_so _ _ _ _ c.if-inner-outer.false (c.keys_in.ensures ∙ keys_height _ _ c.requires.1)
