-- `Accepted::stand` meets its contract: the step is that of the key's height, and the search can begin with the root's record. Rests on Fuller.
use mathlib.Core.Path.{◌∙◌}
use Rattle.keys.proofs.LastZeros.{keys_height}
use Rattle.list.proofs.Fuller.{near_root}
use Rattle.list.proofs.accepted_list.Accepted.stand.Goals as goal

pub stand_from-requires : goal.stand_from-requires
stand_from-requires c = (c.requires, c.keys_in-step.ensures ∙ keys_height _ _ c.requires, near_root c.args.self.now.own _)
