-- `start` meets its contract: the root is a block of the map.
use mathlib.Core.Path.{refl}
use Rattle.keys.specs.Under.{here}
use Rattle.walk.proofs.start.Goals as goal

pub returns : goal.returns
returns c =
    (record { height = _; block = here; side = c.power_of_two.ensures; step = c.power_of_five.ensures }, refl)
