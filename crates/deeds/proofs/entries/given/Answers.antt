-- `given` meets its contract: the content, or the feature.
use Rattle.deeds.proofs.EntryTurns.{given_again}
use Rattle.deeds.proofs.entries.given.Goals as goal

pub returns-in-Again : goal.returns-in-Again
returns-in-Again c = rw c.in-Again.is (given_again _ _ _ _ c.power_of_two.ensures)
