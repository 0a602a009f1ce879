-- `search::up_to_from` meets its contract: what the search keeps leaves one count at its end. Rests on Count and Searched.
use Rattle.list.proofs.Count.{bracket_end}
use Rattle.list.proofs.Searched.{count_of_all}
use Rattle.list.proofs.search.up_to_from.Goals as goal

pub returns : goal.returns
returns c = count_of_all _ _ _ (bracket_end c.requires.0 c.loop-low.invariant c.loop-low-test.false)
