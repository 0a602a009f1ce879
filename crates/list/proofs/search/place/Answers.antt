-- `search::place` meets its contract: one before the count of the keys at or before x, of which there is one at least. Rests on Searched.
use Rattle.list.proofs.Searched.{some_found, place_found}
use Rattle.list.proofs.search.place.Goals as goal

pub overflow_sub-result : goal.overflow_sub-result
overflow_sub-result c = some_found _ c.requires _ c.up_to.ensures

pub returns : goal.returns
returns c = place_found _ c.requires _ c.up_to.ensures
