-- `search::place_from` meets its contract: the key that is looked for stands where the search begins, or next to it; or its place is one before the count of
-- the keys at or before it, of which there is one at least. Rests on Searched.
use native.Mathlib.Omega.{arith}
use Rattle.list.proofs.Searched.{some_found, place_found, place_seen}
use Rattle.list.proofs.search.place_from.Goals as goal

pub returns-then-own-x : goal.returns-then-own-x
returns-then-own-x c = place_seen _ c.requires.0.ascends _ _ c.requires.1.room c.if-own-x.true

pub returns-then-key-x : goal.returns-then-key-x
returns-then-key-x c = place_seen _ c.requires.0.ascends _ _ (omega arith) c.if-key-x.true

pub overflow_sub-result : goal.overflow_sub-result
overflow_sub-result c = some_found _ c.requires.0 _ c.up_to_from.ensures

pub returns : goal.returns
returns c = place_found _ c.requires.0 _ c.up_to_from.ensures
