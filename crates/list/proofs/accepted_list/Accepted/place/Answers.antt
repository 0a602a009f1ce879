-- `Accepted::place` meets its contract: the keys of an accepted list are sorted for every search. Rests on Own.
use Rattle.list.proofs.Own.{own_sorted}
use Rattle.list.proofs.accepted_list.Accepted.place.Goals as goal

pub place-requires : goal.place-requires
place-requires c = own_sorted c.args.self.now.own _
