-- `Accepted::place_from` meets its contract: the keys of an accepted list are sorted for every search. Rests on Own.
use Rattle.list.proofs.Own.{own_sorted}
use Rattle.list.proofs.accepted_list.Accepted.place_from.Goals as goal

pub place_from-requires : goal.place_from-requires
place_from-requires c = (own_sorted c.args.self.now.own _, c.requires)
