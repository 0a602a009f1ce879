-- `small::count_four`: the tallies of four quadrants of any fixed side, joined. Rests on CountBlock.
use Rattle.std.proofs.Common.{◌∙◌, add-one}
use Rattle.build.proofs.CountBlock.{tallied_four, tallied_small}
use Rattle.build.proofs.small.count_four.Goals as goal

pub joined-requires : goal.joined-requires
joined-requires g c =
    let low = g.met.Q.Small.low in (
      tallied_small c.count-nw.ensures low,
      tallied_small c.count-ne.ensures low,
      tallied_small c.count-sw.ensures low,
      tallied_small c.count-se.ensures low,
    )

pub returns : goal.returns
returns g c =
    rw add-one
    (tallied_four _ _ _ _ _
    (c.SIDE-half.ensures ∙ g.met.Q.Small.side_is)
    c.count-nw.ensures
    c.count-ne.ensures
    c.count-sw.ensures
    c.count-se.ensures
    c.joined.ensures)
