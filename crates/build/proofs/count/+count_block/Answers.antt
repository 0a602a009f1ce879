-- `count::count_block`: a block of more than 8 by 8 pixels is its four quadrants' tallies, joined. Rests on BuildInside and CountBlock.
use Rattle.std.proofs.Common.{◌-◌, ◌<◌, ◌≤◌, sym, arith}
use Rattle.build.proofs.BuildInside.{one_above}
use Rattle.build.proofs.CountBlock.{tallied_four, tallied_small}
use Rattle.build.proofs.count.+count_block.Goals as goal

pub joined-requires : goal.joined-requires
joined-requires t c =
    let low : c.args.height - 1 ≤ 9 = omega (arith, c.requires.deep) in (
      tallied_small c.count_block-nw.ensures low,
      tallied_small c.count_block-ne.ensures low,
      tallied_small c.count_block-sw.ensures low,
      tallied_small c.count_block-se.ensures low,
    )

pub returns : goal.returns
returns t c =
    let tall : 0 < c.args.height = omega arith in
    rw (sym (one_above tall))
    (tallied_four _ _ _ _ _
    c.power_of_two-half.ensures
    c.count_block-nw.ensures
    c.count_block-ne.ensures
    c.count_block-sw.ensures
    c.count_block-se.ensures
    c.joined.ensures)
