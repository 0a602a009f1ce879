-- `meets` meets its contract, by the meeting of the block with as much of the step as concerns it.
use Rattle.keys.proofs.BlockChild.{end_in-map}
use Rattle.apply_deed.proofs.Asked.{block_here}
use Rattle.apply_deed.proofs.Recounted.{counted_asked, apart_passed, met_counted}
use Rattle.apply_deed.proofs.recount.meets.Goals as goal
use Rattle.apply_deed.proofs.recount.meets.Goals.{in-Apart, in_default}

pub narrowed-requires : goal.narrowed-requires
narrowed-requires c = let asked = counted_asked c.counted_block-block.ensures c.requires.0 c.requires.1 in end_in-map _ asked.deep asked.block

pub meeting-met-requires : goal.meeting-met-requires
meeting-met-requires c =
    let asked = counted_asked c.counted_block-block.ensures c.requires.0 c.requires.1 in
    block_here c.narrowed.ensures.m_is asked.deep asked.block

pub returns : goal.returns
returns c =
    elim c.match-matches.branch [
      | in-Apart w ↦ rw w.matches-is (apart_passed c.requires.1 c.counted_block-block.ensures c.narrowed.ensures.same c.meeting-met.ensures w.in-Apart.is)
      | in_default w ↦ rw w.matches-is met_counted
    ]
