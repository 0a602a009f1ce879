-- What was counted of a node that the check passes is kept at the block's number.
use Rattle.summary.proofs.KeptRows.{block_asked, block_kept}
use Rattle.summary.proofs.kept.keep_block.Goals as goal

pub pass_block-requires : goal.pass_block-requires
pass_block-requires c = block_asked c.requires

pub returns : goal.returns
returns c = block_kept c.requires c.in_ok-end.ensures
