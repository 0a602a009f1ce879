-- `meeting_again` meets its contract.
use Rattle.keys.proofs.Valid.{block_valid}
use Rattle.deeds.proofs.ByEntries.{again_by_last}
use Rattle.deeds.proofs.entries.meeting_again.Goals as goal

pub by_last-requires : goal.by_last-requires
by_last-requires c = (c.requires.1.deep, (block_valid c.requires.1.block).valid, c.requires.0)

pub returns : goal.returns
returns c = again_by_last c.requires.0 c.requires.1 c.by_last.ensures
