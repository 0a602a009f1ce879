-- `meeting_back` meets its contract.
use Rattle.keys.proofs.Valid.{block_valid}
use Rattle.deeds.proofs.ByEntries.{back_by_first, back_by_last}
use Rattle.deeds.proofs.entries.meeting_back.Goals as goal

pub by_last-requires : goal.by_last-requires
by_last-requires c = (c.requires.1.deep, (block_valid c.requires.1.block).valid, c.requires.0)

pub returns-then-run : goal.returns-then-run
returns-then-run c = back_by_last c.requires.0 c.requires.1 c.if-run.true c.by_last.ensures

pub by_first-requires : goal.by_first-requires
by_first-requires c = (c.requires.1.deep, (block_valid c.requires.1.block).valid, c.requires.0)

pub returns : goal.returns
returns c = back_by_first c.requires.0 c.requires.1 c.by_first.ensures
