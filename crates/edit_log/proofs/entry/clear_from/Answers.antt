-- `entry::clear_from`: both slices are cleared, where there is something to clear. Rests on Written.
use Rattle.std.proofs.Common.{arith}
use Rattle.edit_log.proofs.Written.{both_cleared}
use Rattle.edit_log.proofs.entry.clear_from.Goals as goal

pub returns : goal.returns
returns c = both_cleared (omega arith) c.requires c.clear.ensures c.clear-2.ensures
