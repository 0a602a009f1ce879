-- `entry::write_entry`: the content in both slices, and behind it the closing records. Rests on Written.
use Rattle.std.proofs.Common.{refl}
use Rattle.edit_log.proofs.Written.{entry_written}
use Rattle.edit_log.proofs.entry.write_entry.Goals as goal

pub returns : goal.returns
returns c = entry_written c.requires c.copy.ensures c.copy-2.ensures refl refl
