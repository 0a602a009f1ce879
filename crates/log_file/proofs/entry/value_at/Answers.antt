-- `entry::value_at`: the value lies where the layout says. Rests on InBytes.
use Rattle.std.proofs.Common.{arith, ◌+◌, ◌∙◌}
use Rattle.log_file.proofs.InBytes.{laid_first, value_in}
use Rattle.log_file.proofs.entry.value_at.Goals as goal

pub bits_at-requires : goal.bits_at-requires
bits_at-requires c = laid_first _ (c.args.i + 1) (omega arith) (let h = c.requires in omega arith)

pub returns : goal.returns
returns c = c.bits_at.ensures ∙ value_in c.args.bytes.now c.args.i c.requires
