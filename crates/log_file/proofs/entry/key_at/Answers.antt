-- `entry::key_at`: the key lies where the layout says. Rests on InBytes.
use Rattle.std.proofs.Common.{arith, ◌+◌, ◌∙◌}
use Rattle.log_file.proofs.InBytes.{laid_first, key_in}
use Rattle.log_file.proofs.entry.key_at.Goals as goal

pub key_at-requires : goal.key_at-requires
key_at-requires c = laid_first _ (c.args.i + 1) (omega arith) (let h = c.requires in omega arith)

pub returns : goal.returns
returns c = c.key_at.ensures ∙ key_in c.args.bytes.now c.args.i c.requires
