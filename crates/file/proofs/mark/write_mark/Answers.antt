-- `mark::write_mark`: the three bytes are written into the front. Rests on the writes to slices.
use Rattle.std.proofs.Common.{arith, ap, ◌∙◌, ◌++◌, drop}
use Rattle.slices.proofs.Writes.{written_run}
use Rattle.file.proofs.mark.write_mark.Goals as goal

pub returns : goal.returns
returns c =
    ap (λ bytes. bytes ++ drop 3 c.args.file.now) c.copy_from_slice.ensures.after ∙ written_run c.args.file.now c.args.mark 0 3 c.requires (omega arith)
