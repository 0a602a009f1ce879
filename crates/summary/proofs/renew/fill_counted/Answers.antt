-- All blocks written from what is counted are the summary.
use Rattle.list.specs.Taken.{picture_listed}
use Rattle.summary.proofs.Renewed.{summary_filled}
use Rattle.summary.proofs.renew.fill_counted.Goals as goal

pub returns : goal.returns
returns c =
    summary_filled _ _ (picture_listed c.args.counted.now.list) c.args.summary.now _ _ c.number_of-blocks.ensures c.requires.1 c.write_blocks.ensures
