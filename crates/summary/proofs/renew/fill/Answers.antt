-- All blocks counted anew are the summary.
use Rattle.list.specs.Taken.{picture_listed}
use Rattle.summary.proofs.Renewed.{summary_filled}
use Rattle.summary.proofs.renew.fill.Goals as goal

pub returns : goal.returns
returns c =
    summary_filled _ _ (picture_listed c.args.list.now) c.args.summary.now _ _ c.number_of.ensures c.requires.1 c.renew.ensures
