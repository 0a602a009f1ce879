-- Sixteen alike pixels have one record. Rests on CountBlock.
use Rattle.build.proofs.CountBlock.{tallied_one}
use Rattle.build.proofs.small.SixteenSmall.count.Goals as goal

pub returns-then-sixteen_alike : goal.returns-then-sixteen_alike
returns-then-sixteen_alike c = tallied_one 2 (c.sixteen_alike.ensures c.if-sixteen_alike.true) c.count.ensures
