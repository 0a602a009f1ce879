-- Sixteen alike pixels are written as one. Rests on BuildInside, FittingBlock and WrittenBlock.
use Rattle.std.proofs.Common.{arith}
use Rattle.build.proofs.BuildInside.{inside_pixel}
use Rattle.build.proofs.FittingBlock.{fitting_pixel}
use Rattle.build.proofs.WrittenBlock.{written_wider}
use Rattle.build.proofs.small.SixteenSmall.write.Goals as goal

pub write-requires : goal.write-requires
write-requires c = (inside_pixel c.requires.0 _ _ (omega arith) (omega arith), fitting_pixel c.requires.1)

pub returns-then-sixteen_alike : goal.returns-then-sixteen_alike
returns-then-sixteen_alike c = written_wider 2 (c.sixteen_alike.ensures c.if-sixteen_alike.true) c.write.ensures
