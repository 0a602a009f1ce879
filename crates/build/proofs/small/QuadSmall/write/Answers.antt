-- Four alike pixels are written as one. Rests on BuildInside, FittingBlock and WrittenBlock.
use Rattle.std.proofs.Common.{arith}
use Rattle.build.proofs.BuildInside.{inside_pixel}
use Rattle.build.proofs.FittingBlock.{fitting_pixel}
use Rattle.build.proofs.WrittenBlock.{written_wider}
use Rattle.build.proofs.small.QuadSmall.write.Goals as goal

pub write-requires : goal.write-requires
write-requires c = (inside_pixel c.requires.0 _ _ (omega arith) (omega arith), fitting_pixel c.requires.1)

pub returns-then-quad_alike : goal.returns-then-quad_alike
returns-then-quad_alike c = written_wider 1 (c.quad_alike.ensures c.if-quad_alike.true) c.write.ensures
