-- Below a pixel nothing is written. Rests on WrittenBlock.
use Rattle.std.proofs.Common.{refl}
use Rattle.build.proofs.WrittenBlock.{written_pixel}
use Rattle.build.proofs.small.PixelSmall.write.Goals as goal

pub returns : goal.returns
returns c = written_pixel _ _ _ _ _ _ _ _ _ c.pixel-bits.ensures refl
