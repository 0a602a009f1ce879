-- A pixel has the bits of its one feature, and one record. Rests on CountBlock.
use Rattle.build.proofs.CountBlock.{tallied_pixel}
use Rattle.build.proofs.small.PixelSmall.count.Goals as goal

pub returns : goal.returns
returns c = tallied_pixel _ _ _ _ c.pixel-bits.ensures
