-- `clear` meets its contract: the library's fill is one run of `sets`.
use Rattle.slices.proofs.Writes.{written_zeros}
use Rattle.slices.proofs.clear.Goals as goal

pub returns : goal.returns
returns c = written_zeros _ _ _ _ c.requires.0 c.requires.1 (c.fill.ensures.after (λ y zero. zero))
