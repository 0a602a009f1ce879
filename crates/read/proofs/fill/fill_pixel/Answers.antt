-- `fill::fill_pixel`: one store fills a square of one pixel.
use Rattle.read.proofs.Filling.{one_place, one_row}
use Rattle.read.proofs.fill.fill_pixel.Goals as goal

pub returns : goal.returns
returns c = one_row _ _ _ _ _ c.requires (one_place _ _ _)
