-- `check_file::four_pixels`: the pixels that the loop has passed are those that the model has passed, at the step 1. Rests on FilePixels.
use Rattle.file.proofs.FilePixels.{PixelsIn}
use Rattle.file.proofs.check_file.four_pixels.Given as goal

abbrev pub invariant-loop-digit : goal.invariant-loop-digit
invariant-loop-digit l = PixelsIn l.width l.n l.file l.first l.key l.own l.next l.union l.digit
