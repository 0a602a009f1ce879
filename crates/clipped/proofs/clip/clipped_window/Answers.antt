-- `clip::clipped_window` meets its contract: the side is that of the raster, and each number of the window is the overlap's.
use Rattle.clipped.proofs.Lines.{same_start, same_length, clipped_window_of}
use Rattle.clipped.proofs.clip.clipped_window.Goals as goal

pub returns : goal.returns
returns c =
    clipped_window_of _ _ _ _ c.side_of-side.ensures
    (same_start _ c.ranges.row c.not_before.ensures)
    (same_start _ c.ranges.column c.not_before-2.ensures)
    (same_length _ _ _ c.ranges.row c.overlap_length.ensures)
    (same_length _ _ _ c.ranges.column c.overlap_length-2.ensures)
