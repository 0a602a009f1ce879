-- `clip::not_before` meets its contract: a line before the raster does not fit without a sign.
use mathlib.Core.Path.{◌∙◌}
use Rattle.clipped.proofs.Lines.{line_or_none, bits_fit, same_start}
use Rattle.clipped.proofs.clip.not_before.Goals as goal

pub returns : goal.returns
returns c = same_start _ c.ranges.start (c.unwrap_or.ensures ∙ line_or_none c.try_from.result _ (bits_fit _ c.ranges.start) c.try_from.ensures)
