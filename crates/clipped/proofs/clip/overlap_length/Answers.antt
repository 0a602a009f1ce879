-- `clip::overlap_length` meets its contract, by the sign of the first line: each case is one of the overlap's laws.
use Prim.Native.Nat.{min}
use mathlib.Core.Path.{ap, ◌∙◌}
use Rattle.clipped.proofs.Lines.{common_from, common_before, bits_fit, same_length}
use Rattle.clipped.proofs.clip.overlap_length.Goals as goal

pub returns-in-Ok : goal.returns-in-Ok
returns-in-Ok c =
    let fits = c.in-Ok.ensures in
    same_length _ _ _ c.ranges.start (common_from _ _ _ fits.0 fits.1 (c.min.ensures ∙ ap (λ left. min c.args.length left) c.saturating_sub.ensures))

pub returns-in-Err : goal.returns-in-Err
returns-in-Err c =
    same_length _ _ _ c.ranges.start
    (common_before _ _ _ (bits_fit _ c.ranges.start) c.in-Err.ensures c.unsigned_abs.ensures.value
    (c.min-in-Err.ensures ∙ ap (λ left. min left c.args.side) c.saturating_sub-in-Err.ensures))
