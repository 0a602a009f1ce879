-- `pack::next_bit`: a record without a bit changes nothing of the string. Rests on Packing.
use Rattle.std.proofs.Common.{◌≡◌, length, arith}
use Rattle.bit_strings.proofs.Packing.{pick_skip, pick_bit, pick_end}
use Rattle.bit_strings.proofs.pack.next_bit.Goals as goal

pub returns-in-Some : goal.returns-in-Some
returns-in-Some c = rw c.loop-place.invariant.0 (pick_bit _ _ _ c.loop-place.place c.loop-place.invariant.1 _ (omega arith) c.in-Some.ensures)

pub loop-place-preserved : goal.loop-place-preserved
loop-place-preserved c =
    let same = c.loop-place.invariant.0 in
    (omega arith, pick_skip _ _ c.args.at c.loop-place.place c.loop-place.invariant.1 (omega arith) c.in_default.ensures)

pub returns : goal.returns
returns c =
    let same = c.loop-place.invariant.0 in
    let end : c.loop-place.after ≡ length c.args.values.now = omega arith in
    rw end (pick_end _ _ _ c.loop-place.place c.loop-place.invariant.1 (omega arith))
