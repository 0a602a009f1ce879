-- `fill::fill_run`: one place more has the feature. Rests on Filling.
use Rattle.std.proofs.Common.{◌≡◌, ◌+◌, arith}
use Rattle.read.proofs.Filling.{places_begin, place_goes}
use Rattle.read.proofs.fill.fill_run.Goals as goal

pub loop-column-init : goal.loop-column-init
loop-column-init g c =
    let e : c.args.from + 0 ≡ c.args.from = omega arith in
    rw e (places_begin _ _ _ _ (omega arith))

pub loop-column-preserved : goal.loop-column-preserved
loop-column-preserved g c =
    let e : c.args.from + (c.loop-column.column + 1) ≡ c.args.from + c.loop-column.column + 1 = omega arith in
    rw e (place_goes c.loop-column.invariant (omega arith))
