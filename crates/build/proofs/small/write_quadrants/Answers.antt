-- `small::write_quadrants`: what is below four quadrants of any fixed side, one after the other, and then their own records. Rests on BuildInside,
-- FittingBlock and WrittenBlock.
use Rattle.std.proofs.Common.{◌∙◌, add-one, arith}
use Rattle.build.proofs.BuildInside.{inside_half}
use Rattle.build.proofs.FittingBlock.{fits_nw, fits_ne, fits_sw, fits_se, fits_four}
use Rattle.build.proofs.WrittenBlock.{written_quadrants}
use Rattle.build.proofs.small.write_quadrants.Goals as goal

pub write-nw-requires : goal.write-nw-requires
write-nw-requires g c =
    let e = c.SIDE-half.ensures ∙ g.met.Q.Small.side_is in
    let f = c.STEP-step.ensures ∙ g.met.Q.Small.step_is in
    let fits = rw add-one at c.requires.1 in
    (inside_half c.requires.0 e _ _ (omega arith) (omega arith), fits_nw _ _ _ _ _ _ _ _ e f fits)

pub write-ne-requires : goal.write-ne-requires
write-ne-requires g c =
    let e = c.SIDE-half.ensures ∙ g.met.Q.Small.side_is in
    let f = c.STEP-step.ensures ∙ g.met.Q.Small.step_is in
    let fits = rw add-one at c.requires.1 in
    (inside_half c.requires.0 e _ _ (omega arith) (omega arith), fits_ne _ _ _ _ _ _ _ _ e f fits c.write-nw.ensures)

pub write-sw-requires : goal.write-sw-requires
write-sw-requires g c =
    let e = c.SIDE-half.ensures ∙ g.met.Q.Small.side_is in
    let f = c.STEP-step.ensures ∙ g.met.Q.Small.step_is in
    let fits = rw add-one at c.requires.1 in
    (inside_half c.requires.0 e _ _ (omega arith) (omega arith), fits_sw _ _ _ _ _ _ _ _ e f fits c.write-nw.ensures c.write-ne.ensures)

pub write-se-requires : goal.write-se-requires
write-se-requires g c =
    let e = c.SIDE-half.ensures ∙ g.met.Q.Small.side_is in
    let f = c.STEP-step.ensures ∙ g.met.Q.Small.step_is in
    let fits = rw add-one at c.requires.1 in (
      inside_half c.requires.0 e _ _ (omega arith) (omega arith),
      fits_se _ _ _ _ _ _ _ _ e f fits c.write-nw.ensures c.write-ne.ensures c.write-sw.ensures,
    )

pub write_four-requires : goal.write_four-requires
write_four-requires g c =
    let e = c.SIDE-half.ensures ∙ g.met.Q.Small.side_is in
    let f = c.STEP-step.ensures ∙ g.met.Q.Small.step_is in
    let fits = rw add-one at c.requires.1 in
    fits_four _ _ _ _ _ _ _ _ e f fits c.write-nw.ensures c.write-ne.ensures c.write-sw.ensures c.write-se.ensures

pub returns : goal.returns
returns g c =
    let e = c.SIDE-half.ensures ∙ g.met.Q.Small.side_is in
    let f = c.STEP-step.ensures ∙ g.met.Q.Small.step_is in
    rw add-one
    (written_quadrants _ _ _ _ _ _ _ _ e f c.write-nw.ensures c.write-ne.ensures c.write-sw.ensures c.write-se.ensures c.write_four.ensures)
