-- The waiver at the place is passed where it begins before the block's end.
use Prim.Native.Nat.{◌+◌}
use mathlib.Core.Path.{sym, ap, ◌∙◌}
use native.Mathlib.Omega.{arith}
use lib.Dec.{leb}
use lib.ListN.{get_or, drop}
use Rattle.keys.specs.Key.{valid_key}
use Rattle.finding.specs.Covering.{end_of, Waived}
use Rattle.finding.proofs.Settling.{begins, goes, settled, none_left, late_left, waived_at, later_at, later_length}
use Rattle.finding.proofs.waivers.merge.Goals as goal
use Rattle.finding.proofs.waivers.merge.Goals.{else-loop-waiver-test, then-loop-waiver-test+then-end-waiver}

pub loop-waiver-init : goal.loop-waiver-init
loop-waiver-init c = (omega arith, begins _ c.args.key _ _ _ c.start.ensures (omega arith) c.requires.3)

pub cover-at-requires : goal.cover-at-requires
cover-at-requires c =
    let size = later_length c.args.waived.now c.args.from c.requires.3.room in
    let inside = c.loop-waiver-test.true in
    (c.requires.0, ap (valid_key c.args.m) (later_at c.args.waived.now c.args.from c.loop-waiver.waiver-index) ∙ waived_at c.requires.2 (c.args.from + c.loop-waiver.waiver-index) (omega arith))

pub loop-waiver-preserved : goal.loop-waiver-preserved
loop-waiver-preserved c =
    let size = later_length c.args.waived.now c.args.from c.requires.3.room in
    let at = c.loop-waiver.invariant.0 in
    let inside = c.loop-waiver-test.true in (
      omega arith,
      goes _ c.loop-waiver.invariant.1 (omega arith) _ c.cover-at.result.furthest c.cover-at.result.next
          (later_at c.args.waived.now c.args.from c.loop-waiver.waiver-index ∙ ap (λ i. get_or c.args.waived.now i 0) (sym at))
          (omega (arith, c.if-end-waiver.false, c.end_of-end.ensures)) c.cover-at.ensures.0 c.cover-at.ensures.1,
    )

pub returns : goal.returns
returns c =
    let size = later_length c.args.waived.now c.args.from c.requires.3.room in
    let at = c.loop-waiver.invariant.0 in
    let end = c.end_of-end.ensures in
    let rest : Waived c.args.m (end_of c.args.m c.args.key) (drop c.loop-waiver.place c.args.waived.now) = elim c.loop-waiver-test.branch [
      | else-loop-waiver-test w ↦ none_left _ c.loop-waiver.place (end_of c.args.m c.args.key) (omega (arith, w.loop-waiver-test.false))
      | then-loop-waiver-test+then-end-waiver w ↦
          late_left _ c.loop-waiver.place (end_of c.args.m c.args.key) _ c.requires.2 (omega (arith, w.loop-waiver-test.true))
          (later_at c.args.waived.now c.args.from c.loop-waiver.waiver-index ∙ ap (λ i. get_or c.args.waived.now i 0) (sym at)) (omega (arith, w.if-end-waiver.true))
    ] in
    record {
      hidden = ap (λ x. leb x c.loop-waiver.at.next) end ∙ settled _ c.args.key c.requires.1 c.requires.2 c.requires.3 c.loop-waiver.invariant.1 rest;
      passed = c.loop-waiver.invariant.1.passed;
    }
