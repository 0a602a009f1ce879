-- `recount` meets its contract: after each turn the places of one block more are those of the new list.
use Rattle.std.proofs.Common.{sym, ◌∙◌, arith}
use Rattle.summary.proofs.CountedUpTo.{counted_none, counted_long, counted_all, counted_renewed, counted_kept}
use Rattle.apply_deed.proofs.Recounted.{outdated_long, passed_kept, passed_map}
use Rattle.apply_deed.proofs.recount.recount.Goals as goal
use Rattle.apply_deed.proofs.recount.recount.Goals.{then-meets, else-meets}

pub loop-b-init : goal.loop-b-init
loop-b-init c = counted_none _ _ _ _ (outdated_long c.requires.step_outdated)

pub meets-requires : goal.meets-requires
meets-requires c = rw c.requires.same_map (c.args.list.now.deepest, omega (arith, c.number_of-b-end.ensures))

pub renew-requires : goal.renew-requires
renew-requires c = record {
  deep = c.args.list.now.deepest;
  few = c.requires.step_outdated.few;
  order = omega arith;
  most = omega (arith, c.number_of-b-end.ensures);
  long = counted_long _ _ _ _ (outdated_long c.requires.step_outdated) (omega (arith, c.number_of-b-end.ensures)) c.loop-b.invariant;
}

pub loop-b-preserved : goal.loop-b-preserved
loop-b-preserved c =
    let long = outdated_long c.requires.step_outdated in
    elim c.if-meets.branch [
      | then-meets w ↦ counted_renewed _ _ _ _ long (omega (arith, c.number_of-b-end.ensures)) c.loop-b.invariant _ (w.summary-is ∙ w.renew.ensures)
      | else-meets w ↦ rw w.summary-is (counted_kept _ _ _ _ long (omega (arith, c.number_of-b-end.ensures)) c.loop-b.invariant
          (passed_kept c.requires.step_outdated (omega (arith, c.number_of-b-end.ensures)) (passed_map c.requires.same_map c.meets.ensures) w.if-meets.false))
    ]

pub shape_of-summary : goal.shape_of-summary
shape_of-summary c =
    let long = outdated_long c.requires.step_outdated in
    counted_long _ _ _ _ long (omega (arith, c.number_of-b-end.ensures)) c.loop-b.invariant ∙ sym long

pub returns : goal.returns
returns c = counted_all _ _ _ _ (outdated_long c.requires.step_outdated) (omega (arith, c.number_of-b-end.ensures)) c.loop-b.invariant
