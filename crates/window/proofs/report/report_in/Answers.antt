-- `report::report_in` meets its contract: a block that lies apart from the window or that its bits settle is passed, and else its first quadrant is entered.
-- Rests on walk's Going and on Gathered.
use Prim.Native.Nat.{◌+◌}
use mathlib.Core.Path.{sym, ◌∙◌, ap}
use native.Mathlib.Omega.{arith}
use lib.ListN.{length, get_or}
use Rattle.list.specs.Taken.{picture_listed}
use Rattle.walk.proofs.Lies.{small}
use Rattle.walk.proofs.Steps.{few_keys, clear_apart, clear_first, cut_parent, first_less}
use Rattle.walk.proofs.Asked.{asked_place, near_place}
use Rattle.walk.proofs.Told.{told_place, told_holds, told_whole}
use Rattle.walk.proofs.Going.{WalkPast, going_root, going_first, past_unasked, past_told, going_on, going_less}
use Rattle.window.proofs.PassedLeaf.{past_leaf}
use Rattle.window.proofs.Gathered.{Gathered, gathered_none, gathered_clear, gathered_settled, not_settled, gathered_end}
use Rattle.window.proofs.report.report_in.Goals as goal
use Rattle.window.proofs.report.report_in.Goals.{After-after, then-apart, else-apart+then-is_settled+then-is_short, else-apart+then-is_settled+else-is_short}

pub loop-place-init : goal.loop-place-init
loop-place-init c = (going_root c.args.list.now.own c.start-spot.ensures.0, gathered_none _ _ _ _ c.start-spot.ensures.1)

pub apart-requires : goal.apart-requires
apart-requires c = small _ _ _ c.args.list.now.deepest c.requires c.loop-place-2.invariant.0.stands

pub offset_bounds-list-place : goal.offset_bounds-list-place
offset_bounds-list-place c =
    let list = c.args.list.now in
    let found = asked_place list.own c.loop-place-2.invariant.0.stands.block _ c.place_from-place.ensures in
    omega (arith, found.room, list.paired, c.well_formed)

pub bounds-list-place : goal.bounds-list-place
bounds-list-place c =
    let list = c.args.list.now in
    let found = asked_place list.own c.loop-place-2.invariant.0.stands.block _ c.place_from-place.ensures in
    omega (arith, found.room, list.paired)

pub is_settled-requires : goal.is_settled-requires
is_settled-requires c = small _ _ _ c.args.list.now.deepest c.requires c.loop-place-2.invariant.0.stands

pub ask-told-requires : goal.ask-told-requires
ask-told-requires c = (c.loop-place-2.invariant.0.stands, near_place c.args.list.now.own _ _ c.place_from-place.ensures)

pub first-spot-requires : goal.first-spot-requires
first-spot-requires c = few_keys c.args.list.now.deepest c.loop-place-2.invariant.0.stands

pub loop-place-2-smaller : goal.loop-place-2-smaller
loop-place-2-smaller c = rw c.first-spot.ensures (first_less c.loop-place-2.invariant.0.stands)

pub loop-place-2-preserved : goal.loop-place-2-preserved
loop-place-2-preserved c =
    let at = c.loop-place-2.invariant in
    let cut = not_settled _ _ _ _ (sym c.is_settled.ensures ∙ c.if-is_settled.false) in
    let parent = cut_parent _ at.0.stands cut (sym c.apart.ensures ∙ c.if-apart.false) in
    let near = near_place c.args.list.now.own _ _ c.place_from-place.ensures in
    rw c.first-spot.ensures
    (going_first at.0 parent _ near, gathered_clear _ _ _ _ _ _ at.1 (clear_first _ c.requires parent))

-- a block is passed
past : (c : After-after) → WalkPast c.args.list.now.m c.args.list.now.keys.now (length c.args.list.now.keys.now) c.if-apart.from c.loop-place.spot.key c.if-apart.spot
past c =
    let list = c.args.list.now in
    let at = c.loop-place-2.invariant.0 in
    elim c.if-apart.branch [
      | then-apart w ↦ rw (w.spot-is, w.from-is) (past_unasked at)
      | else-apart+then-is_settled+then-is_short w ↦ rw (w.spot-is, w.from-is) (past_leaf at _ (near_place list.own _ _ w.place_from-place.ensures))
      | else-apart+then-is_settled+else-is_short w ↦ rw (w.spot-is, w.from-is) (past_told list.deepest list.own at w.ask-told.ensures)
    ]

-- the union has what it adds
passed : (c : After-after) → Gathered c.args.list.now.m (picture_listed c.args.list.now) c.args.window c.if-apart.union (c.if-apart.spot.key + c.if-apart.spot.step)
passed c =
    let list = c.args.list.now in
    let stands = c.loop-place-2.invariant.0.stands in
    let g = c.loop-place-2.invariant.1 in
    let good = c.requires in
    let apart = c.apart.ensures in
    elim c.if-apart.branch [
      | then-apart w ↦ rw (w.union-is, w.spot-is) (gathered_clear _ _ _ _ _ _ g (clear_apart _ good stands (sym apart ∙ w.if-apart.true)))
      | else-apart+then-is_settled+then-is_short w ↦
          let value = (asked_place list.own stands.block _ w.place_from-place.ensures).value in
          rw (w.union-is, w.spot-is)
          (gathered_settled _ _ _ good stands stands (omega arith) _ _ value value g (sym apart ∙ w.if-apart.false) (sym w.is_settled.ensures ∙ w.if-is_settled.true))
      | else-apart+then-is_settled+else-is_short w ↦
          let told = w.ask-told.ensures in
          let place = told_place list.deepest list.own stands told ∙ sym w.place_from-place.ensures in
          let all = ap (λ i. get_or list.bits.now i 0) (sym place) ∙ told_whole list.deepest list.own stands told in
          rw (w.union-is, w.spot-is)
          (gathered_settled _ _ _ good stands told.whole (told_holds list.deepest list.own stands told).0 _ _ (asked_place list.own stands.block _ w.place_from-place.ensures).value
          all g (sym apart ∙ w.if-apart.false) (sym w.is_settled.ensures ∙ w.if-is_settled.true))
    ]

pub returns-in_default : goal.returns-in_default
returns-in_default c = gathered_end _ _ _ _ _ c.in_default.ensures (passed (goal.at.returns-in_default c).After-after)

pub loop-place-smaller : goal.loop-place-smaller
loop-place-smaller c = going_less c.loop-place.invariant.0.stands (past (goal.at.loop-place-smaller c).After-after) _ c.in-Some.ensures.1

pub loop-place-preserved : goal.loop-place-preserved
loop-place-preserved c =
    let end = (goal.at.loop-place-preserved c).After-after in
    let next = c.in-Some.ensures in
    (going_on (past end) _ next.0 next.1, rw next.1 (passed end))
