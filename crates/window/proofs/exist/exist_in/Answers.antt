-- `exist::exist_in` meets its contract: a block that lies apart from the window or that its record settles is passed, and else its first quadrant is entered.
-- Rests on walk's Going and on Seen.
use Prim.Native.Nat.{◌+◌}
use mathlib.Core.Path.{sym, ◌∙◌, ap}
use native.Mathlib.Omega.{arith}
use lib.ListN.{length, get_or}
use Rattle.list.specs.Taken.{picture_listed}
use Rattle.walk.proofs.Lies.{small}
use Rattle.walk.proofs.Steps.{few_keys, clear_apart, clear_first, cut_parent, first_less}
use Rattle.walk.proofs.Asked.{asked_place, near_place}
use Rattle.walk.proofs.Told.{told_place, told_holds, told_whole}
use Rattle.walk.proofs.Going.{WalkPast, going_root, going_first, past_unasked, past_told, going_on, going_less}
use Rattle.window.proofs.PassedLeaf.{past_leaf}
use Rattle.window.proofs.Seen.{Unseen, unseen_none, unseen_clear, unseen_lower, unseen_block, seen_block, seen_whole, unseen_end}
use Rattle.walk.proofs.Shows.{bits_no, bits_yes, bits_alone}
use Rattle.window.proofs.exist.exist_in.Goals as goal
use Rattle.window.proofs.exist.exist_in.Goals.{After-after, then-apart, else-apart+then-found-bit-eq0+then-is_short, else-apart+then-found-bit-eq0+else-is_short}

pub walk-init : goal.walk-init
walk-init c = (going_root c.args.list.now.own c.start-spot.ensures.0, unseen_none _ _ _ _ _ c.start-spot.ensures.1)

pub apart-requires : goal.apart-requires
apart-requires c = small _ _ _ c.args.list.now.deepest c.requires.0 c.loop-place.invariant.0.stands

pub offset_bounds-list-place : goal.offset_bounds-list-place
offset_bounds-list-place c =
    let list = c.args.list.now in
    let found = asked_place list.own c.loop-place.invariant.0.stands.block _ c.place_from-place.ensures in
    omega (arith, found.room, list.paired, c.well_formed)

pub bounds-list-place : goal.bounds-list-place
bounds-list-place c =
    let list = c.args.list.now in
    let found = asked_place list.own c.loop-place.invariant.0.stands.block _ c.place_from-place.ensures in
    omega (arith, found.room, list.paired)

pub ask-told-requires : goal.ask-told-requires
ask-told-requires c = (c.loop-place.invariant.0.stands, near_place c.args.list.now.own _ _ c.place_from-place.ensures)

pub within-requires : goal.within-requires
within-requires c = small _ _ _ c.args.list.now.deepest c.requires.0 c.loop-place.invariant.0.stands

pub first-spot-requires : goal.first-spot-requires
first-spot-requires c = few_keys c.args.list.now.deepest c.loop-place.invariant.0.stands

pub loop-place-smaller : goal.loop-place-smaller
loop-place-smaller c = rw c.first-spot.ensures (first_less c.loop-place.invariant.0.stands)

pub loop-place-preserved : goal.loop-place-preserved
loop-place-preserved c =
    let at = c.loop-place.invariant in
    let parent = cut_parent _ at.0.stands (sym c.within.ensures ∙ c.if-within.false) (sym c.apart.ensures ∙ c.if-apart.false) in
    let near = near_place c.args.list.now.own _ _ c.place_from-place.ensures in
    rw c.first-spot.ensures
    (going_first at.0 parent _ near, unseen_clear _ _ _ _ _ _ at.1 (clear_first _ c.requires.0 parent))

-- a block is passed
past : (c : After-after) → WalkPast c.args.list.now.m c.args.list.now.keys.now (length c.args.list.now.keys.now) c.if-apart.from c.walk.spot.key c.if-apart.spot
past c =
    let list = c.args.list.now in
    let at = c.loop-place.invariant.0 in
    elim c.if-apart.branch [
      | then-apart w ↦ rw (w.spot-is, w.from-is) (past_unasked at)
      | else-apart+then-found-bit-eq0+then-is_short w ↦ rw (w.spot-is, w.from-is) (past_leaf at _ (near_place list.own _ _ w.place_from-place.ensures))
      | else-apart+then-found-bit-eq0+else-is_short w ↦ rw (w.spot-is, w.from-is) (past_told list.deepest list.own at w.ask-told.ensures)
    ]

-- it holds no pixel of the window with the feature
passed : (c : After-after) → Unseen c.args.list.now.m (picture_listed c.args.list.now) c.args.window c.args.feature (c.if-apart.spot.key + c.if-apart.spot.step)
passed c =
    let list = c.args.list.now in
    let stands = c.loop-place.invariant.0.stands in
    let unseen = c.loop-place.invariant.1 in
    let good = c.requires.0 in
    let bit = c.power_of_two-bit.ensures in
    elim c.if-apart.branch [
      | then-apart w ↦ rw w.spot-is (unseen_clear _ _ _ _ _ _ unseen (clear_apart _ good stands (sym c.apart.ensures ∙ w.if-apart.true)))
      | else-apart+then-found-bit-eq0+then-is_short w ↦
          let none = bits_no _ stands _ _ bit _ (asked_place list.own stands.block _ w.place_from-place.ensures).value w.if-found-bit-eq0.true in
          rw w.spot-is (unseen_block _ _ _ _ good stands none unseen)
      | else-apart+then-found-bit-eq0+else-is_short w ↦
          let told = w.ask-told.ensures in
          let place = told_place list.deepest list.own stands told ∙ sym w.place_from-place.ensures in
          let bits = ap (λ i. get_or list.bits.now i 0) (sym place) ∙ told_whole list.deepest list.own stands told in
          let none = bits_no _ told.whole _ _ bit _ bits w.if-found-bit-eq0.true in
          rw w.spot-is (unseen_block _ _ _ _ good told.whole none (unseen_lower _ _ _ _ _ _ (told_holds list.deepest list.own stands told).0 unseen))
    ]

pub walk-smaller : goal.walk-smaller
walk-smaller c = going_less c.walk.invariant.0.stands (past (goal.at.walk-smaller c).After-after) _ c.in-Some.ensures.1

pub walk-preserved : goal.walk-preserved
walk-preserved c =
    let end = (goal.at.walk-preserved c).After-after in
    let next = c.in-Some.ensures in
    (going_on (past end) _ next.0 next.1, rw next.1 (passed end))

pub returns-then-found-bit : goal.returns-then-found-bit
returns-then-found-bit c =
    let at = c.loop-place.invariant.0.stands in
    let found = asked_place c.args.list.now.own at.block _ c.place_from-place.ensures in
    let whole = bits_alone _ at _ _ c.power_of_two-bit.ensures _ found.value c.if-found-bit.true in
    sym (seen_whole _ _ _ _ c.requires.0 at (sym c.apart.ensures ∙ c.if-apart.false) whole)

pub returns-then-within : goal.returns-then-within
returns-then-within c =
    let at = c.loop-place.invariant.0.stands in
    let found = asked_place c.args.list.now.own at.block _ c.place_from-place.ensures in
    let shows = bits_yes _ at _ _ c.power_of_two-bit.ensures _ found.value c.if-found-bit-eq0.false in
    sym (seen_block _ _ _ _ at (sym c.within.ensures ∙ c.if-within.true) shows)

pub returns-in_default : goal.returns-in_default
returns-in_default c = sym (unseen_end _ _ _ _ _ c.in_default.ensures (passed (goal.at.returns-in_default c).After-after))
