-- `select::gather` meets its contract: a block that lies apart from the window or lacks the feature is passed, and so is one of which the leaves or largest
-- blocks were given; a block that the window cuts is entered by its first quadrant. Rests on walk's Going and on Taken.
use Prim.Native.Nat.{ℕ, ◌+◌, ◌≤◌}
use mathlib.Core.Path.{sym, ◌∙◌}
use mathlib.Core.List.{List}
use native.Mathlib.Omega.{arith}
use lib.ListN.{length}
use Rattle.definitions.specs.Picture.{Picture}
use Rattle.definitions.specs.declared.Window.{Window}
use Rattle.list.specs.Taken.{picture_listed}
use Rattle.walk.proofs.Lies.{small}
use Rattle.walk.proofs.Steps.{some_keys, few_keys, cut_parent, first_stands, first_less, parting_first, walking_root, walking_whole}
use Rattle.walk.proofs.Told.{told_bits, told_near, told_holds, told_whole, told_end}
use Rattle.walk.proofs.Going.{WalkPast, going_root, going_first, past_unasked, past_told, going_on, going_less}
use Rattle.walk.proofs.Shows.{bits_no}
use Rattle.walk.proofs.Below.{lower_apart, lower_lacking, lower_enter}
use Rattle.window.proofs.BlockLeaves.{told_all, told_several, told_fits, run_gave}
use Rattle.window.proofs.Taken.{Taken, taken_none, taken_small, taken-length, taken_named, taken_pass, taken_more, taken_block, taken_end}
use Rattle.window.proofs.select.gather.Invariants.{Still}
use Rattle.window.proofs.select.gather.Goals as goal
use Rattle.window.proofs.select.gather.Goals.{Else-found-bit, After-after, then-apart, else-apart+then-found-bit-eq0, else-apart+else-found-bit-eq0+then-found-bit, else-apart+else-found-bit-eq0+else-found-bit+then-within}

-- what was taken at the head of the turn is what is taken below the key of the block at which the walk stands
still_taken : {m : ℕ} {p : Picture} {w : Window} {f limit count₀ count x y : ℕ} {before answer₀ answer : List ℕ} → Taken m p w f limit before answer₀ count₀ x
    → Still m p w f answer₀ answer count₀ count x y
    → Taken m p w f limit before answer count y
still_taken t still = taken_pass _ _ _ _ (taken_named _ _ _ _ t _ _ still.answers still.counts) _ still.gap

pub loop-told-init : goal.loop-told-init
loop-told-init c =
    let root = c.start-spot.ensures in
    (going_root c.args.list.now.own root.0, walking_root _ _ _ root.0 root.1, taken_none _ _ _ _ _ _ _ root.1)

pub apart-requires : goal.apart-requires
apart-requires c = small _ _ _ c.args.list.now.deepest c.requires.0 c.loop-told-2.invariant.0.stands

pub offset_bounds-list-told : goal.offset_bounds-list-told
offset_bounds-list-told c =
    let list = c.args.list.now in
    omega (arith, told_bits list.deepest list.own c.loop-told-2.invariant.0.stands c.ask-told.ensures, c.well_formed)

pub bounds-list-told : goal.bounds-list-told
bounds-list-told c = let list = c.args.list.now in told_bits list.deepest list.own c.loop-told-2.invariant.0.stands c.ask-told.ensures

-- a leaf of the feature
pub gather_leaf-count-requires : goal.gather_leaf-count-requires
gather_leaf-count-requires c =
    let list = c.args.list.now in
    let told = c.ask-told.ensures in
    let holds = told_holds list.deepest list.own c.loop-told-2.invariant.0.stands told in
    let so_far = still_taken c.loop-told.invariant.2 c.loop-told-2.invariant.2 in (
      list.deepest,
      c.requires.0,
      record { block = told.whole; walking = c.loop-told-2.invariant.1; from = holds.0; until = holds.1 },
      omega (arith, c.requires.2, taken-length _ _ _ _ so_far),
      taken_small _ _ _ _ so_far list.deepest,
    )

pub within-requires : goal.within-requires
within-requires c = small _ _ _ c.args.list.now.deepest c.requires.0 c.loop-told-2.invariant.0.stands

-- the records of a block with the feature and others are there
fits : (c : Else-found-bit) → c.ask-told.result.last + 1 ≤ length c.args.list.now.keys.now
fits c =
    let list = c.args.list.now in
    let stands = c.loop-told-2.invariant.0.stands in
    let bit = c.power_of_two-bit.ensures in
    let told = c.ask-told.ensures in
    told_fits list.deepest list.own stands told _ _ bit (told_several list.deepest list.own stands told _ _ bit (omega arith) c.if-found-bit.false)

pub overflow_add-end : goal.overflow_add-end
overflow_add-end c = omega (arith, fits (goal.at.overflow_add-end c).Else-found-bit, c.well_formed)

pub gather_run-count-requires : goal.gather_run-count-requires
gather_run-count-requires c =
    let list = c.args.list.now in
    let at = goal.at.gather_run-count-requires c in
    let so_far = still_taken c.loop-told.invariant.2 c.loop-told-2.invariant.2 in (
      omega (arith, fits at.Else-found-bit),
      omega (arith, fits at.Else-found-bit, list.paired),
      omega (arith, c.requires.2, taken-length _ _ _ _ so_far),
      taken_small _ _ _ _ so_far list.deepest,
    )

pub first-spot-requires : goal.first-spot-requires
first-spot-requires c = few_keys c.args.list.now.deepest c.loop-told-2.invariant.0.stands

pub loop-told-2-smaller : goal.loop-told-2-smaller
loop-told-2-smaller c = rw c.first-spot.ensures (first_less c.loop-told-2.invariant.0.stands)

pub loop-told-2-preserved : goal.loop-told-2-preserved
loop-told-2-preserved c =
    let list = c.args.list.now in
    let at = c.loop-told-2.invariant in
    let cut = sym c.within.ensures ∙ c.if-within.false in
    let parent = cut_parent _ at.0.stands cut (sym c.apart.ensures ∙ c.if-apart.false) in
    let gap = at.2.gap ∙ lower_enter _ _ _ _ at.0.stands parent cut in
    let near = told_near list.deepest list.own at.0.stands c.ask-told.ensures in
    rw c.first-spot.ensures (
      going_first at.0 parent _ near,
      record { stands = first_stands parent; parting = parting_first at.1 parent cut },
      record { answers = at.2.answers; counts = at.2.counts; gap = gap },
    )

-- a block is passed, the turn's or one around it
past : (c : After-after) → WalkPast c.args.list.now.m c.args.list.now.keys.now (length c.args.list.now.keys.now) c.if-apart.from c.loop-told.spot.key c.if-apart.spot
past c =
    let list = c.args.list.now in
    let at = c.loop-told-2.invariant.0 in
    elim c.if-apart.branch [
      | then-apart w ↦ rw (w.spot-is, w.from-is) (past_unasked at)
      | else-apart+then-found-bit-eq0 w ↦ rw (w.spot-is, w.from-is) (past_told list.deepest list.own at w.ask-told.ensures)
      | else-apart+else-found-bit-eq0+then-found-bit w ↦ rw (w.spot-is, w.from-is) (past_told list.deepest list.own at w.ask-told.ensures)
      | else-apart+else-found-bit-eq0+else-found-bit+then-within w ↦ rw (w.spot-is, w.from-is) (past_told list.deepest list.own at w.ask-told.ensures)
    ]

holds : (c : After-after) → (c.if-apart.spot.key ≤ c.loop-told-2.spot.key) × (c.loop-told-2.spot.key + c.loop-told-2.spot.step ≤ c.if-apart.spot.key + c.if-apart.spot.step)
holds c =
    let list = c.args.list.now in
    let stands = c.loop-told-2.invariant.0.stands in
    elim c.if-apart.branch [
      | then-apart w ↦ rw w.spot-is (omega arith, omega arith)
      | else-apart+then-found-bit-eq0 w ↦ rw w.spot-is (told_holds list.deepest list.own stands w.ask-told.ensures)
      | else-apart+else-found-bit-eq0+then-found-bit w ↦ rw w.spot-is (told_holds list.deepest list.own stands w.ask-told.ensures)
      | else-apart+else-found-bit-eq0+else-found-bit+then-within w ↦ rw w.spot-is (told_holds list.deepest list.own stands w.ask-told.ensures)
    ]

-- what it gives is taken
passed : (c : After-after)
    → Taken c.args.list.now.m (picture_listed c.args.list.now) c.args.window c.args.feature c.args.limit c.args.answer.now c.if-apart.answer c.if-apart.count
    (c.if-apart.spot.key + c.if-apart.spot.step)
passed c =
    let list = c.args.list.now in
    let stands = c.loop-told-2.invariant.0.stands in
    let t = still_taken c.loop-told.invariant.2 c.loop-told-2.invariant.2 in
    let bit = c.power_of_two-bit.ensures in
    elim c.if-apart.branch [
      | then-apart w ↦
          rw w.spot-is (taken_named _ _ _ _ (taken_pass _ _ _ _ t _ (lower_apart _ _ _ _ stands (sym c.apart.ensures ∙ w.if-apart.true))) _ _ w.answer-is w.count-is)
      | else-apart+then-found-bit-eq0 w ↦
          let told = w.ask-told.ensures in
          let around = told_holds list.deepest list.own stands told in
          let k = some_keys stands in
          let lacks = bits_no _ told.whole _ _ bit _ (told_whole list.deepest list.own stands told) (omega arith) in
          rw w.spot-is (taken_named _ _ _ _ (taken_pass _ _ _ _ t _ (lower_lacking _ _ _ _ told.whole _ (around.0, omega arith) lacks)) _ _ w.answer-is w.count-is)
      | else-apart+else-found-bit-eq0+then-found-bit w ↦
          let all = told_all list.deepest list.own stands w.ask-told.ensures _ _ bit w.if-found-bit.true in
          rw w.spot-is (taken_named _ _ _ _ (taken_more _ _ _ _ t _ _ (w.gather_leaf-count.ensures _ _ all)) _ _ w.answer-is w.count-is)
      | else-apart+else-found-bit-eq0+else-found-bit+then-within w ↦
          let told = w.ask-told.ensures in
          let largest = sym w.within.ensures ∙ w.if-within.true in
          let listed = told_several list.deepest list.own stands told _ _ bit (omega arith) w.if-found-bit.false in
          let gave = run_gave list.deepest list.own stands told _ _ bit listed w.gather_run-count.ensures in
          rw (w.spot-is, told_end list.deepest list.own stands told listed)
          (taken_named _ _ _ _ (taken_block _ _ _ _ c.loop-told-2.invariant.1 largest t _ _ gave) _ _ w.answer-is w.count-is)
    ]

pub returns-in_default : goal.returns-in_default
returns-in_default c = taken_end _ _ _ _ (passed (goal.at.returns-in_default c).After-after) c.in_default.ensures

pub loop-told-smaller : goal.loop-told-smaller
loop-told-smaller c = going_less c.loop-told.invariant.0.stands (past (goal.at.loop-told-smaller c).After-after) _ c.in-Some.ensures.1

pub loop-told-preserved : goal.loop-told-preserved
loop-told-preserved c =
    let end = (goal.at.loop-told-preserved c).After-after in
    let next = c.in-Some.ensures in
    let p = past end in
    (going_on p _ next.0 next.1, walking_whole c.loop-told-2.invariant.1 p.stands (holds end) _ next.0 next.1, rw next.1 (passed end))
