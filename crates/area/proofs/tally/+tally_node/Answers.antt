-- `tally::tally_node` meets its contract: a leaf or a node among the quadrants adds its pixels. Rests on TallyTurn.
use mathlib.Core.Path.{sym, ◌∙◌}
use native.Mathlib.Omega.{arith}
use Rattle.list.proofs.Shown.{shown_room}
use Rattle.summary.proofs.CountTurn.{less}
use Rattle.area.proofs.TallyTurn.{tally_reached_none, reached_all, next_room, pixels_room, child_asked, child_most, leaf_turn, node_turn}
use Rattle.area.proofs.tally.+tally_node.Goals as goal
use Rattle.area.proofs.tally.+tally_node.Goals.{then-has_one_slot, else-has_one_slot}

pub overflow_add-next : goal.overflow_add-next
overflow_add-next t c = let e = shown_room c.requires.0.shown in omega (arith, c.well_formed)

pub loop-init : goal.loop-init
loop-init t c = tally_reached_none _ _ _ _

pub offset_bounds-bits-next : goal.offset_bounds-bits-next
offset_bounds-bits-next t c = let h = next_room c.loop.invariant c.requires.0 c.loop-test.true in omega (arith, c.well_formed)

pub bounds-bits-next : goal.bounds-bits-next
bounds-bits-next t c = next_room c.loop.invariant c.requires.0 c.loop-test.true

pub overflow_add-pixels : goal.overflow_add-pixels
overflow_add-pixels t c = let h = pixels_room c.loop.invariant c.requires.0 c.loop-test.true in omega (arith, c.requires.1, c.leaf_pixels-pixels.ensures.1)

pub overflow_add-next-then-has_one_slot : goal.overflow_add-next-then-has_one_slot
overflow_add-next-then-has_one_slot t c = let h = next_room c.loop.invariant c.requires.0 c.loop-test.true in omega (arith, c.well_formed)

pub tally_node-inner-requires : goal.tally_node-inner-requires
tally_node-inner-requires t c =
    let e = c.requires in
    let child = child_asked c.loop.invariant e.0 c.loop-test.true (sym c.has_one_slot.ensures ∙ c.if-has_one_slot.false) in
    (less _ t c.decreases e.0, (child, omega (arith, e.1), e.2))

pub overflow_add-pixels-else-has_one_slot : goal.overflow_add-pixels-else-has_one_slot
overflow_add-pixels-else-has_one_slot t c =
    let e = c.requires in
    let node = sym c.has_one_slot.ensures ∙ c.if-has_one_slot.false in
    let h = pixels_room c.loop.invariant e.0 c.loop-test.true in
    let more = child_most c.loop.invariant e.0 c.loop-test.true _ node c.tally_node-inner.ensures in
    omega (arith, e.1)

pub loop-preserved : goal.loop-preserved
loop-preserved t c =
    let slot = c.has_one_slot.ensures in
    elim c.if-has_one_slot.branch [
      | then-has_one_slot w ↦ leaf_turn _ c.loop.invariant c.requires.2 _ _ _ c.loop-test.true (sym slot ∙ w.if-has_one_slot.true) w.leaf_pixels-pixels.ensures.0 w.pixels-is w.next-is
      | else-has_one_slot w ↦ node_turn c.loop.invariant _ _ _ c.loop-test.true (sym slot ∙ w.if-has_one_slot.false) w.tally_node-inner.ensures w.pixels-is w.next-is
    ]

pub returns : goal.returns
returns t c = reached_all c.loop.invariant (omega arith)
