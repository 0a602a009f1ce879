-- After each turn the counters have the pixels of the quadrants passed.
use mathlib.Core.Path.{refl, sym, ◌∙◌}
use native.Mathlib.Omega.{arith}
use Rattle.list.proofs.Shown.{shown_room}
use Rattle.summary.proofs.CountTurn.{reached_none, reached_all, next_room, next_slots, counts_room, child_asked, leaf_turn, node_turn}
use Rattle.summary.proofs.FourPixels.{four_there}
use Rattle.summary.proofs.count.count_sixteen.Goals as goal
use Rattle.summary.proofs.count.count_sixteen.Goals.{then-is_leaf, else-is_leaf}

pub overflow_add-next : goal.overflow_add-next
overflow_add-next c = let e = shown_room c.requires.0.shown in omega (arith, c.well_formed)

pub loop-d-init : goal.loop-d-init
loop-d-init c = reached_none _ _ _ _

pub offset_bounds-bits-next : goal.offset_bounds-bits-next
offset_bounds-bits-next c =
    let h = next_room c.loop-d.invariant c.requires.0 (omega (arith, c.loop-d-test.true)) in
    omega (arith, c.well_formed)

pub bounds-bits-next : goal.bounds-bits-next
bounds-bits-next c =
    next_room c.loop-d.invariant c.requires.0 (omega (arith, c.loop-d-test.true))

pub is_leaf-requires : goal.is_leaf-requires
is_leaf-requires c =
    next_slots c.loop-d.invariant c.requires.0 (omega (arith, c.loop-d-test.true))

pub count_leaf-requires : goal.count_leaf-requires
count_leaf-requires c =
    let e = c.requires in
    (sym c.is_leaf.ensures ∙ c.if-is_leaf.true, counts_room c.loop-d.invariant e.0 (omega (arith, c.loop-d-test.true)) e.1)

pub overflow_add-next-then-is_leaf : goal.overflow_add-next-then-is_leaf
overflow_add-next-then-is_leaf c =
    let h = next_room c.loop-d.invariant c.requires.0 (omega (arith, c.loop-d-test.true)) in
    omega (arith, c.well_formed)

pub count_pixels-requires : goal.count_pixels-requires
count_pixels-requires c =
    let e = c.requires in
    let h = c.loop-d-test.true in
    (child_asked c.loop-d.invariant e.0 (omega (arith, h)) (sym c.is_leaf.ensures ∙ c.if-is_leaf.false), counts_room c.loop-d.invariant e.0 (omega (arith, h)) e.1)

pub overflow_add-next-else-is_leaf : goal.overflow_add-next-else-is_leaf
overflow_add-next-else-is_leaf c =
    let e = c.requires in
    let h = c.loop-d-test.true in
    let node = child_asked c.loop-d.invariant e.0 (omega (arith, h)) (sym c.is_leaf.ensures ∙ c.if-is_leaf.false) in
    let there = four_there node (counts_room c.loop-d.invariant e.0 (omega (arith, h)) e.1) in
    omega (arith, c.well_formed)

pub loop-d-preserved : goal.loop-d-preserved
loop-d-preserved c =
    let h = c.loop-d-test.true in
    let slot = c.is_leaf.ensures in
    elim c.if-is_leaf.branch [
      | then-is_leaf w ↦
          leaf_turn c.loop-d.invariant _ _ (omega (arith, h)) c.requires.1.long (sym slot ∙ w.if-is_leaf.true) (w.counts-is ∙ w.count_leaf.ensures) w.next-is
      | else-is_leaf w ↦
          node_turn c.loop-d.invariant _ _ _ _ _ (omega (arith, h)) refl (sym slot ∙ w.if-is_leaf.false) w.count_pixels.ensures w.counts-is w.next-is
    ]

pub returns : goal.returns
returns c = reached_all c.loop-d.invariant (omega (arith, c.loop-d-test.false))
