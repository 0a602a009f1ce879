-- After each turn the counters have the pixels of the quadrants passed. The area falls.
use mathlib.Core.Path.{refl, sym, ◌∙◌}
use native.Mathlib.Omega.{arith}
use Rattle.list.proofs.Shown.{shown_room}
use Rattle.summary.proofs.CountTurn.{reached_none, reached_all, next_room, next_slots, counts_room, child_asked, leaf_turn, node_turn, less}
use Rattle.summary.proofs.count.+count_node.Goals as goal
use Rattle.summary.proofs.count.+count_node.Goals.{then-is_leaf, else-is_leaf+then-quarter-eq16, else-is_leaf+else-quarter-eq16}

pub overflow_add-next : goal.overflow_add-next
overflow_add-next t c = let e = shown_room c.requires.0.shown in omega (arith, c.well_formed)

pub loop-d-init : goal.loop-d-init
loop-d-init t c = reached_none _ _ _ _

pub offset_bounds-bits-next : goal.offset_bounds-bits-next
offset_bounds-bits-next t c =
    let h = next_room c.loop-d.invariant c.requires.0 (omega (arith, c.loop-d-test.true)) in
    omega (arith, c.well_formed)

pub bounds-bits-next : goal.bounds-bits-next
bounds-bits-next t c =
    next_room c.loop-d.invariant c.requires.0 (omega (arith, c.loop-d-test.true))

pub is_leaf-requires : goal.is_leaf-requires
is_leaf-requires t c =
    next_slots c.loop-d.invariant c.requires.0 (omega (arith, c.loop-d-test.true))

pub count_leaf-requires : goal.count_leaf-requires
count_leaf-requires t c =
    let e = c.requires in
    (sym c.is_leaf.ensures ∙ c.if-is_leaf.true, counts_room c.loop-d.invariant e.0 (omega (arith, c.loop-d-test.true)) e.1)

pub overflow_add-next-then-is_leaf : goal.overflow_add-next-then-is_leaf
overflow_add-next-then-is_leaf t c =
    let h = next_room c.loop-d.invariant c.requires.0 (omega (arith, c.loop-d-test.true)) in
    omega (arith, c.well_formed)

pub count_sixteen-next-requires : goal.count_sixteen-next-requires
count_sixteen-next-requires t c =
    let e = c.requires in
    let h = c.loop-d-test.true in
    let quarter = c.if-quarter-eq16.true in (
      rw quarter at (child_asked c.loop-d.invariant e.0 (omega (arith, h)) (sym c.is_leaf.ensures ∙ c.if-is_leaf.false)),
      rw quarter at (counts_room c.loop-d.invariant e.0 (omega (arith, h)) e.1),
    )

pub count_node-next-requires : goal.count_node-next-requires
count_node-next-requires t c =
    let e = c.requires in
    let h = c.loop-d-test.true in (
      less _ t c.decreases e.0,
      (child_asked c.loop-d.invariant e.0 (omega (arith, h)) (sym c.is_leaf.ensures ∙ c.if-is_leaf.false), counts_room c.loop-d.invariant e.0 (omega (arith, h)) e.1),
    )

pub loop-d-preserved : goal.loop-d-preserved
loop-d-preserved t c =
    let h = c.loop-d-test.true in
    let slot = c.is_leaf.ensures in
    elim c.if-is_leaf.branch [
      | then-is_leaf w ↦
          leaf_turn c.loop-d.invariant _ _ (omega (arith, h)) c.requires.1.long (sym slot ∙ w.if-is_leaf.true) (w.counts-is ∙ w.count_leaf.ensures) w.next-is
      | else-is_leaf+then-quarter-eq16 w ↦
          node_turn c.loop-d.invariant _ _ _ _ _ (omega (arith, h)) w.if-quarter-eq16.true (sym slot ∙ w.if-is_leaf.false) w.count_sixteen-next.ensures w.counts-is w.next-is
      | else-is_leaf+else-quarter-eq16 w ↦
          node_turn c.loop-d.invariant _ _ _ _ _ (omega (arith, h)) refl (sym slot ∙ w.if-is_leaf.false) w.count_node-next.ensures w.counts-is w.next-is
    ]

pub returns : goal.returns
returns t c = reached_all c.loop-d.invariant (omega (arith, c.loop-d-test.false))
