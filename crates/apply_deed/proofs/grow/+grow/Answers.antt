-- `grow` meets its contract: a leaf as it is met, a block that stays as a whole, and else a node's quadrants from the last to the first, and then its own
-- record. The height falls at each call.
use Rattle.std.proofs.Common.{arith}
use Rattle.keys.proofs.BlockChild.{child_lower, divides, end_in-map}
use Rattle.apply_deed.proofs.Asked.{block_here, grow_here}
use Rattle.apply_deed.proofs.Narrowed.{narrowed_asked, narrowed_grown}
use Rattle.apply_deed.proofs.Sliding.{asks_slide, gives_slide}
use Rattle.apply_deed.proofs.GrowSteps.{leaf_asked, leaf_writes, leaf_grown}
use Rattle.apply_deed.proofs.GrowQuarters.{asked_some, asked_node, asks_se, asks_sw, asks_ne, asks_nw, asks_own, gives_node}
use Rattle.apply_deed.proofs.grow.+grow.Goals as goal

-- there is a record before the place, in both slices
pub overflow_sub-last : goal.overflow_sub-last
overflow_sub-last t c = let some = asked_some c.requires in omega arith

pub offset_bounds-keys-last : goal.offset_bounds-keys-last
offset_bounds-keys-last t c = let some = asked_some c.requires in let e = c.requires.growing.waits.ending in omega (arith, e.in_keys, c.well_formed)

pub bounds-keys-last : goal.bounds-keys-last
bounds-keys-last t c = let some = asked_some c.requires in let e = c.requires.growing.waits.ending in omega (arith, e.in_keys)

pub offset_bounds-bits-last : goal.offset_bounds-bits-last
offset_bounds-bits-last t c = let some = asked_some c.requires in let e = c.requires.growing.waits.ending in omega (arith, e.in-bits, c.well_formed)

pub bounds-bits-last : goal.bounds-bits-last
bounds-bits-last t c = let some = asked_some c.requires in let e = c.requires.growing.waits.ending in omega (arith, e.in-bits)

-- a leaf
pub write_leaf-start-requires : goal.write_leaf-start-requires
write_leaf-start-requires t c = record {
  leaf_asked = leaf_asked c.requires.growing c.if-found-block.true c.requires.deep c.requires.block;
  write_asked = leaf_writes c.requires.growing c.if-found-block.true;
}

pub returns-then-found-block : goal.returns-then-found-block
returns-then-found-block t c = leaf_grown c.if-found-block.true c.write_leaf-start.ensures

pub narrowed-here-requires : goal.narrowed-here-requires
narrowed-here-requires t c = end_in-map _ c.requires.deep c.requires.block

pub meeting-met-requires : goal.meeting-met-requires
meeting-met-requires t c = block_here c.narrowed-here.ensures.m_is c.requires.deep c.requires.block

-- a block that stays as a whole
pub slide-requires : goal.slide-requires
slide-requires t c = asks_slide _ c.meeting-met.ensures (c.stays.ensures c.if-stays.true) (narrowed_asked c.narrowed-here.ensures.same c.requires.block (omega arith) c.requires)

pub returns-then-stays : goal.returns-then-stays
returns-then-stays t c =
    narrowed_grown c.narrowed-here.ensures.same c.requires.block (omega arith)
    (gives_slide _ c.meeting-met.ensures (c.stays.ensures c.if-stays.true) c.slide.ensures)

-- a node's quadrants, from the last to the first
pub child-requires : goal.child-requires
child-requires t c = (divides _ c.requires.deep c.requires.block (asked_node (narrowed_asked c.narrowed-here.ensures.same c.requires.block (omega arith) c.requires) c.if-found-block.false).positive, omega arith)

pub grow-se-requires : goal.grow-se-requires
grow-se-requires t c =
    let near = narrowed_asked c.narrowed-here.ensures.same c.requires.block (omega arith) c.requires in (
      child_lower _ 4 c.child.ensures (asked_node near c.if-found-block.false).positive c.decreases,
      grow_here c.narrowed-here.ensures.m_is (asks_se _ near c.if-found-block.false c.child.ensures),
    )

pub child-requires-2 : goal.child-requires-2
child-requires-2 t c = (divides _ c.requires.deep c.requires.block (asked_node (narrowed_asked c.narrowed-here.ensures.same c.requires.block (omega arith) c.requires) c.if-found-block.false).positive, omega arith)

pub grow-sw-requires : goal.grow-sw-requires
grow-sw-requires t c =
    let near = narrowed_asked c.narrowed-here.ensures.same c.requires.block (omega arith) c.requires in (
      child_lower _ 3 c.child-2.ensures (asked_node near c.if-found-block.false).positive c.decreases,
      grow_here c.narrowed-here.ensures.m_is (asks_sw _ near c.if-found-block.false c.child.ensures c.grow-se.ensures c.child-2.ensures),
    )

pub child-requires-3 : goal.child-requires-3
child-requires-3 t c = (divides _ c.requires.deep c.requires.block (asked_node (narrowed_asked c.narrowed-here.ensures.same c.requires.block (omega arith) c.requires) c.if-found-block.false).positive, omega arith)

pub grow-ne-requires : goal.grow-ne-requires
grow-ne-requires t c =
    let near = narrowed_asked c.narrowed-here.ensures.same c.requires.block (omega arith) c.requires in (
      child_lower _ 2 c.child-3.ensures (asked_node near c.if-found-block.false).positive c.decreases,
      grow_here c.narrowed-here.ensures.m_is (asks_ne _ near c.if-found-block.false c.child.ensures c.grow-se.ensures c.child-2.ensures c.grow-sw.ensures c.child-3.ensures),
    )

pub child-requires-4 : goal.child-requires-4
child-requires-4 t c = (divides _ c.requires.deep c.requires.block (asked_node (narrowed_asked c.narrowed-here.ensures.same c.requires.block (omega arith) c.requires) c.if-found-block.false).positive, omega arith)

pub grow-nw-requires : goal.grow-nw-requires
grow-nw-requires t c =
    let near = narrowed_asked c.narrowed-here.ensures.same c.requires.block (omega arith) c.requires in (
      child_lower _ 1 c.child-4.ensures (asked_node near c.if-found-block.false).positive c.decreases,
      grow_here c.narrowed-here.ensures.m_is (asks_nw _ near c.if-found-block.false c.child.ensures c.grow-se.ensures c.child-2.ensures c.grow-sw.ensures c.child-3.ensures c.grow-ne.ensures c.child-4.ensures),
    )

pub write_own-requires : goal.write_own-requires
write_own-requires t c = asks_own _ (narrowed_asked c.narrowed-here.ensures.same c.requires.block (omega arith) c.requires) c.if-found-block.false c.child.ensures c.grow-se.ensures c.child-2.ensures c.grow-sw.ensures c.child-3.ensures c.grow-ne.ensures c.child-4.ensures c.grow-nw.ensures

pub returns : goal.returns
returns t c =
    narrowed_grown c.narrowed-here.ensures.same c.requires.block (omega arith)
    (gives_node _ (narrowed_asked c.narrowed-here.ensures.same c.requires.block (omega arith) c.requires) c.if-found-block.false c.child.ensures c.grow-se.ensures c.child-2.ensures c.grow-sw.ensures c.child-3.ensures c.grow-ne.ensures c.child-4.ensures c.grow-nw.ensures c.write_own.ensures)
