-- `shrink` meets its contract: a leaf by itself, a block that one look settles as a whole, and else a node's quadrants one after the other, and then its own
-- record. The height falls at each call.
use Rattle.std.proofs.Common.{sym, ◌∙◌, arith}
use Rattle.keys.proofs.BlockChild.{child_lower, divides, end_in-map}
use Rattle.deeds.specs.Doing.{step_by}
use Rattle.apply_deed.proofs.Asked.{block_here, shrink_here}
use Rattle.apply_deed.proofs.Narrowed.{narrowed_shrinks}
use Rattle.apply_deed.proofs.Known.{met_readable}
use Rattle.apply_deed.proofs.ShownBlocks.{shown_positive}
use Rattle.apply_deed.proofs.ShrinkSteps.{asks_nw, asks_ne, asks_sw, asks_se, asks_own, asks_joined, gives_node, asked_room, leaf_room, asks_end, asks_keep, gives_leaf, gives_whole}
use Rattle.apply_deed.proofs.shrink.+shrink.Goals as goal

pub offset_bounds-bits-read : goal.offset_bounds-bits-read
offset_bounds-bits-read t c = let h = asked_room c.requires in omega (arith, h, c.well_formed)

pub bounds-bits-read : goal.bounds-bits-read
bounds-bits-read t c = (asked_room c.requires).1

-- a leaf
pub shrink_leaf-requires : goal.shrink_leaf-requires
shrink_leaf-requires t c = record {
  leaf_asked = record { deep = c.requires.shown.deep; block = c.requires.shown.block; leaf = sym c.has_one_slot.ensures ∙ c.if-has_one_slot.true };
  one_asked = leaf_room c.requires;
}

pub returns-then-has_one_slot : goal.returns-then-has_one_slot
returns-then-has_one_slot t c = gives_leaf _ c.requires (sym c.has_one_slot.ensures ∙ c.if-has_one_slot.true) c.shrink_leaf.ensures

pub narrowed-here-requires : goal.narrowed-here-requires
narrowed-here-requires t c = end_in-map _ c.requires.shown.deep c.requires.shown.block

pub meeting-met-requires : goal.meeting-met-requires
meeting-met-requires t c = block_here c.narrowed-here.ensures.m_is c.requires.shown.deep c.requires.shown.block

-- a block that one look settles, once the number past its keys is told
pub end-requires : goal.end-requires
end-requires t c = end_in-map _ c.requires.shown.deep c.requires.shown.block

pub pass_over-passed-requires : goal.pass_over-passed-requires
pass_over-passed-requires t c = (met_readable c.meeting-met.ensures, asks_end c.requires c.end.ensures)

pub keep-write-requires : goal.keep-write-requires
keep-write-requires t c = asks_keep c.requires c.end.ensures c.pass_over-passed.ensures.next-is

pub returns-then-is_decided : goal.returns-then-is_decided
returns-then-is_decided t c =
    narrowed_shrinks c.narrowed-here.ensures.same c.requires.shown.block (omega arith)
    (gives_whole _ c.requires c.end.ensures c.meeting-met.ensures (sym c.is_decided.ensures ∙ c.if-is_decided.true)
    c.pass_over-passed.ensures c.keep-write.ensures)

-- a node's quadrants, one after the other
pub overflow_add-read : goal.overflow_add-read
overflow_add-read t c = let h = asked_room c.requires in omega (arith, h, c.well_formed)

pub overflow_add-write : goal.overflow_add-write
overflow_add-write t c = let h = asked_room c.requires in omega (arith, h, c.requires.order, c.well_formed)

pub child-part-requires : goal.child-part-requires
child-part-requires t c = (divides _ c.requires.shown.deep c.requires.shown.block (shown_positive c.requires.shown (sym c.has_one_slot.ensures ∙ c.if-has_one_slot.false)), omega arith)

pub shrink-nw-requires : goal.shrink-nw-requires
shrink-nw-requires t c = (
  child_lower _ 1 c.child-part.ensures (shown_positive c.requires.shown (sym c.has_one_slot.ensures ∙ c.if-has_one_slot.false)) c.decreases,
  shrink_here c.narrowed-here.ensures.m_is (asks_nw (step_by c.narrowed-here.result) c.requires (sym c.has_one_slot.ensures ∙ c.if-has_one_slot.false) c.child-part.ensures),
)

pub child-part-requires-2 : goal.child-part-requires-2
child-part-requires-2 t c = (divides _ c.requires.shown.deep c.requires.shown.block (shown_positive c.requires.shown (sym c.has_one_slot.ensures ∙ c.if-has_one_slot.false)), omega arith)

pub shrink-ne-requires : goal.shrink-ne-requires
shrink-ne-requires t c = (
  child_lower _ 2 c.child-part-2.ensures (shown_positive c.requires.shown (sym c.has_one_slot.ensures ∙ c.if-has_one_slot.false)) c.decreases,
  shrink_here c.narrowed-here.ensures.m_is (asks_ne _ c.requires (sym c.has_one_slot.ensures ∙ c.if-has_one_slot.false) c.child-part.ensures c.shrink-nw.ensures c.child-part-2.ensures),
)

pub child-part-requires-3 : goal.child-part-requires-3
child-part-requires-3 t c = (divides _ c.requires.shown.deep c.requires.shown.block (shown_positive c.requires.shown (sym c.has_one_slot.ensures ∙ c.if-has_one_slot.false)), omega arith)

pub shrink-sw-requires : goal.shrink-sw-requires
shrink-sw-requires t c = (
  child_lower _ 3 c.child-part-3.ensures (shown_positive c.requires.shown (sym c.has_one_slot.ensures ∙ c.if-has_one_slot.false)) c.decreases,
  shrink_here c.narrowed-here.ensures.m_is (asks_sw _ c.requires (sym c.has_one_slot.ensures ∙ c.if-has_one_slot.false) c.child-part.ensures c.shrink-nw.ensures c.child-part-2.ensures c.shrink-ne.ensures c.child-part-3.ensures),
)

pub child-part-requires-4 : goal.child-part-requires-4
child-part-requires-4 t c = (divides _ c.requires.shown.deep c.requires.shown.block (shown_positive c.requires.shown (sym c.has_one_slot.ensures ∙ c.if-has_one_slot.false)), omega arith)

pub shrink-se-requires : goal.shrink-se-requires
shrink-se-requires t c = (
  child_lower _ 4 c.child-part-4.ensures (shown_positive c.requires.shown (sym c.has_one_slot.ensures ∙ c.if-has_one_slot.false)) c.decreases,
  shrink_here c.narrowed-here.ensures.m_is (asks_se _ c.requires (sym c.has_one_slot.ensures ∙ c.if-has_one_slot.false) c.child-part.ensures c.shrink-nw.ensures c.child-part-2.ensures c.shrink-ne.ensures c.child-part-3.ensures c.shrink-sw.ensures c.child-part-4.ensures),
)

pub joined-tally-requires : goal.joined-tally-requires
joined-tally-requires t c = asks_joined _ c.requires (sym c.has_one_slot.ensures ∙ c.if-has_one_slot.false) c.child-part.ensures c.shrink-nw.ensures c.child-part-2.ensures c.shrink-ne.ensures c.child-part-3.ensures c.shrink-sw.ensures c.child-part-4.ensures c.shrink-se.ensures

pub shrink_own-write-requires : goal.shrink_own-write-requires
shrink_own-write-requires t c = asks_own _ c.requires (sym c.has_one_slot.ensures ∙ c.if-has_one_slot.false) c.child-part.ensures c.shrink-nw.ensures c.child-part-2.ensures c.shrink-ne.ensures c.child-part-3.ensures c.shrink-sw.ensures c.child-part-4.ensures c.shrink-se.ensures

pub returns : goal.returns
returns t c =
    narrowed_shrinks c.narrowed-here.ensures.same c.requires.shown.block (omega arith)
    (gives_node _ c.requires (sym c.has_one_slot.ensures ∙ c.if-has_one_slot.false) c.child-part.ensures c.shrink-nw.ensures c.child-part-2.ensures c.shrink-ne.ensures c.child-part-3.ensures c.shrink-sw.ensures c.child-part-4.ensures c.shrink-se.ensures
    c.joined-tally.ensures c.shrink_own-write.ensures)
