-- `tally_records` meets its contract: a leaf by itself, a node by its quadrants one after the other. The height falls at each call.
use Rattle.std.proofs.Common.{refl, sym, ◌∙◌, ◌≤◌, arith}
use Rattle.keys.proofs.BlockChild.{child_lower, divides, end_in-map}
use Rattle.keys.proofs.Interval.{within}
use Rattle.deeds.specs.Doing.{step_by}
use Rattle.apply_deed.proofs.Asked.{shown_here}
use Rattle.apply_deed.proofs.Narrowed.{narrowed_counted}
use Rattle.apply_deed.proofs.ShownBlocks.{shown_some, shown_positive}
use Rattle.apply_deed.proofs.BlockEnds.{end_asked}
use Rattle.apply_deed.proofs.Known.{met_readable}
use Rattle.apply_deed.proofs.TallySteps.{asks_nw, asks_ne, asks_sw, asks_se, gives_node, leaf_counted, over_counted, counted_small, leaf_shown}
use Rattle.apply_deed.proofs.tally.+tally_records.Goals as goal

pub offset_bounds-bits-at : goal.offset_bounds-bits-at
offset_bounds-bits-at t c = let h = shown_some c.requires.picture _ _ _ _ c.requires.shown in omega (arith, h, c.requires.shown.in-bits)

pub bounds-bits-at : goal.bounds-bits-at
bounds-bits-at t c = let h = shown_some c.requires.picture _ _ _ _ c.requires.shown in omega (arith, h, c.requires.shown.in-bits)

-- a leaf
pub tally_leaf-tally-requires : goal.tally_leaf-tally-requires
tally_leaf-tally-requires t c = leaf_shown c.requires _ (sym c.has_one_slot.ensures ∙ c.if-has_one_slot.true)

pub overflow_add-next : goal.overflow_add-next
overflow_add-next t c = let h = shown_some c.requires.picture _ _ _ _ c.requires.shown in omega (arith, h, c.requires.shown.in-bits, c.well_formed)

pub returns-then-has_one_slot : goal.returns-then-has_one_slot
returns-then-has_one_slot t c = leaf_counted _ _ _ _ _ (sym c.has_one_slot.ensures ∙ c.if-has_one_slot.true) c.tally_leaf-tally.ensures

pub narrowed-here-requires : goal.narrowed-here-requires
narrowed-here-requires t c = end_in-map _ c.requires.deep c.requires.block

pub meeting-met-requires : goal.meeting-met-requires
meeting-met-requires t c = let a = shown_here c.narrowed-here.ensures.m_is c.requires in record { deep = a.deep; block = a.block }

-- a node that is passed over
pub end-requires : goal.end-requires
end-requires t c = end_in-map _ c.requires.deep c.requires.block

pub pass_over-requires : goal.pass_over-requires
pass_over-requires t c = (met_readable c.meeting-met.ensures, end_asked c.requires.picture _ _ _ _ c.requires.shown c.end.ensures)

pub returns-then-not-is_cut : goal.returns-then-not-is_cut
returns-then-not-is_cut t c =
    narrowed_counted c.narrowed-here.ensures.same c.requires.block (omega arith)
    (over_counted c.meeting-met.ensures (sym c.is_cut.ensures ∙ c.if-not-is_cut.true) refl c.end.ensures c.pass_over.ensures)

-- its quadrants, one after the other
pub overflow_add-first : goal.overflow_add-first
overflow_add-first t c = let h = shown_some c.requires.picture _ _ _ _ c.requires.shown in omega (arith, h, c.requires.shown.in-bits, c.well_formed)

pub child-part-requires : goal.child-part-requires
child-part-requires t c = (divides _ c.requires.deep c.requires.block (shown_positive c.requires (sym c.has_one_slot.ensures ∙ c.if-has_one_slot.false)), omega arith)

pub tally_records-nw-requires : goal.tally_records-nw-requires
tally_records-nw-requires t c = (
  child_lower _ 1 c.child-part.ensures (shown_positive c.requires (sym c.has_one_slot.ensures ∙ c.if-has_one_slot.false)) c.decreases,
  shown_here c.narrowed-here.ensures.m_is (asks_nw (step_by c.narrowed-here.result) c.requires (sym c.has_one_slot.ensures ∙ c.if-has_one_slot.false) c.child-part.ensures),
)

pub child-part-requires-2 : goal.child-part-requires-2
child-part-requires-2 t c = (divides _ c.requires.deep c.requires.block (shown_positive c.requires (sym c.has_one_slot.ensures ∙ c.if-has_one_slot.false)), omega arith)

pub tally_records-ne-requires : goal.tally_records-ne-requires
tally_records-ne-requires t c = (
  child_lower _ 2 c.child-part-2.ensures (shown_positive c.requires (sym c.has_one_slot.ensures ∙ c.if-has_one_slot.false)) c.decreases,
  shown_here c.narrowed-here.ensures.m_is (asks_ne _ c.requires (sym c.has_one_slot.ensures ∙ c.if-has_one_slot.false) c.child-part.ensures c.tally_records-nw.ensures c.child-part-2.ensures),
)

pub child-part-requires-3 : goal.child-part-requires-3
child-part-requires-3 t c = (divides _ c.requires.deep c.requires.block (shown_positive c.requires (sym c.has_one_slot.ensures ∙ c.if-has_one_slot.false)), omega arith)

pub tally_records-sw-requires : goal.tally_records-sw-requires
tally_records-sw-requires t c = (
  child_lower _ 3 c.child-part-3.ensures (shown_positive c.requires (sym c.has_one_slot.ensures ∙ c.if-has_one_slot.false)) c.decreases,
  shown_here c.narrowed-here.ensures.m_is (asks_sw _ c.requires (sym c.has_one_slot.ensures ∙ c.if-has_one_slot.false) c.child-part.ensures c.tally_records-nw.ensures c.child-part-2.ensures c.tally_records-ne.ensures c.child-part-3.ensures),
)

pub child-part-requires-4 : goal.child-part-requires-4
child-part-requires-4 t c = (divides _ c.requires.deep c.requires.block (shown_positive c.requires (sym c.has_one_slot.ensures ∙ c.if-has_one_slot.false)), omega arith)

pub tally_records-se-requires : goal.tally_records-se-requires
tally_records-se-requires t c = (
  child_lower _ 4 c.child-part-4.ensures (shown_positive c.requires (sym c.has_one_slot.ensures ∙ c.if-has_one_slot.false)) c.decreases,
  shown_here c.narrowed-here.ensures.m_is (asks_se _ c.requires (sym c.has_one_slot.ensures ∙ c.if-has_one_slot.false) c.child-part.ensures c.tally_records-nw.ensures c.child-part-2.ensures c.tally_records-ne.ensures c.child-part-3.ensures c.tally_records-sw.ensures c.child-part-4.ensures),
)

-- what joining asks: a quadrant has few records
pub joined-tally-requires : goal.joined-tally-requires
joined-tally-requires t c =
    let low : c.args.block.height ≤ 10 = let w = within c.requires.block in omega (arith, w.height, c.requires.deep) in (
      counted_small _ 1 c.child-part.ensures low (asks_nw (step_by c.narrowed-here.result) c.requires (sym c.has_one_slot.ensures ∙ c.if-has_one_slot.false) c.child-part.ensures) c.tally_records-nw.ensures,
      counted_small _ 2 c.child-part-2.ensures low (asks_ne _ c.requires (sym c.has_one_slot.ensures ∙ c.if-has_one_slot.false) c.child-part.ensures c.tally_records-nw.ensures c.child-part-2.ensures) c.tally_records-ne.ensures,
      counted_small _ 3 c.child-part-3.ensures low (asks_sw _ c.requires (sym c.has_one_slot.ensures ∙ c.if-has_one_slot.false) c.child-part.ensures c.tally_records-nw.ensures c.child-part-2.ensures c.tally_records-ne.ensures c.child-part-3.ensures) c.tally_records-sw.ensures,
      counted_small _ 4 c.child-part-4.ensures low (asks_se _ c.requires (sym c.has_one_slot.ensures ∙ c.if-has_one_slot.false) c.child-part.ensures c.tally_records-nw.ensures c.child-part-2.ensures c.tally_records-ne.ensures c.child-part-3.ensures c.tally_records-sw.ensures c.child-part-4.ensures) c.tally_records-se.ensures,
    )

pub returns : goal.returns
returns t c =
    narrowed_counted c.narrowed-here.ensures.same c.requires.block (omega arith)
    (gives_node _ c.requires (sym c.has_one_slot.ensures ∙ c.if-has_one_slot.false) c.child-part.ensures c.tally_records-nw.ensures c.child-part-2.ensures c.tally_records-ne.ensures c.child-part-3.ensures c.tally_records-sw.ensures c.child-part-4.ensures c.tally_records-se.ensures c.joined-tally.ensures)
