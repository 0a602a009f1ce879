-- `tally_leaf` meets its contract: the leaf stays one, or its quadrants are asked. The height falls at each call.
use Rattle.std.proofs.Common.{sym, ◌∙◌, arith}
use Rattle.deeds.proofs.Meetings.{met_cut}
use Rattle.apply_deed.proofs.Asked.{leaf_here, leaf_ends, leaf_low, leaf_divides, leaf_quadrant}
use Rattle.apply_deed.proofs.ByDigits.{few_below, four_tallied}
use Rattle.apply_deed.proofs.Narrowed.{narrowed_tallied}
use Rattle.apply_deed.proofs.Known.{known_tallied, own_leaf_bits, leaf_records}
use Rattle.apply_deed.proofs.tally.+tally_leaf.Goals as goal

pub narrowed-here-requires : goal.narrowed-here-requires
narrowed-here-requires t c = leaf_ends c.requires

pub returns-then-not-is_cut : goal.returns-then-not-is_cut
returns-then-not-is_cut t c =
    narrowed_tallied c.narrowed-here.ensures.same c.requires.block (omega arith) _
    (known_tallied _ (own_leaf_bits _ _ _ _ c.requires.leaf) (leaf_records _ _ _ _ _) c.meeting-met.ensures
    (sym c.is_cut.ensures ∙ c.if-not-is_cut.true) c.known.ensures)

-- its quadrants, one after the other
pub child-requires : goal.child-requires
child-requires t c = (leaf_divides c.requires (met_cut c.meeting-met.ensures (sym c.is_cut.ensures ∙ c.if-not-is_cut.false)), omega arith)

pub tally_leaf-nw-requires : goal.tally_leaf-nw-requires
tally_leaf-nw-requires t c =
    leaf_quadrant (leaf_here c.narrowed-here.ensures.m_is c.requires) (met_cut c.meeting-met.ensures (sym c.is_cut.ensures ∙ c.if-not-is_cut.false)) c.decreases
    1 c.child.ensures (omega arith) (omega arith)

pub child-requires-2 : goal.child-requires-2
child-requires-2 t c = (leaf_divides c.requires (met_cut c.meeting-met.ensures (sym c.is_cut.ensures ∙ c.if-not-is_cut.false)), omega arith)

pub tally_leaf-ne-requires : goal.tally_leaf-ne-requires
tally_leaf-ne-requires t c =
    leaf_quadrant (leaf_here c.narrowed-here.ensures.m_is c.requires) (met_cut c.meeting-met.ensures (sym c.is_cut.ensures ∙ c.if-not-is_cut.false)) c.decreases
    2 c.child-2.ensures (omega arith) (omega arith)

pub child-requires-3 : goal.child-requires-3
child-requires-3 t c = (leaf_divides c.requires (met_cut c.meeting-met.ensures (sym c.is_cut.ensures ∙ c.if-not-is_cut.false)), omega arith)

pub tally_leaf-sw-requires : goal.tally_leaf-sw-requires
tally_leaf-sw-requires t c =
    leaf_quadrant (leaf_here c.narrowed-here.ensures.m_is c.requires) (met_cut c.meeting-met.ensures (sym c.is_cut.ensures ∙ c.if-not-is_cut.false)) c.decreases
    3 c.child-3.ensures (omega arith) (omega arith)

pub child-requires-4 : goal.child-requires-4
child-requires-4 t c = (leaf_divides c.requires (met_cut c.meeting-met.ensures (sym c.is_cut.ensures ∙ c.if-not-is_cut.false)), omega arith)

pub tally_leaf-se-requires : goal.tally_leaf-se-requires
tally_leaf-se-requires t c =
    leaf_quadrant (leaf_here c.narrowed-here.ensures.m_is c.requires) (met_cut c.meeting-met.ensures (sym c.is_cut.ensures ∙ c.if-not-is_cut.false)) c.decreases
    4 c.child-4.ensures (omega arith) (omega arith)

pub joined-requires : goal.joined-requires
joined-requires t c =
    let low = leaf_low c.requires in (
      few_below _ 1 c.child.ensures low c.tally_leaf-nw.ensures,
      few_below _ 2 c.child-2.ensures low c.tally_leaf-ne.ensures,
      few_below _ 3 c.child-3.ensures low c.tally_leaf-sw.ensures,
      few_below _ 4 c.child-4.ensures low c.tally_leaf-se.ensures,
    )

pub returns : goal.returns
returns t c =
    narrowed_tallied c.narrowed-here.ensures.same c.requires.block (omega arith) _
    (four_tallied _ (met_cut c.meeting-met.ensures (sym c.is_cut.ensures ∙ c.if-not-is_cut.false))
    c.child.ensures c.child-2.ensures c.child-3.ensures c.child-4.ensures
    c.tally_leaf-nw.ensures c.tally_leaf-ne.ensures c.tally_leaf-sw.ensures c.tally_leaf-se.ensures c.joined.ensures)
