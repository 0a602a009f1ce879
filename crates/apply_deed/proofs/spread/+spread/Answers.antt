-- `spread` meets its contract: the four quadrants from the last to the first, and then their own records. The height falls at each call.
use Rattle.std.proofs.Common.{sym, ◌∙◌, arith}
use Rattle.deeds.proofs.Meetings.{met_cut}
use Rattle.apply_deed.proofs.Asked.{leaf_here, leaf_ends, leaf_divides, leaf_quadrant}
use Rattle.apply_deed.proofs.LaidContent.{met_layable, laid_written}
use Rattle.apply_deed.proofs.Narrowed.{narrowed_fitting, narrowed_written}
use Rattle.apply_deed.proofs.SpreadQuarters.{spreads_se, spreads_sw, spreads_ne, spreads_nw, spreads_four, spread_all}
use Rattle.apply_deed.proofs.spread.+spread.Goals as goal

-- a leaf that one look settles
pub narrowed-here-requires : goal.narrowed-here-requires
narrowed-here-requires t c = leaf_ends c.requires.leaf_asked

pub lay-requires : goal.lay-requires
lay-requires t c = met_layable c.meeting-met.ensures _ (narrowed_fitting c.narrowed-here.ensures.same c.requires.leaf_asked.block (omega arith) _ c.requires.fitting_before)

pub returns-then-not-is_cut : goal.returns-then-not-is_cut
returns-then-not-is_cut t c =
    narrowed_written c.narrowed-here.ensures.same c.requires.leaf_asked.block (omega arith) _
    (laid_written c.requires.leaf_asked.leaf c.meeting-met.ensures (sym c.is_cut.ensures ∙ c.if-not-is_cut.true) c.lay.ensures)

-- its quadrants, from the last to the first
pub child-part-requires : goal.child-part-requires
child-part-requires t c = (leaf_divides c.requires.leaf_asked (met_cut c.meeting-met.ensures (sym c.is_cut.ensures ∙ c.if-not-is_cut.false)), omega arith)

pub spread-se-requires : goal.spread-se-requires
spread-se-requires t c =
    let asks = leaf_quadrant (leaf_here c.narrowed-here.ensures.m_is c.requires.leaf_asked) (met_cut c.meeting-met.ensures (sym c.is_cut.ensures ∙ c.if-not-is_cut.false)) c.decreases 4 c.child-part.ensures (omega arith) (omega arith) in
    (asks.0, (asks.1, spreads_se _ (met_cut c.meeting-met.ensures (sym c.is_cut.ensures ∙ c.if-not-is_cut.false)) (narrowed_fitting c.narrowed-here.ensures.same c.requires.leaf_asked.block (omega arith) _ c.requires.fitting_before) c.child-part.ensures))

pub child-part-requires-2 : goal.child-part-requires-2
child-part-requires-2 t c = (leaf_divides c.requires.leaf_asked (met_cut c.meeting-met.ensures (sym c.is_cut.ensures ∙ c.if-not-is_cut.false)), omega arith)

pub spread-sw-requires : goal.spread-sw-requires
spread-sw-requires t c =
    let asks = leaf_quadrant (leaf_here c.narrowed-here.ensures.m_is c.requires.leaf_asked) (met_cut c.meeting-met.ensures (sym c.is_cut.ensures ∙ c.if-not-is_cut.false)) c.decreases 3 c.child-part-2.ensures (omega arith) (omega arith) in
    (asks.0, (asks.1, spreads_sw _ (met_cut c.meeting-met.ensures (sym c.is_cut.ensures ∙ c.if-not-is_cut.false)) (narrowed_fitting c.narrowed-here.ensures.same c.requires.leaf_asked.block (omega arith) _ c.requires.fitting_before) c.child-part.ensures c.spread-se.ensures c.child-part-2.ensures))

pub child-part-requires-3 : goal.child-part-requires-3
child-part-requires-3 t c = (leaf_divides c.requires.leaf_asked (met_cut c.meeting-met.ensures (sym c.is_cut.ensures ∙ c.if-not-is_cut.false)), omega arith)

pub spread-ne-requires : goal.spread-ne-requires
spread-ne-requires t c =
    let asks = leaf_quadrant (leaf_here c.narrowed-here.ensures.m_is c.requires.leaf_asked) (met_cut c.meeting-met.ensures (sym c.is_cut.ensures ∙ c.if-not-is_cut.false)) c.decreases 2 c.child-part-3.ensures (omega arith) (omega arith) in
    (asks.0, (asks.1, spreads_ne _ (met_cut c.meeting-met.ensures (sym c.is_cut.ensures ∙ c.if-not-is_cut.false)) (narrowed_fitting c.narrowed-here.ensures.same c.requires.leaf_asked.block (omega arith) _ c.requires.fitting_before) c.child-part.ensures c.spread-se.ensures c.child-part-2.ensures c.spread-sw.ensures c.child-part-3.ensures))

pub child-part-requires-4 : goal.child-part-requires-4
child-part-requires-4 t c = (leaf_divides c.requires.leaf_asked (met_cut c.meeting-met.ensures (sym c.is_cut.ensures ∙ c.if-not-is_cut.false)), omega arith)

pub spread-nw-requires : goal.spread-nw-requires
spread-nw-requires t c =
    let asks = leaf_quadrant (leaf_here c.narrowed-here.ensures.m_is c.requires.leaf_asked) (met_cut c.meeting-met.ensures (sym c.is_cut.ensures ∙ c.if-not-is_cut.false)) c.decreases 1 c.child-part-4.ensures (omega arith) (omega arith) in
    (asks.0, (asks.1, spreads_nw _ (met_cut c.meeting-met.ensures (sym c.is_cut.ensures ∙ c.if-not-is_cut.false)) (narrowed_fitting c.narrowed-here.ensures.same c.requires.leaf_asked.block (omega arith) _ c.requires.fitting_before) c.child-part.ensures c.spread-se.ensures c.child-part-2.ensures c.spread-sw.ensures c.child-part-3.ensures c.spread-ne.ensures c.child-part-4.ensures))

pub settle_four-requires : goal.settle_four-requires
settle_four-requires t c = spreads_four _ (met_cut c.meeting-met.ensures (sym c.is_cut.ensures ∙ c.if-not-is_cut.false)) (narrowed_fitting c.narrowed-here.ensures.same c.requires.leaf_asked.block (omega arith) _ c.requires.fitting_before) c.child-part.ensures c.spread-se.ensures c.child-part-2.ensures c.spread-sw.ensures c.child-part-3.ensures c.spread-ne.ensures c.child-part-4.ensures c.spread-nw.ensures (leaf_ends c.requires.leaf_asked)

pub returns : goal.returns
returns t c =
    narrowed_written c.narrowed-here.ensures.same c.requires.leaf_asked.block (omega arith) _
    (spread_all _ (met_cut c.meeting-met.ensures (sym c.is_cut.ensures ∙ c.if-not-is_cut.false)) (narrowed_fitting c.narrowed-here.ensures.same c.requires.leaf_asked.block (omega arith) _ c.requires.fitting_before) c.child-part.ensures c.spread-se.ensures c.child-part-2.ensures c.spread-sw.ensures c.child-part-3.ensures c.spread-ne.ensures c.child-part-4.ensures c.spread-nw.ensures c.settle_four.ensures)
