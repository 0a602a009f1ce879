-- `write::write_block`: two leaves have nothing below them, else the four quadrants are written one after the other and then
-- their own records. The step falls at each call.
use Prim.Native.Nat.{ℕ, ◌+◌, ◌^◌, ◌≤◌, ◌<◌}
use mathlib.Core.List.{List}
use mathlib.Core.Path.{◌≡◌}
use native.Mathlib.Omega.{arith}
use Rattle.keys.specs.Span.{child_span}
use Rattle.keys.specs.declared.span.KeySpan.{KeySpan}
use Rattle.keys.proofs.SpanChild.{child_fewer}
use Rattle.combine.specs.Combining.{CombineWriteAsked}
use Rattle.combine.specs.declared.cursor.Pair.{Pair}
use Rattle.combine.proofs.TwoLeaves.{leaves_slots, leaves_named, leaves_made}
use Rattle.combine.proofs.FourCalls.{records_there}
use Rattle.combine.proofs.FourWrites.{span_fits, writes_nw, writes_ne, writes_sw, writes_se, four_asked, node_made}
use Rattle.combine.proofs.write.+write_block.Goals as goal

pub enter_both-here-requires : goal.enter_both-here-requires
enter_both-here-requires t c = records_there c.requires.asked

pub class_bits-own-requires : goal.class_bits-own-requires
class_bits-own-requires t c =
    let a = c.requires.asked in
    let e = c.enter_both-here.ensures in
    record {
      first_value = leaves_slots _ a.seen e c.in-Some.ensures;
      second_in_bounds = leaves_named _ a.seen e c.in-Some.ensures a.named;
    }

pub returns-in-Some : goal.returns-in-Some
returns-in-Some t c = leaves_made _ c.enter_both-here.ensures c.in-Some.ensures c.class_bits-own.ensures c.passed-next.ensures _ _ _

module _ {bits₁ bits₂ table : List ℕ} {s₂ : ℕ} {span : KeySpan} {x : Pair} {place : ℕ} {keys bits : List ℕ}
    (w : CombineWriteAsked bits₁ bits₂ table s₂ span x place keys bits) where
  divides : (d : ℕ) → d ≤ 4 → (span.key + span.step ≤ 5 ^ 10) × (d ≤ 4)
  divides d h = (span_fits w, h)

  lower : (t : ℕ) → span.step ≡ t → (d : ℕ) {q : KeySpan} → q ≡ child_span span d → q.step < t
  lower t m d f = let h = child_fewer span _ d f w.asked.seen.step_is in omega arith

pub write_block-nw-requires : goal.write_block-nw-requires
write_block-nw-requires t c =
    let f = c.child-nw_span.ensures in
    (lower c.requires t c.decreases 1 f, writes_nw c.requires c.enter_both-here.ensures c.in_default.ensures f)

pub write_block-ne-requires : goal.write_block-ne-requires
write_block-ne-requires t c =
    let f = c.child-ne_span.ensures in
    (lower c.requires t c.decreases 2 f, writes_ne c.requires c.enter_both-here.ensures c.in_default.ensures c.child-nw_span.ensures c.write_block-nw.ensures f)

pub write_block-sw-requires : goal.write_block-sw-requires
write_block-sw-requires t c =
    let f = c.child-sw_span.ensures in (
      lower c.requires t c.decreases 3 f,
      writes_sw c.requires c.enter_both-here.ensures c.in_default.ensures
          c.child-nw_span.ensures c.write_block-nw.ensures
          c.child-ne_span.ensures c.write_block-ne.ensures f,
    )

pub write_block-se-requires : goal.write_block-se-requires
write_block-se-requires t c =
    let f = c.child-se_span.ensures in (
      lower c.requires t c.decreases 4 f,
      writes_se c.requires c.enter_both-here.ensures c.in_default.ensures
          c.child-nw_span.ensures c.write_block-nw.ensures
          c.child-ne_span.ensures c.write_block-ne.ensures
          c.child-sw_span.ensures c.write_block-sw.ensures f,
    )

pub write_four-below-requires : goal.write_four-below-requires
write_four-below-requires t c =
    four_asked c.requires c.enter_both-here.ensures c.in_default.ensures
    c.child-nw_span.ensures c.write_block-nw.ensures
    c.child-ne_span.ensures c.write_block-ne.ensures
    c.child-sw_span.ensures c.write_block-sw.ensures
    c.child-se_span.ensures c.write_block-se.ensures

pub returns : goal.returns
returns t c =
    node_made c.requires c.enter_both-here.ensures c.in_default.ensures
    c.child-nw_span.ensures c.write_block-nw.ensures
    c.child-ne_span.ensures c.write_block-ne.ensures
    c.child-sw_span.ensures c.write_block-sw.ensures
    c.child-se_span.ensures c.write_block-se.ensures
    c.write_four-below.ensures c.passed-next-2.ensures
