-- `lay::lay_below`: four pixels have their own function, the next leaf is the block, or the four quadrants one after the other and then their own records. The step
-- falls at each call.
use Prim.Native.Nat.{ℕ, ◌+◌, ◌^◌, ◌≤◌, ◌<◌}
use mathlib.Core.List.{List}
use mathlib.Core.Path.{◌≡◌}
use native.Mathlib.Omega.{arith}
use Rattle.keys.specs.Span.{child_span}
use Rattle.keys.specs.declared.span.KeySpan.{KeySpan}
use Rattle.keys.proofs.SpanChild.{child_fewer}
use Rattle.leaves.specs.Delivered.{LayAsked}
use Rattle.leaves.proofs.Quarters.{parted_there}
use Rattle.leaves.proofs.LayBlock.{laid_leaf, ready_nw, ready_ne, ready_sw, ready_se, ready_four, laid_four}
use Rattle.leaves.proofs.lay.+lay_below.Goals as goal

-- past the test the block has quadrants: what a call for one of them asks
module _ {leafKeys leafFeatures : List ℕ} {span : KeySpan} {at place : ℕ} {keys bits : List ℕ} (a : LayAsked leafKeys leafFeatures span at place keys bits) where
  divides : (d : ℕ) → d ≤ 4 → (span.key + span.step ≤ 5 ^ 10) × (d ≤ 4)
  divides d low = (a.asked.key_fits, low)

  lower : (t : ℕ) → span.step ≡ t → (d : ℕ) {q : KeySpan} → q ≡ child_span span d → q.step < t
  lower t m d e = let f = child_fewer span a.asked.height d e a.asked.step_is in omega arith

pub returns-then-leaf_keys-at : goal.returns-then-leaf_keys-at
returns-then-leaf_keys-at t c =
    rw c.lay_leaf.ensures (laid_leaf (parted_there c.requires.parted) c.if-leaf_keys-at.true)

pub lay_below-nw-requires : goal.lay_below-nw-requires
lay_below-nw-requires t c =
    let f = c.child-nw_span.ensures in
    (lower c.requires t c.decreases 1 f, ready_nw c.requires c.if-leaf_keys-at.false f)

pub lay_below-ne-requires : goal.lay_below-ne-requires
lay_below-ne-requires t c =
    let f = c.child-ne_span.ensures in
    (lower c.requires t c.decreases 2 f, ready_ne c.requires c.if-leaf_keys-at.false c.child-nw_span.ensures c.lay_below-nw.ensures f)

pub lay_below-sw-requires : goal.lay_below-sw-requires
lay_below-sw-requires t c =
    let f = c.child-sw_span.ensures in (
      lower c.requires t c.decreases 3 f,
      ready_sw c.requires c.if-leaf_keys-at.false
          c.child-nw_span.ensures c.lay_below-nw.ensures
          c.child-ne_span.ensures c.lay_below-ne.ensures f,
    )

pub lay_below-se-requires : goal.lay_below-se-requires
lay_below-se-requires t c =
    let f = c.child-se_span.ensures in (
      lower c.requires t c.decreases 4 f,
      ready_se c.requires c.if-leaf_keys-at.false
          c.child-nw_span.ensures c.lay_below-nw.ensures
          c.child-ne_span.ensures c.lay_below-ne.ensures
          c.child-sw_span.ensures c.lay_below-sw.ensures f,
    )

pub write_four-below-requires : goal.write_four-below-requires
write_four-below-requires t c =
    ready_four c.requires c.if-leaf_keys-at.false
    c.child-nw_span.ensures c.lay_below-nw.ensures
    c.child-ne_span.ensures c.lay_below-ne.ensures
    c.child-sw_span.ensures c.lay_below-sw.ensures
    c.child-se_span.ensures c.lay_below-se.ensures

pub returns : goal.returns
returns t c =
    laid_four c.requires c.if-leaf_keys-at.false
    c.child-nw_span.ensures c.lay_below-nw.ensures
    c.child-ne_span.ensures c.lay_below-ne.ensures
    c.child-sw_span.ensures c.lay_below-sw.ensures
    c.child-se_span.ensures c.lay_below-se.ensures
    c.write_four-below.ensures
