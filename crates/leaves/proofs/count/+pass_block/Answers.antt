-- `count::pass_block`: four pixels have their own function, no leaf is left, the next is the block, or the quadrants follow. The step
-- falls at each call.
use Prim.Native.Nat.{ℕ, ◌+◌, ◌^◌, ◌≤◌, ◌<◌}
use mathlib.Core.List.{List}
use mathlib.Core.Path.{◌≡◌}
use native.Mathlib.Omega.{arith}
use Rattle.keys.specs.Span.{child_span}
use Rattle.keys.specs.declared.span.KeySpan.{KeySpan}
use Rattle.keys.proofs.SpanChild.{child_fewer}
use Rattle.leaves.specs.Delivered.{LeavesAsked}
use Rattle.leaves.proofs.Quarters.{asked_child}
use Rattle.leaves.proofs.PassBlock.{lost_none, lost_other, lost_nw, lost_ne, lost_sw, lost_se, passed_leaf, passed_four, passed_small}
use Rattle.leaves.proofs.count.+pass_block.Goals as goal

-- past the tests the block has quadrants: what the call for the quadrant of a digit asks
module _ {keys features : List ℕ} {span : KeySpan} (a : LeavesAsked keys features span) where
  divides : (d : ℕ) → d ≤ 4 → (span.key + span.step ≤ 5 ^ 10) × (d ≤ 4)
  divides d low = (a.key_fits, low)

  quadrant : (span.step ≡ 1 → ⊥) → (t : ℕ) → span.step ≡ t → (d : ℕ) → d ≤ 4 → {q : KeySpan} → q ≡ child_span span d
      → (q.step < t) × LeavesAsked keys features q
  quadrant high t m d low e =
      let f = child_fewer span a.height d e a.step_is in
      (omega arith, asked_child a high d low e)

pub returns-then-keys-at : goal.returns-then-keys-at
returns-then-keys-at t c = lost_none _ c.args.features.now _ _ c.if-keys-at.true

pub returns-then-keys-at-2 : goal.returns-then-keys-at-2
returns-then-keys-at-2 t c = rw c.pass_leaf.ensures (passed_leaf _ _ _ _ c.if-keys-at.false c.if-keys-at-2.true)

pub returns-then-span-eq1 : goal.returns-then-span-eq1
returns-then-span-eq1 t c =
    lost_other _ c.args.features.now _ _ c.if-keys-at.false c.if-keys-at-2.false c.if-span-eq1.true

pub pass_block-requires : goal.pass_block-requires
pass_block-requires t c = quadrant c.requires c.if-span-eq1.false t c.decreases 1 (omega arith) c.child.ensures

pub pass_block-requires-2 : goal.pass_block-requires-2
pass_block-requires-2 t c = quadrant c.requires c.if-span-eq1.false t c.decreases 2 (omega arith) c.child-2.ensures

pub pass_block-requires-3 : goal.pass_block-requires-3
pass_block-requires-3 t c = quadrant c.requires c.if-span-eq1.false t c.decreases 3 (omega arith) c.child-3.ensures

pub pass_block-requires-4 : goal.pass_block-requires-4
pass_block-requires-4 t c = quadrant c.requires c.if-span-eq1.false t c.decreases 4 (omega arith) c.child-4.ensures

pub returns-in_err-nw : goal.returns-in_err-nw
returns-in_err-nw t c = rw c.from_residual.ensures (lost_nw _ c.args.features.now c.args.span _ c.if-keys-at.false c.if-keys-at-2.false c.if-span-eq1.false c.child.ensures c.in_err-nw.ensures)

pub returns-in_err-ne : goal.returns-in_err-ne
returns-in_err-ne t c = rw c.from_residual-in_err-ne.ensures (lost_ne _ c.args.features.now c.args.span _ c.if-keys-at.false c.if-keys-at-2.false c.if-span-eq1.false c.child.ensures c.in_ok-nw.ensures c.child-2.ensures c.in_err-ne.ensures)

pub returns-in_err-sw : goal.returns-in_err-sw
returns-in_err-sw t c =
    rw c.from_residual-in_err-sw.ensures
    (lost_sw _ c.args.features.now c.args.span _ c.if-keys-at.false c.if-keys-at-2.false c.if-span-eq1.false c.child.ensures c.in_ok-nw.ensures c.child-2.ensures c.in_ok-ne.ensures c.child-3.ensures c.in_err-sw.ensures)

pub returns-in_err-se : goal.returns-in_err-se
returns-in_err-se t c =
    rw c.from_residual-in_err-se.ensures
    (lost_se _ c.args.features.now c.args.span _ c.if-keys-at.false c.if-keys-at-2.false c.if-span-eq1.false c.child.ensures c.in_ok-nw.ensures c.child-2.ensures c.in_ok-ne.ensures c.child-3.ensures c.in_ok-sw.ensures c.child-4.ensures c.in_err-se.ensures)

pub joined-tally-requires : goal.joined-tally-requires
joined-tally-requires t c =
    let a = c.requires in (
      passed_small a c.if-span-eq1.false 1 c.child.ensures c.in_ok-nw.ensures,
      passed_small a c.if-span-eq1.false 2 c.child-2.ensures c.in_ok-ne.ensures,
      passed_small a c.if-span-eq1.false 3 c.child-3.ensures c.in_ok-sw.ensures,
      passed_small a c.if-span-eq1.false 4 c.child-4.ensures c.in_ok-se.ensures,
    )

pub returns : goal.returns
returns t c =
    passed_four _ _ c.args.span _ c.if-keys-at.false c.if-keys-at-2.false c.if-span-eq1.false
    c.child.ensures c.child-2.ensures c.child-3.ensures c.child-4.ensures
    c.in_ok-nw.ensures c.in_ok-ne.ensures c.in_ok-sw.ensures c.in_ok-se.ensures c.joined-tally.ensures
