-- Before each turn the children passed so far are checked and counted, at the step 5.
use mathlib.Core.Path.{sym, ◌∙◌}
use native.Mathlib.Omega.{arith}
use Rattle.list.proofs.Turn.{short, other_key, differs}
use Rattle.summary.proofs.PassTurn.{passing_begins, refuses, passes, leaf_passes, node_refuses, node_passes}
use Rattle.summary.proofs.PassPixels.{pixels_false, pixels_true}
use Rattle.summary.proofs.pass.pass_sixteen.Goals as goal
use Rattle.summary.proofs.pass.pass_sixteen.Goals.{then-has_one_slot, else-has_one_slot+else-not-pass_pixels}

pub loop-digit-init : goal.loop-digit-init
loop-digit-init c = passing_begins c.requires

pub returns-then-keys-next : goal.returns-then-keys-next
returns-then-keys-next c =
    refuses c.requires c.loop-digit.invariant (short c.loop-digit.invariant.checked c.loop-digit-test.true c.if-keys-next.true)

pub returns-then-keys-next-2 : goal.returns-then-keys-next-2
returns-then-keys-next-2 c =
    let pre = c.requires in
    refuses pre c.loop-digit.invariant (other_key c.loop-digit.invariant.checked c.loop-digit-test.true c.if-keys-next.false c.child-child.ensures c.if-keys-next-2.true)

pub returns-then-union-own : goal.returns-then-union-own
returns-then-union-own c =
    passes c.requires c.loop-digit.invariant c.loop-digit-test.false c.if-union-own.true

pub returns-else-union-own : goal.returns-else-union-own
returns-else-union-own c =
    refuses c.requires c.loop-digit.invariant (differs c.loop-digit.invariant.checked c.loop-digit-test.false c.if-union-own.false)

pub loop-digit-preserved : goal.loop-digit-preserved
loop-digit-preserved c =
    let pre = c.requires in
    elim c.if-has_one_slot.branch [
      | then-has_one_slot w ↦
          rw w.next-is
          (leaf_passes pre c.loop-digit.invariant c.loop-digit-test.true c.if-keys-next.false c.child-child.ensures c.if-keys-next-2.false c.if-has_one_slot.counts
          (sym c.has_one_slot.ensures ∙ w.if-has_one_slot.true) (w.counts-is ∙ w.count_leaf.ensures))
      | else-has_one_slot+else-not-pass_pixels w ↦
          rw (w.counts-is, w.next-is)
          (node_passes pre c.loop-digit.invariant c.loop-digit-test.true c.if-keys-next.false c.child-child.ensures c.if-keys-next-2.false (sym c.has_one_slot.ensures ∙ w.if-has_one_slot.false) _ _ (omega arith)
          (pixels_true w.pass_pixels.result w.pass_pixels.ensures w.if-not-pass_pixels.false))
    ]

pub returns-then-not-pass_pixels : goal.returns-then-not-pass_pixels
returns-then-not-pass_pixels c =
    let pre = c.requires in
    node_refuses pre c.loop-digit.invariant c.loop-digit-test.true c.if-keys-next.false c.child-child.ensures c.if-keys-next-2.false (sym c.has_one_slot.ensures ∙ c.if-has_one_slot.false)
    (pixels_false c.pass_pixels.result c.pass_pixels.ensures c.if-not-pass_pixels.true)
