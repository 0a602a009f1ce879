-- Before each turn the children passed so far are checked and counted. It ends because a call for a child has a
-- fifth of the step.
use mathlib.Core.Path.{sym, ◌∙◌}
use native.Mathlib.Omega.{arith}
use Rattle.list.proofs.Turn.{short, other_key, differs}
use Rattle.summary.proofs.PassTurn.{passing_begins, refuses, passes, leaf_passes, node_asked, node_refuses, node_passes, larger, sixteen_asked, sixteen_answered}
use Rattle.summary.proofs.pass.+pass_node.Goals as goal
use Rattle.summary.proofs.pass.+pass_node.Goals.{then-has_one_slot, else-has_one_slot+then-lower-eq5+in_ok-next, else-has_one_slot+else-lower-eq5+in_ok-next-2}

pub loop-digit-init : goal.loop-digit-init
loop-digit-init t c = passing_begins c.requires.0

pub returns-then-keys-next : goal.returns-then-keys-next
returns-then-keys-next t c =
    refuses c.requires.0 c.loop-digit.invariant (short c.loop-digit.invariant.checked c.loop-digit-test.true c.if-keys-next.true)

pub returns-then-keys-next-2 : goal.returns-then-keys-next-2
returns-then-keys-next-2 t c =
    refuses c.requires.0 c.loop-digit.invariant (other_key c.loop-digit.invariant.checked c.loop-digit-test.true c.if-keys-next.false c.child-child.ensures c.if-keys-next-2.true)

pub pass_sixteen-requires : goal.pass_sixteen-requires
pass_sixteen-requires t c =
    let pre = c.requires in
    sixteen_asked
    (node_asked pre.0 c.loop-digit.invariant c.loop-digit-test.true c.if-keys-next.false c.child-child.ensures c.if-keys-next-2.false (sym c.has_one_slot.ensures ∙ c.if-has_one_slot.false) (omega (arith, pre.1)))
    c.if-lower-eq5.true

pub pass_node-requires : goal.pass_node-requires
pass_node-requires t c =
    let pre = c.requires in
    let asked = node_asked pre.0 c.loop-digit.invariant c.loop-digit-test.true c.if-keys-next.false c.child-child.ensures c.if-keys-next-2.false (sym c.has_one_slot.ensures ∙ c.if-has_one_slot.false) (omega (arith, pre.1)) in
    (omega (arith, c.decreases, pre.1), (asked, larger _ _ asked.level (omega (arith, pre.1)) c.if-lower-eq5.false))

pub returns-then-union-own : goal.returns-then-union-own
returns-then-union-own t c =
    passes c.requires.0 c.loop-digit.invariant c.loop-digit-test.false c.if-union-own.true

pub returns-else-union-own : goal.returns-else-union-own
returns-else-union-own t c =
    refuses c.requires.0 c.loop-digit.invariant (differs c.loop-digit.invariant.checked c.loop-digit-test.false c.if-union-own.false)

pub loop-digit-preserved : goal.loop-digit-preserved
loop-digit-preserved t c =
    let pre = c.requires in
    elim c.if-has_one_slot.branch [
      | then-has_one_slot w ↦
          rw w.next-is
          (leaf_passes pre.0 c.loop-digit.invariant c.loop-digit-test.true c.if-keys-next.false c.child-child.ensures c.if-keys-next-2.false c.if-has_one_slot.counts
          (sym c.has_one_slot.ensures ∙ w.if-has_one_slot.true) (w.counts-is ∙ w.count_leaf.ensures))
      | else-has_one_slot+then-lower-eq5+in_ok-next w ↦
          let several = sym c.has_one_slot.ensures ∙ w.if-has_one_slot.false in
          let asked = node_asked pre.0 c.loop-digit.invariant c.loop-digit-test.true c.if-keys-next.false c.child-child.ensures c.if-keys-next-2.false several (omega (arith, pre.1)) in
          rw (w.counts-is, w.next-is)
          (node_passes pre.0 c.loop-digit.invariant c.loop-digit-test.true c.if-keys-next.false c.child-child.ensures c.if-keys-next-2.false several _ _ (omega (arith, pre.1))
          (sixteen_answered asked w.if-lower-eq5.true w.in_ok-next.ensures))
      | else-has_one_slot+else-lower-eq5+in_ok-next-2 w ↦
          rw (w.counts-is, w.next-is)
          (node_passes pre.0 c.loop-digit.invariant c.loop-digit-test.true c.if-keys-next.false c.child-child.ensures c.if-keys-next-2.false (sym c.has_one_slot.ensures ∙ w.if-has_one_slot.false) _ _ (omega (arith, pre.1))
          w.in_ok-next-2.ensures)
    ]

pub returns-in_err-next : goal.returns-in_err-next
returns-in_err-next t c =
    let pre = c.requires in
    let several = sym c.has_one_slot.ensures ∙ c.if-has_one_slot.false in
    let asked = node_asked pre.0 c.loop-digit.invariant c.loop-digit-test.true c.if-keys-next.false c.child-child.ensures c.if-keys-next-2.false several (omega (arith, pre.1)) in
    rw c.from_residual.ensures
    (node_refuses pre.0 c.loop-digit.invariant c.loop-digit-test.true c.if-keys-next.false c.child-child.ensures c.if-keys-next-2.false several (sixteen_answered asked c.if-lower-eq5.true c.in_err-next.ensures))

pub returns-in_err-next-2 : goal.returns-in_err-next-2
returns-in_err-next-2 t c =
    rw c.from_residual-in_err-next-2.ensures
    (node_refuses c.requires.0 c.loop-digit.invariant c.loop-digit-test.true c.if-keys-next.false c.child-child.ensures c.if-keys-next-2.false (sym c.has_one_slot.ensures ∙ c.if-has_one_slot.false) c.in_err-next-2.ensures)
