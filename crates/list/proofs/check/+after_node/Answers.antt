-- `check::after_node` meets its contract: each way out answers what the model does there. Rests on Turn and AfterNode.
use mathlib.Core.Path.{refl, sym, ◌∙◌}
use native.Mathlib.Omega.{arith}
use Rattle.list.proofs.AfterNode.{none_after, some_after, at_five}
use Rattle.list.proofs.Turn.{turn_begins, ends, differs, short, other_key, wrong_child, goes_leaf, goes_node}
use Rattle.list.proofs.check.+after_node.Goals as goal
use Rattle.list.proofs.check.+after_node.Goals.{then-not-has_one_slot+then-lower-eq5+in_ok-next, then-not-has_one_slot+else-lower-eq5+in_ok-next-2, else-not-has_one_slot}

pub loop-digit-init : goal.loop-digit-init
loop-digit-init t c =
    record { passed = turn_begins _ _ _ _ _ _ c.requires (λ z. omega (arith, c.if-step-lt25.false)); past = λ h. absurd (omega arith) }

pub returns-then-keys-next : goal.returns-then-keys-next
returns-then-keys-next t c = none_after (short c.loop-digit.invariant.passed c.loop-digit-test.true (omega (arith, c.if-keys-next.true)))

pub returns-then-keys-next-2 : goal.returns-then-keys-next-2
returns-then-keys-next-2 t c =
    none_after (other_key c.loop-digit.invariant.passed c.loop-digit-test.true c.if-keys-next.false c.child-child.ensures c.if-keys-next-2.true)

pub returns-in_err-next : goal.returns-in_err-next
returns-in_err-next t c =
    rw c.from_residual.ensures
    (none_after
    (wrong_child c.loop-digit.invariant.passed c.loop-digit-test.true c.if-keys-next.false c.child-child.ensures c.if-keys-next-2.false (sym c.has_one_slot.ensures ∙ c.if-not-has_one_slot.true) _ refl
    (at_five c.if-lower-eq5.true c.in_err-next.ensures).checked))

pub returns-in_err-next-2 : goal.returns-in_err-next-2
returns-in_err-next-2 t c =
    rw c.from_residual-in_err-next-2.ensures
    (none_after
    (wrong_child c.loop-digit.invariant.passed c.loop-digit-test.true c.if-keys-next.false c.child-child.ensures c.if-keys-next-2.false (sym c.has_one_slot.ensures ∙ c.if-not-has_one_slot.true) _ refl
    c.in_err-next-2.ensures.checked))

pub loop-digit-preserved : goal.loop-digit-preserved
loop-digit-preserved t c =
    let i = c.loop-digit.invariant.passed in
    elim c.if-not-has_one_slot.branch [
      | then-not-has_one_slot+then-lower-eq5+in_ok-next w ↦
          let a = at_five w.if-lower-eq5.true w.in_ok-next.ensures in
          let some = a.past _ refl in
          rw w.next-is
          record {
            passed =
                goes_node i c.loop-digit-test.true c.if-keys-next.false c.child-child.ensures c.if-keys-next-2.false (sym c.has_one_slot.ensures ∙ w.if-not-has_one_slot.true)
                _ (λ z. omega arith) a.within a.checked;
            past = λ h. some;
          }
      | then-not-has_one_slot+else-lower-eq5+in_ok-next-2 w ↦
          let a = w.in_ok-next-2.ensures in
          let some = a.past _ refl in
          rw w.next-is
          record {
            passed =
                goes_node i c.loop-digit-test.true c.if-keys-next.false c.child-child.ensures c.if-keys-next-2.false (sym c.has_one_slot.ensures ∙ w.if-not-has_one_slot.true)
                _ (λ z. omega arith) a.within a.checked;
            past = λ h. some;
          }
      | else-not-has_one_slot w ↦
          rw w.next-is
          record {
            passed = goes_leaf i c.loop-digit-test.true c.if-keys-next.false c.child-child.ensures c.if-keys-next-2.false (sym c.has_one_slot.ensures ∙ w.if-not-has_one_slot.false);
            past = λ h. omega arith;
          }
    ]

pub returns-then-union-own : goal.returns-then-union-own
returns-then-union-own t c =
    let i = c.loop-digit.invariant in
    some_after _ i.passed.within (i.past (omega arith)) (ends i.passed c.loop-digit-test.false c.if-union-own.true)

pub returns-else-union-own : goal.returns-else-union-own
returns-else-union-own t c = none_after (differs c.loop-digit.invariant.passed c.loop-digit-test.false c.if-union-own.false)
