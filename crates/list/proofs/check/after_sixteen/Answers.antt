-- `check::after_sixteen` meets its contract: each way out answers what the model does there, at the step 5. Rests on Turn, Pixels and AfterNode.
use Prim.Native.Nat.{◌+◌}
use mathlib.Core.Path.{refl, sym, ◌∙◌}
use native.Mathlib.Omega.{arith}
use Rattle.list.proofs.Pixels.{right_false, right_true}
use Rattle.list.proofs.AfterNode.{none_after, some_after}
use Rattle.list.proofs.Turn.{step_one, turn_begins, ends, differs, short, other_key, child_at, wrong_child, goes_leaf, goes_node}
use Rattle.list.proofs.check.after_sixteen.Goals as goal
use Rattle.list.proofs.check.after_sixteen.Goals.{then-not-has_one_slot+else-not-four_pixels, else-not-has_one_slot}

pub loop-digit-init : goal.loop-digit-init
loop-digit-init c = record { passed = turn_begins _ _ _ _ _ _ c.requires (λ z. omega arith); past = λ h. absurd (omega arith) }

pub returns-then-keys-next : goal.returns-then-keys-next
returns-then-keys-next c = none_after (short c.loop-digit.invariant.passed c.loop-digit-test.true (omega (arith, c.if-keys-next.true)))

pub returns-then-keys-next-2 : goal.returns-then-keys-next-2
returns-then-keys-next-2 c =
    none_after (other_key c.loop-digit.invariant.passed c.loop-digit-test.true c.if-keys-next.false c.child-child.ensures c.if-keys-next-2.true)

pub returns-then-not-four_pixels : goal.returns-then-not-four_pixels
returns-then-not-four_pixels c =
    let i = c.loop-digit.invariant.passed in
    none_after
    (wrong_child i c.loop-digit-test.true c.if-keys-next.false c.child-child.ensures c.if-keys-next-2.false (sym c.has_one_slot.ensures ∙ c.if-not-has_one_slot.true) 0 refl
    (child_at i c.loop-digit-test.true c.if-keys-next.false c.child-child.ensures c.if-keys-next-2.false 1 step_one 0
    (right_false c.four_pixels.result (c.loop-digit.next + 1 + 4) _ c.if-not-four_pixels.true c.four_pixels.ensures.1)))

pub loop-digit-preserved : goal.loop-digit-preserved
loop-digit-preserved c =
    let i = c.loop-digit.invariant.passed in
    elim c.if-not-has_one_slot.branch [
      | then-not-has_one_slot+else-not-four_pixels w ↦
          let within = w.four_pixels.ensures.0 w.if-not-four_pixels.false in
          rw w.next-is
          record {
            passed =
                goes_node i c.loop-digit-test.true c.if-keys-next.false c.child-child.ensures c.if-keys-next-2.false (sym c.has_one_slot.ensures ∙ w.if-not-has_one_slot.true)
                (c.loop-digit.next + 1 + 4) (λ z. omega arith) within
                (child_at i c.loop-digit-test.true c.if-keys-next.false c.child-child.ensures c.if-keys-next-2.false 1 step_one _
                (right_true w.four_pixels.result (c.loop-digit.next + 1 + 4) _ w.if-not-four_pixels.false w.four_pixels.ensures.1));
            past = λ h. omega arith;
          }
      | else-not-has_one_slot w ↦
          rw w.next-is
          record {
            passed = goes_leaf i c.loop-digit-test.true c.if-keys-next.false c.child-child.ensures c.if-keys-next-2.false (sym c.has_one_slot.ensures ∙ w.if-not-has_one_slot.false);
            past = λ h. omega arith;
          }
    ]

pub returns-then-union-own : goal.returns-then-union-own
returns-then-union-own c =
    let i = c.loop-digit.invariant in
    some_after _ i.passed.within (i.past (omega arith)) (ends i.passed c.loop-digit-test.false c.if-union-own.true)

pub returns-else-union-own : goal.returns-else-union-own
returns-else-union-own c = none_after (differs c.loop-digit.invariant.passed c.loop-digit-test.false c.if-union-own.false)
