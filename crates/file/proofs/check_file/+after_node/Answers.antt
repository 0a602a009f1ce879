-- `check_file::after_node`: each turn passes one child more. It ends because a call for a child has a fifth of the step. Rests on Laid, FileTurn and FileAfter.
use Rattle.std.proofs.Common.{arith, refl, sym, ◌∙◌}
use Rattle.list.proofs.Turn.{child_fits}
use Rattle.file.proofs.Laid.{bytes_laid_at}
use Rattle.file.proofs.FileTurn.{begins_in, ends_in, differs_in, short_in, other_key_in, wrong_child_in, leaf_in, node_in}
use Rattle.file.proofs.FileAfter.{none_after_in, some_after_in, answered_in, same_step}
use Rattle.file.proofs.check_file.+after_node.Goals as goal
use Rattle.file.proofs.check_file.+after_node.Goals.{then-not-has_one_slot+then-lower-eq25+in_ok-next, then-not-has_one_slot+else-lower-eq25+in_ok-next-2, else-not-has_one_slot}

pub after_low-requires : goal.after_low-requires
after_low-requires t c = (c.requires.0, c.requires.1, c.if-step-lt26.true, c.requires.2)

pub loop-digit-init : goal.loop-digit-init
loop-digit-init t c = record { passed = begins_in _ _ _ _ _ _ _ c.requires (λ z. omega (arith, c.if-step-lt26.false)); past = λ h. absurd (omega arith) }

pub returns-then-n-next : goal.returns-then-n-next
returns-then-n-next t c = none_after_in (short_in c.loop-digit.invariant.passed c.loop-digit-test.true c.if-n-next.true)

pub child-child-requires : goal.child-child-requires
child-child-requires t c = let i = c.loop-digit.invariant.passed.passed in (omega (arith, i.fits), omega (arith, c.loop-digit-test.true))

pub key_at-requires : goal.key_at-requires
key_at-requires t c = bytes_laid_at c.loop-digit.invariant.passed.laid _ c.if-n-next.false

pub returns-then-key_at-child : goal.returns-then-key_at-child
returns-then-key_at-child t c =
    none_after_in
    (other_key_in c.loop-digit.invariant.passed c.loop-digit-test.true c.if-n-next.false _ c.key_at.ensures c.child-child.ensures c.if-key_at-child.true)

pub bits_at-found-requires : goal.bits_at-found-requires
bits_at-found-requires t c = bytes_laid_at c.loop-digit.invariant.passed.laid _ c.if-n-next.false

pub after_sixty_four-requires : goal.after_sixty_four-requires
after_sixty_four-requires t c =
    let h = child_fits c.loop-digit.invariant.passed.passed c.loop-digit-test.true in
    (c.loop-digit.invariant.passed.laid, omega (arith, c.if-n-next.false), omega (arith, c.if-lower-eq25.true, c.child-child.ensures))

pub after_node-requires : goal.after_node-requires
after_node-requires t c =
    let h = child_fits c.loop-digit.invariant.passed.passed c.loop-digit-test.true in
    (omega (arith, c.decreases, c.if-step-lt26.false, c.loop-digit.invariant.passed.passed.positive), (c.requires.0, omega (arith, c.if-n-next.false), omega (arith, c.child-child.ensures)))

pub returns-in_err-next : goal.returns-in_err-next
returns-in_err-next t c =
    rw c.from_residual.ensures
    (none_after_in
    (wrong_child_in c.loop-digit.invariant.passed c.loop-digit-test.true c.if-n-next.false _ c.key_at.ensures c.child-child.ensures c.if-key_at-child.false _ c.bits_at-found.ensures
    (sym c.has_one_slot.ensures ∙ c.if-not-has_one_slot.true) 0 refl (answered_in (same_step c.if-lower-eq25.true c.in_err-next.ensures))))

pub returns-in_err-next-2 : goal.returns-in_err-next-2
returns-in_err-next-2 t c =
    rw c.from_residual-in_err-next-2.ensures
    (none_after_in
    (wrong_child_in c.loop-digit.invariant.passed c.loop-digit-test.true c.if-n-next.false _ c.key_at.ensures c.child-child.ensures c.if-key_at-child.false _ c.bits_at-found.ensures
    (sym c.has_one_slot.ensures ∙ c.if-not-has_one_slot.true) 0 refl (answered_in c.in_err-next-2.ensures)))

pub loop-digit-preserved : goal.loop-digit-preserved
loop-digit-preserved t c =
    elim c.if-not-has_one_slot.branch [
      | then-not-has_one_slot+then-lower-eq25+in_ok-next w ↦
          let a = same_step w.if-lower-eq25.true w.in_ok-next.ensures in
          let some = a.past _ refl in
          rw w.next-is
          record {
            passed =
                node_in c.loop-digit.invariant.passed c.loop-digit-test.true c.if-n-next.false _ c.key_at.ensures c.child-child.ensures c.if-key_at-child.false _ c.bits_at-found.ensures
                (sym c.has_one_slot.ensures ∙ w.if-not-has_one_slot.true) _ (λ z. omega arith) (answered_in a);
            past = λ h. some;
          }
      | then-not-has_one_slot+else-lower-eq25+in_ok-next-2 w ↦
          let a = w.in_ok-next-2.ensures in
          let some = a.past _ refl in
          rw w.next-is
          record {
            passed =
                node_in c.loop-digit.invariant.passed c.loop-digit-test.true c.if-n-next.false _ c.key_at.ensures c.child-child.ensures c.if-key_at-child.false _ c.bits_at-found.ensures
                (sym c.has_one_slot.ensures ∙ w.if-not-has_one_slot.true) _ (λ z. omega arith) (answered_in a);
            past = λ h. some;
          }
      | else-not-has_one_slot w ↦
          rw w.next-is
          record {
            passed = leaf_in c.loop-digit.invariant.passed c.loop-digit-test.true c.if-n-next.false _ c.key_at.ensures c.child-child.ensures c.if-key_at-child.false _ c.bits_at-found.ensures (sym c.has_one_slot.ensures ∙ w.if-not-has_one_slot.false);
            past = λ h. omega arith;
          }
    ]

pub returns-then-union-own : goal.returns-then-union-own
returns-then-union-own t c =
    let i = c.loop-digit.invariant in
    some_after_in _ (i.past (omega arith)) (ends_in i.passed c.loop-digit-test.false c.if-union-own.true)

pub returns-else-union-own : goal.returns-else-union-own
returns-else-union-own t c = none_after_in (differs_in c.loop-digit.invariant.passed c.loop-digit-test.false c.if-union-own.false)
