-- Before each turn the children passed so far are checked, and their blocks are kept. It ends because a call
-- for a child has a fifth of the step.
use mathlib.Core.Path.{sym, ◌∙◌}
use native.Mathlib.Omega.{arith}
use Rattle.list.proofs.Turn.{short, other_key, differs}
use Rattle.summary.proofs.KeptRows.{keeping_begins, step_less, keep_refuses, keep_passes, keep_leaf, keep_asked, keep_wrong, keep_node}
use Rattle.summary.proofs.kept.+keep_blocks.Goals as goal
use Rattle.summary.proofs.kept.+keep_blocks.Goals.{then-has_one_slot, else-has_one_slot+in_ok-next}

pub loop-digit-init : goal.loop-digit-init
loop-digit-init t c = keeping_begins c.requires c.if-share-eq1.false

pub returns-then-keys-next : goal.returns-then-keys-next
returns-then-keys-next t c =
    keep_refuses c.requires c.if-share-eq1.false c.loop-digit.invariant (short c.loop-digit.invariant.checked c.loop-digit-test.true c.if-keys-next.true)

pub returns-then-keys-next-2 : goal.returns-then-keys-next-2
returns-then-keys-next-2 t c =
    keep_refuses c.requires c.if-share-eq1.false c.loop-digit.invariant (other_key c.loop-digit.invariant.checked c.loop-digit-test.true c.if-keys-next.false c.child-child.ensures c.if-keys-next-2.true)

pub returns-then-union-own : goal.returns-then-union-own
returns-then-union-own t c =
    keep_passes c.requires c.if-share-eq1.false c.loop-digit.invariant c.loop-digit-test.false c.if-union-own.true

pub returns-else-union-own : goal.returns-else-union-own
returns-else-union-own t c =
    keep_refuses c.requires c.if-share-eq1.false c.loop-digit.invariant (differs c.loop-digit.invariant.checked c.loop-digit-test.false c.if-union-own.false)

pub keep_blocks-requires : goal.keep_blocks-requires
keep_blocks-requires t c =
    let many = c.if-share-eq1.false in (
      omega (arith, c.decreases, step_less c.requires many),
      keep_asked c.requires many c.loop-digit.invariant c.loop-digit-test.true c.if-keys-next.false c.child-child.ensures c.if-keys-next-2.false (sym c.has_one_slot.ensures ∙ c.if-has_one_slot.false),
    )

pub returns-in_err-next : goal.returns-in_err-next
returns-in_err-next t c =
    let many = c.if-share-eq1.false in
    rw c.from_residual.ensures
    (keep_wrong c.requires many c.loop-digit.invariant c.loop-digit-test.true c.if-keys-next.false c.child-child.ensures c.if-keys-next-2.false (sym c.has_one_slot.ensures ∙ c.if-has_one_slot.false) c.in_err-next.ensures)

pub loop-digit-preserved : goal.loop-digit-preserved
loop-digit-preserved t c =
    let many = c.if-share-eq1.false in
    elim c.if-has_one_slot.branch [
      | then-has_one_slot w ↦
          rw (w.kept-is, w.next-is)
          (keep_leaf c.requires many c.loop-digit.invariant c.loop-digit-test.true c.if-keys-next.false c.child-child.ensures c.if-keys-next-2.false (sym c.has_one_slot.ensures ∙ w.if-has_one_slot.true))
      | else-has_one_slot+in_ok-next w ↦
          rw (w.kept-is, w.next-is)
          (keep_node c.requires many c.loop-digit.invariant c.loop-digit-test.true c.if-keys-next.false c.child-child.ensures c.if-keys-next-2.false (sym c.has_one_slot.ensures ∙ w.if-has_one_slot.false) w.in_ok-next.ensures)
    ]
