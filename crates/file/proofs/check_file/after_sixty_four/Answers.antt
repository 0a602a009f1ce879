-- `check_file::after_sixty_four`: each turn passes one child more, at the step 25. Rests on Laid, FileTurn and FileAfter.
use Rattle.std.proofs.Common.{arith, ℕ, ◌+◌, ◌≤◌, ◌<◌, ◌≡◌, List, refl, sym, ◌∙◌}
use Rattle.list.proofs.Turn.{child_fits}
use Rattle.file.proofs.Laid.{bytes_laid_at}
use Rattle.file.proofs.FileTurn.{ChildrenIn, begins_in, ends_in, differs_in, short_in, other_key_in, wrong_child_in, leaf_in, node_in}
use Rattle.file.proofs.FileAfter.{none_after_in, some_after_in, answered_in}
use Rattle.file.proofs.check_file.after_sixty_four.Goals as goal
use Rattle.file.proofs.check_file.after_sixty_four.Goals.{then-not-has_one_slot+in_ok-next, else-not-has_one_slot}

-- while it is not the key after the last child's, a child is left
turn : {w n : ℕ} {file : List ℕ} {first key own next union child : ℕ} (p : ChildrenIn w n file first key own 25 next union child)
    → (child ≡ key + 125 → ⊥) → p.digit < 5
turn p h = let most = p.passed.passed.until in let e = p.child_is in omega (arith, h)

-- and then none
end : {w n : ℕ} {file : List ℕ} {first key own next union child : ℕ} (p : ChildrenIn w n file first key own 25 next union child)
    → child ≡ key + 125 → 5 ≤ p.digit
end p h = let e = p.child_is in omega (arith, h)

pub overflow_add-end : goal.overflow_add-end
overflow_add-end c = let h = c.requires.2 in omega arith

pub overflow_add-child : goal.overflow_add-child
overflow_add-child c = let h = c.requires.2 in omega arith

pub loop-child-init : goal.loop-child-init
loop-child-init c =
    record { digit = 1; child_is = refl; passed = begins_in _ _ _ _ _ _ _ c.requires (λ z. omega arith); past = λ h. absurd (omega arith) }

pub returns-then-n-next : goal.returns-then-n-next
returns-then-n-next c = let p = c.loop-child.invariant in none_after_in (short_in p.passed (turn p c.loop-child-test.true) c.if-n-next.true)

pub key_at-requires : goal.key_at-requires
key_at-requires c = bytes_laid_at c.loop-child.invariant.passed.laid _ c.if-n-next.false

pub returns-then-key_at-child : goal.returns-then-key_at-child
returns-then-key_at-child c =
    let p = c.loop-child.invariant in
    none_after_in (other_key_in p.passed (turn p c.loop-child-test.true) c.if-n-next.false _ c.key_at.ensures p.child_is c.if-key_at-child.true)

pub bits_at-found-requires : goal.bits_at-found-requires
bits_at-found-requires c = bytes_laid_at c.loop-child.invariant.passed.laid _ c.if-n-next.false

pub overflow_add-child-in-loop-child : goal.overflow_add-child-in-loop-child
overflow_add-child-in-loop-child c =
    let p = c.loop-child.invariant in
    let h = child_fits p.passed.passed (turn p c.loop-child-test.true) in
    omega (arith, p.child_is)

pub loop-child-smaller : goal.loop-child-smaller
loop-child-smaller c = let p = c.loop-child.invariant in omega (arith, p.child_is, (turn p c.loop-child-test.true))

pub after_sixteen-requires : goal.after_sixteen-requires
after_sixteen-requires c =
    let p = c.loop-child.invariant in
    let h = child_fits p.passed.passed (turn p c.loop-child-test.true) in
    (p.passed.laid, omega (arith, c.if-n-next.false), omega (arith, p.child_is))

pub returns-in_err-next : goal.returns-in_err-next
returns-in_err-next c =
    let p = c.loop-child.invariant in
    rw c.from_residual.ensures
    (none_after_in
    (wrong_child_in p.passed (turn p c.loop-child-test.true) c.if-n-next.false _ c.key_at.ensures p.child_is c.if-key_at-child.false _ c.bits_at-found.ensures
    (sym c.has_one_slot.ensures ∙ c.if-not-has_one_slot.true) 0 refl (answered_in c.in_err-next.ensures)))

pub loop-child-preserved : goal.loop-child-preserved
loop-child-preserved c =
    let p = c.loop-child.invariant in
    elim c.if-not-has_one_slot.branch [
      | then-not-has_one_slot+in_ok-next w ↦
          let a = w.in_ok-next.ensures in
          let some = a.past _ refl in
          rw w.next-is
          record {
            digit = p.digit + 1;
            child_is = omega (arith, p.child_is);
            passed =
                node_in p.passed (turn p c.loop-child-test.true) c.if-n-next.false _ c.key_at.ensures p.child_is c.if-key_at-child.false _ c.bits_at-found.ensures
                (sym c.has_one_slot.ensures ∙ w.if-not-has_one_slot.true) _ (λ z. omega arith) (answered_in a);
            past = λ h. some;
          }
      | else-not-has_one_slot w ↦
          rw w.next-is
          record {
            digit = p.digit + 1;
            child_is = omega (arith, p.child_is);
            passed = leaf_in p.passed (turn p c.loop-child-test.true) c.if-n-next.false _ c.key_at.ensures p.child_is c.if-key_at-child.false _ c.bits_at-found.ensures (sym c.has_one_slot.ensures ∙ w.if-not-has_one_slot.false);
            past = λ h. omega arith;
          }
    ]

pub returns-then-union-own : goal.returns-then-union-own
returns-then-union-own c =
    let p = c.loop-child.invariant in
    let last = end p c.loop-child-test.false in
    some_after_in _ (p.past (omega arith)) (ends_in p.passed last c.if-union-own.true)

pub returns-else-union-own : goal.returns-else-union-own
returns-else-union-own c =
    let p = c.loop-child.invariant in
    none_after_in (differs_in p.passed (end p c.loop-child-test.false) c.if-union-own.false)
