-- `check_file::after_sixteen`: each turn passes one child more, at the step 5. Rests on Laid, FileTurn and FileAfter.
use Rattle.std.proofs.Common.{arith, ℕ, ◌+◌, ◌≤◌, ◌<◌, ◌≡◌, List, refl, sym, ◌∙◌}
use Rattle.list.proofs.Turn.{step_one, child_fits}
use Rattle.file.proofs.Laid.{bytes_laid_at}
use Rattle.file.proofs.FileTurn.{ChildrenIn, begins_in, ends_in, differs_in, short_in, other_key_in, child_in, wrong_child_in, leaf_in, node_in}
use Rattle.file.proofs.FileAfter.{none_after_in, some_after_in}
use Rattle.list.proofs.Pixels.{right_false, right_true}
use Rattle.file.proofs.check_file.after_sixteen.Goals as goal
use Rattle.file.proofs.check_file.after_sixteen.Goals.{then-not-has_one_slot+else-not-four_pixels, else-not-has_one_slot}

-- while it is not the key after the last child's, a child is left
turn : {w n : ℕ} {file : List ℕ} {first key own next union child : ℕ} (p : ChildrenIn w n file first key own 5 next union child)
    → (child ≡ key + 25 → ⊥) → p.digit < 5
turn p h = let most = p.passed.passed.until in let e = p.child_is in omega (arith, h)

-- and then none
end : {w n : ℕ} {file : List ℕ} {first key own next union child : ℕ} (p : ChildrenIn w n file first key own 5 next union child)
    → child ≡ key + 25 → 5 ≤ p.digit
end p h = let e = p.child_is in omega (arith, h)

pub overflow_add-end : goal.overflow_add-end
overflow_add-end c = let h = c.requires.2 in omega arith

pub overflow_add-child : goal.overflow_add-child
overflow_add-child c = let h = c.requires.2 in omega arith

pub loop-child-init : goal.loop-child-init
loop-child-init c =
    record { digit = 1; child_is = refl; passed = begins_in _ _ _ _ _ _ _ c.requires (λ z. omega arith); past = λ h. absurd (omega arith) }

pub returns-then-n-next : goal.returns-then-n-next
returns-then-n-next c = let p = c.loop-child.invariant in none_after_in (short_in p.passed (turn p c.loop-child-test.true) c.if-n-next.true)

pub key_at-requires : goal.key_at-requires
key_at-requires c = bytes_laid_at c.loop-child.invariant.passed.laid _ c.if-n-next.false

pub returns-then-key_at-child : goal.returns-then-key_at-child
returns-then-key_at-child c =
    let p = c.loop-child.invariant in
    none_after_in (other_key_in p.passed (turn p c.loop-child-test.true) c.if-n-next.false _ c.key_at.ensures p.child_is c.if-key_at-child.true)

pub bits_at-found-requires : goal.bits_at-found-requires
bits_at-found-requires c = bytes_laid_at c.loop-child.invariant.passed.laid _ c.if-n-next.false

pub overflow_add-child-in-loop-child : goal.overflow_add-child-in-loop-child
overflow_add-child-in-loop-child c =
    let p = c.loop-child.invariant in
    let h = child_fits p.passed.passed (turn p c.loop-child-test.true) in
    omega (arith, p.child_is)

pub loop-child-smaller : goal.loop-child-smaller
loop-child-smaller c = let p = c.loop-child.invariant in omega (arith, p.child_is, (turn p c.loop-child-test.true))

pub four_pixels-requires : goal.four_pixels-requires
four_pixels-requires c =
    let p = c.loop-child.invariant in
    let h = child_fits p.passed.passed (turn p c.loop-child-test.true) in
    (p.passed.laid, omega (arith, c.if-n-next.false), omega (arith, p.child_is))

pub returns-then-not-four_pixels : goal.returns-then-not-four_pixels
returns-then-not-four_pixels c =
    let p = c.loop-child.invariant in
    none_after_in
    (wrong_child_in p.passed (turn p c.loop-child-test.true) c.if-n-next.false _ c.key_at.ensures p.child_is c.if-key_at-child.false _ c.bits_at-found.ensures
    (sym c.has_one_slot.ensures ∙ c.if-not-has_one_slot.true) 0 refl
    (child_in p.passed (turn p c.loop-child-test.true) c.if-n-next.false _ c.key_at.ensures p.child_is c.if-key_at-child.false _ c.bits_at-found.ensures 1 step_one 0
    (omega arith, right_false c.four_pixels.result (c.loop-child.next + 1 + 4) _ c.if-not-four_pixels.true c.four_pixels.ensures.1)))

pub overflow_add-next-then-not-has_one_slot : goal.overflow_add-next-then-not-has_one_slot
overflow_add-next-then-not-has_one_slot c = let h = c.four_pixels.ensures.0 c.if-not-four_pixels.false in omega arith

pub loop-child-preserved : goal.loop-child-preserved
loop-child-preserved c =
    let p = c.loop-child.invariant in
    elim c.if-not-has_one_slot.branch [
      | then-not-has_one_slot+else-not-four_pixels w ↦
          rw w.next-is
          record {
            digit = p.digit + 1;
            child_is = omega (arith, p.child_is);
            passed =
                node_in p.passed (turn p c.loop-child-test.true) c.if-n-next.false _ c.key_at.ensures p.child_is c.if-key_at-child.false _ c.bits_at-found.ensures
                (sym c.has_one_slot.ensures ∙ w.if-not-has_one_slot.true) (c.loop-child.next + 1 + 4) (λ z. omega arith)
                (child_in p.passed (turn p c.loop-child-test.true) c.if-n-next.false _ c.key_at.ensures p.child_is c.if-key_at-child.false _ c.bits_at-found.ensures 1 step_one _ (
                  w.four_pixels.ensures.0 w.if-not-four_pixels.false,
                  right_true w.four_pixels.result (c.loop-child.next + 1 + 4) _ w.if-not-four_pixels.false w.four_pixels.ensures.1,
                ));
            past = λ h. omega arith;
          }
      | else-not-has_one_slot w ↦
          rw w.next-is
          record {
            digit = p.digit + 1;
            child_is = omega (arith, p.child_is);
            passed = leaf_in p.passed (turn p c.loop-child-test.true) c.if-n-next.false _ c.key_at.ensures p.child_is c.if-key_at-child.false _ c.bits_at-found.ensures (sym c.has_one_slot.ensures ∙ w.if-not-has_one_slot.false);
            past = λ h. omega arith;
          }
    ]

pub returns-then-union-own : goal.returns-then-union-own
returns-then-union-own c =
    let p = c.loop-child.invariant in
    let last = end p c.loop-child-test.false in
    some_after_in _ (p.past (omega arith)) (ends_in p.passed last c.if-union-own.true)

pub returns-else-union-own : goal.returns-else-union-own
returns-else-union-own c =
    let p = c.loop-child.invariant in
    none_after_in (differs_in p.passed (end p c.loop-child-test.false) c.if-union-own.false)
