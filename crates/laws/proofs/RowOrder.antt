-- Rows by office, id and key: that one comes before another, as facts on their numbers; that in an ascending table each comes before every later one; and so
-- what a row more or less leaves of the order. Rests on FindingOrder and keys' Cases.
use Prim.Native.Nat.{◌≤◌}
use mathlib.Core.Path.{◌≡◌, refl, sym, ◌∙◌}
use mathlib.Core.Logic.{⊎_elim}
use mathlib.Core.Bool.{Bool, true, false, ◌&&◌, true≢false}
use mathlib.Core.List.{List, [], ◌∷◌}
use native.Mathlib.Omega.{arith}
use lib.Dec.{ltb, eqb}
use borrow.Author.Tests.{ltb-true, eqb-true, lt-ltb, eq-eqb}
use Rattle.keys.proofs.Cases.{decide, split, equal, and_left, and_right, and_both, or_either, or_left, or_right}
use Rattle.definitions.specs.Rules.{comes_before}
use Rattle.definitions.specs.Offices.{Waiver, waived_by, row_before, rows_ascend, same_row, is_row, added, removed}
use Rattle.laws.proofs.FindingOrder.{Earlier, test_earlier, earlier_test, earlier_on}

-- the one comes before the other
pub record RowBefore (a b : Waiver) : Type 0 where
  pub offices : a.office ≤ b.office
  pub own : a.office ≡ b.office → Earlier (waived_by a) (waived_by b)

pub test_before : (a b : Waiver) → row_before a b ≡ true → RowBefore a b
test_before a b e =
    ⊎_elim
    (λ (h : ltb a.office b.office ≡ true). let low = ltb-true a.office b.office h in record { offices = omega arith; own = λ same. absurd (omega arith) })
    (λ (h : eqb a.office b.office && comes_before (waived_by a) (waived_by b) ≡ true).
    let same = eqb-true a.office b.office (and_left (eqb a.office b.office) (comes_before (waived_by a) (waived_by b)) h) in
    let low = test_earlier (waived_by a) (waived_by b) (and_right (eqb a.office b.office) (comes_before (waived_by a) (waived_by b)) h) in
    record { offices = omega arith; own = λ also. low })
    (or_either (ltb a.office b.office) (eqb a.office b.office && comes_before (waived_by a) (waived_by b)) e)

pub before_test : (a b : Waiver) → RowBefore a b → row_before a b ≡ true
before_test a b h =
    split a.office b.office
    (λ low. or_left (ltb a.office b.office) (eqb a.office b.office && comes_before (waived_by a) (waived_by b)) (lt-ltb a.office b.office low))
    (λ high.
    let low = h.offices in
    let same : a.office ≡ b.office = omega arith in
    or_right (ltb a.office b.office) (eqb a.office b.office && comes_before (waived_by a) (waived_by b))
    (and_both (eqb a.office b.office) (comes_before (waived_by a) (waived_by b)) (eq-eqb a.office b.office same) (earlier_test (waived_by a) (waived_by b) (h.own same))))

-- what comes before one that comes before a third comes before the third
pub before_on : {a b c : Waiver} → RowBefore a b → RowBefore b c → RowBefore a c
before_on {a} {b} {c} f g =
    let i = f.offices in
    let j = g.offices in
    record { offices = omega arith; own = λ same. earlier_on (waived_by a) (waived_by b) (waived_by c) (f.own (omega arith)) (g.own (omega arith)) }

-- ---- the same row
pub same_row_numbers : (a b : Waiver) → same_row a b ≡ true → (a.office ≡ b.office) × (a.id ≡ b.id) × (a.key ≡ b.key)
same_row_numbers a b e =
    let rest = and_right (eqb a.office b.office) (eqb a.id b.id && eqb a.key b.key) e in (
      eqb-true a.office b.office (and_left (eqb a.office b.office) (eqb a.id b.id && eqb a.key b.key) e),
      eqb-true a.id b.id (and_left (eqb a.id b.id) (eqb a.key b.key) rest),
      eqb-true a.key b.key (and_right (eqb a.id b.id) (eqb a.key b.key) rest),
    )

pub numbers_same : (a b : Waiver) → a.office ≡ b.office → a.id ≡ b.id → a.key ≡ b.key → same_row a b ≡ true
numbers_same a b e f g =
    and_both (eqb a.office b.office) (eqb a.id b.id && eqb a.key b.key) (eq-eqb a.office b.office e)
    (and_both (eqb a.id b.id) (eqb a.key b.key) (eq-eqb a.id b.id f) (eq-eqb a.key b.key g))

not_true_false : (b : Bool) → (b ≡ true → ⊥) → b ≡ false
not_true_false true h = absurd (h refl)
not_true_false false h = refl

-- none comes before the same row, whichever is named first
pub before_other : (a b : Waiver) → RowBefore a b → same_row a b ≡ false
before_other a b h = not_true_false (same_row a b) (λ e.
    let same = same_row_numbers a b e in let low = (h.own same.0).keys same.1 in let keys = same.2 in omega arith)

pub after_other : (a b : Waiver) → RowBefore a b → same_row b a ≡ false
after_other a b h = not_true_false (same_row b a) (λ e.
    let same = same_row_numbers b a e in let low = (h.own (sym same.0)).keys (sym same.1) in let keys = same.2 in omega arith)

-- of two rows that are not the same one comes before the other
pub before_or_after : (a b : Waiver) → row_before a b ≡ false → same_row a b ≡ false → RowBefore b a
before_or_after a b not_before not_same =
    let no-before : RowBefore a b → ⊥ = λ h. true≢false (sym (before_test a b h) ∙ not_before) in
    let high : b.office ≤ a.office =
    split a.office b.office (λ low. absurd (no-before (record { offices = omega arith; own = λ e. absurd (omega arith) }))) (λ h. h) in
    record {
      offices = high;
      own = λ same.
          let ids : b.id ≤ a.id =
          split a.id b.id (λ low. absurd (no-before (record { offices = omega arith; own = λ e. record { ids = omega arith; keys = λ f. absurd (omega arith) } }))) (λ h. h) in
          record {
            ids = ids;
            keys = λ rule.
                split b.key a.key (λ h. h)
                (λ le. equal a.key b.key
                (λ key. absurd (true≢false (sym (numbers_same a b (sym same) (sym rule) key) ∙ not_same)))
                (λ other. absurd (no-before (record { offices = omega arith; own = λ e. record { ids = omega arith; keys = λ f. omega arith } }))));
          };
    }

-- ---- a table in order
-- each comes after the row, and before the next
pub data RowsAfter : Waiver → List Waiver → Type 0 where
  no_row : {w : Waiver} → RowsAfter w []
  next_row : {w x : Waiver} {t : List Waiver} → RowBefore w x → RowsAfter x t → RowsAfter w (x ∷ t)

pub ascend_after : (x : Waiver) (t : List Waiver) → rows_ascend (x ∷ t) ≡ true → RowsAfter x t
unfolding rows_ascend
ascend_after x [] e = no_row
ascend_after x (y ∷ t) e =
    next_row (test_before x y (and_left (row_before x y) (rows_ascend (y ∷ t)) e)) (ascend_after y t (and_right (row_before x y) (rows_ascend (y ∷ t)) e))

pub after_ascend : {x : Waiver} {t : List Waiver} → RowsAfter x t → rows_ascend (x ∷ t) ≡ true
unfolding rows_ascend
after_ascend no_row = refl
after_ascend (next_row {w} {x} {t} h r) = and_both (row_before w x) (rows_ascend (x ∷ t)) (before_test w x h) (after_ascend r)

-- without the first row it is still in order
pub ascend_rows : (x : Waiver) (t : List Waiver) → rows_ascend (x ∷ t) ≡ true → rows_ascend t ≡ true
unfolding rows_ascend
ascend_rows x [] e = refl
ascend_rows x (y ∷ t) e = and_right (row_before x y) (rows_ascend (y ∷ t)) e

-- a row before the first comes before all
pub after_on : {v w : Waiver} {t : List Waiver} → RowBefore v w → RowsAfter w t → RowsAfter v t
after_on h no_row = no_row
after_on h (next_row g r) = next_row (before_on h g) r

-- none of them is the same row
pub not_after : (w : Waiver) (t : List Waiver) → RowsAfter w t → is_row w t ≡ false
unfolding is_row
not_after w [] no_row = refl
not_after w (x ∷ t) (next_row h r) = rw (after_other w x h) (not_after w t (after_on h r))

-- ---- a row more
after_added : {v w : Waiver} {t : List Waiver} → RowBefore v w → RowsAfter v t → is_row w t ≡ false → RowsAfter v (added w t)
unfolding added is_row
after_added h no_row new = next_row h no_row
after_added {v} {w} h (next_row {x = x} {t = t} g r) new =
    decide (row_before x w)
    (λ e. rw e (next_row g (after_added (test_before x w e) r (not_true_false (is_row w t) (λ there. true≢false (sym (or_right (same_row x w) (is_row w t) there) ∙ new))))))
    (λ e. rw e (next_row h (next_row (before_or_after x w e (not_true_false (same_row x w) (λ there. true≢false (sym (or_left (same_row x w) (is_row w t) there) ∙ new)))) r)))

-- a table with a row more is in order
pub added_ascend : (w : Waiver) (t : List Waiver) → rows_ascend t ≡ true → is_row w t ≡ false → rows_ascend (added w t) ≡ true
unfolding added is_row
added_ascend w [] asc new = after_ascend no_row
added_ascend w (x ∷ t) asc new =
    let r = ascend_after x t asc in
    decide (row_before x w)
    (λ e. rw e (after_ascend (after_added (test_before x w e) r (not_true_false (is_row w t) (λ there. true≢false (sym (or_right (same_row x w) (is_row w t) there) ∙ new))))))
    (λ e. rw e (after_ascend (next_row (before_or_after x w e (not_true_false (same_row x w) (λ there. true≢false (sym (or_left (same_row x w) (is_row w t) there) ∙ new)))) r)))

-- ---- a row less
after_removed : {v : Waiver} (w : Waiver) {t : List Waiver} → RowsAfter v t → RowsAfter v (removed w t)
unfolding removed
after_removed w no_row = no_row
after_removed w (next_row {x = x} {t = t} h r) = decide (same_row x w) (λ e. rw e (after_on h r)) (λ e. rw e (next_row h (after_removed w r)))

pub removed_ascend : (w : Waiver) (t : List Waiver) → rows_ascend t ≡ true → rows_ascend (removed w t) ≡ true
unfolding removed
removed_ascend w [] asc = asc
removed_ascend w (x ∷ t) asc =
    decide (same_row x w) (λ e. rw e (ascend_rows x t asc)) (λ e. rw e (after_ascend (after_removed w (ascend_after x t asc))))
