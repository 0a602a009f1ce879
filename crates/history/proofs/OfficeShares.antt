-- One office's share of a table, through a row more and a row less: its own calls do to the share what they would do to it alone, and the other office's calls
-- leave it. Rests on RowOrder and Shares of definitions.
use Prim.Native.Nat.{ℕ, suc, ◌≤◌, ◌<◌}
use mathlib.Core.Path.{◌≡◌, refl, sym, ap, ap₂, ◌∙◌}
use mathlib.Core.Bool.{Bool, true, false, cond, not, ◌&&◌, ◌||◌, true≢false}
use mathlib.Core.List.{List, [], ◌∷◌}
use native.Mathlib.Omega.{arith}
use lib.ListN.{length}
use lib.Dec.{eqb}
use borrow.Author.Tests.{eq-eqb, ne_eqb, lt-ltb, le-ltb}
use Rattle.keys.specs.Key.{valid_key}
use Rattle.keys.proofs.Cases.{decide, split, equal, and_left, and_right, and_both}
use Rattle.definitions.specs.Rules.{Finding, comes_before}
use Rattle.definitions.specs.Offices.{Waiver, waived_by, bad_office, rows_of, row_before, rows_ascend, offices_known, row_keys_valid, same_row, is_row, added, removed}
use Rattle.laws.proofs.RowOrder.{RowsAfter, no_row, next_row, ascend_after, ascend_rows, same_row_numbers}
use Rattle.laws.proofs.Shares.{share_own, share_other, share_none}

-- ---- a share by itself
abbrev pub same_finding : Finding → Finding → Bool
same_finding a b = eqb a.id b.id && eqb a.key b.key

unfoldable pub is_found : Finding → List Finding → Bool
is_found w [] = false
is_found w (x ∷ xs) = same_finding x w || is_found w xs

unfoldable pub added_own : Finding → List Finding → List Finding
added_own w [] = w ∷ []
added_own w (x ∷ xs) = cond (comes_before x w) (x ∷ added_own w xs) (w ∷ (x ∷ xs))

unfoldable pub removed_own : Finding → List Finding → List Finding
removed_own w [] = []
removed_own w (x ∷ xs) = cond (same_finding x w) xs (x ∷ removed_own w xs)

-- ---- tests of rows, by office
row_same_office : (a b : Waiver) → a.office ≡ b.office → same_row a b ≡ same_finding (waived_by a) (waived_by b)
row_same_office a b e = ap (λ t. t && same_finding (waived_by a) (waived_by b)) (eq-eqb a.office b.office e)

row_other_office : (a b : Waiver) → (a.office ≡ b.office → ⊥) → same_row a b ≡ false
row_other_office a b h = ap (λ t. t && same_finding (waived_by a) (waived_by b)) (ne_eqb a.office b.office h)

before_same_office : (a b : Waiver) → a.office ≡ b.office → row_before a b ≡ comes_before (waived_by a) (waived_by b)
before_same_office a b e = ap₂ (λ x y. x || y && comes_before (waived_by a) (waived_by b)) (le-ltb a.office b.office (omega arith)) (eq-eqb a.office b.office e)

before_earlier_office : (a b : Waiver) → a.office < b.office → row_before a b ≡ true
before_earlier_office a b h = ap (λ x. x || eqb a.office b.office && comes_before (waived_by a) (waived_by b)) (lt-ltb a.office b.office h)

before_later_office : (a b : Waiver) → b.office < a.office → row_before a b ≡ false
before_later_office a b h =
    ap₂ (λ x y. x || y && comes_before (waived_by a) (waived_by b)) (le-ltb a.office b.office (omega arith)) (ne_eqb a.office b.office (λ e. omega arith))

-- ---- whether a row is there
pub share_row : (w : Waiver) (t : List Waiver) → is_row w t ≡ is_found (waived_by w) (rows_of w.office t)
unfolding is_row is_found
share_row w [] = sym (ap (is_found (waived_by w)) (share_none w.office))
share_row w (x ∷ t) =
    equal x.office w.office
    (λ e. ap₂ (λ a b. a || b) (row_same_office x w e) (share_row w t) ∙ sym (ap (is_found (waived_by w)) (share_own w.office x t e)))
    (λ h. ap (λ a. a || is_row w t) (row_other_office x w h) ∙ share_row w t ∙ sym (ap (is_found (waived_by w)) (share_other w.office x t h)))

-- ---- a row more
none_later : (office : ℕ) (x : Waiver) (t : List Waiver) → office < x.office → RowsAfter x t → rows_of office t ≡ []
none_later office x [] low no_row = share_none office
none_later office x (y ∷ t) low (next_row h r) =
    let up = h.offices in share_other office y t (λ e. omega arith) ∙ none_later office y t (omega arith) r

own_none : (w : Finding) → added_own w [] ≡ w ∷ []
unfolding added_own
own_none w = refl

own_later : (w x : Finding) (xs : List Finding) → comes_before x w ≡ true → added_own w (x ∷ xs) ≡ x ∷ added_own w xs
unfolding added_own
own_later w x xs e = rw e

own_here : (w x : Finding) (xs : List Finding) → comes_before x w ≡ false → added_own w (x ∷ xs) ≡ w ∷ (x ∷ xs)
unfolding added_own
own_here w x xs e = rw e

more_later : (w x : Waiver) (t : List Waiver) → row_before x w ≡ true → added w (x ∷ t) ≡ x ∷ added w t
unfolding added
more_later w x t e = rw e

more_here : (w x : Waiver) (t : List Waiver) → row_before x w ≡ false → added w (x ∷ t) ≡ w ∷ (x ∷ t)
unfolding added
more_here w x t e = rw e

more_none : (w : Waiver) → added w [] ≡ w ∷ []
unfolding added
more_none w = refl

pub share_added : (w : Waiver) (t : List Waiver) → rows_ascend t ≡ true → rows_of w.office (added w t) ≡ added_own (waived_by w) (rows_of w.office t)
share_added w [] asc =
    let o = w.office in
    ap (rows_of o) (more_none w) ∙ share_own o w [] refl ∙ ap (λ l. waived_by w ∷ l) (share_none o) ∙ sym (own_none (waived_by w)) ∙ ap (added_own (waived_by w)) (sym (share_none o))
share_added w (x ∷ t) asc =
    let o = w.office in
    equal x.office o
    (λ e.
    decide (row_before x w)
    (λ b.
    ap (rows_of o) (more_later w x t b) ∙ share_own o x (added w t) e ∙ ap (λ l. waived_by x ∷ l) (share_added w t (ascend_rows x t asc))
    ∙ sym (own_later (waived_by w) (waived_by x) (rows_of o t) (sym (before_same_office x w e) ∙ b))
    ∙ ap (added_own (waived_by w)) (sym (share_own o x t e)))
    (λ b.
    ap (rows_of o) (more_here w x t b) ∙ share_own o w (x ∷ t) refl ∙ ap (λ l. waived_by w ∷ l) (share_own o x t e)
    ∙ sym (own_here (waived_by w) (waived_by x) (rows_of o t) (sym (before_same_office x w e) ∙ b))
    ∙ ap (added_own (waived_by w)) (sym (share_own o x t e))))
    (λ other.
    split x.office o
    (λ low.
    ap (rows_of o) (more_later w x t (before_earlier_office x w low)) ∙ share_other o x (added w t) other ∙ share_added w t (ascend_rows x t asc)
    ∙ ap (added_own (waived_by w)) (sym (share_other o x t other)))
    (λ high.
    let none = share_other o x t other ∙ none_later o x t (omega arith) (ascend_after x t asc) in
    ap (rows_of o) (more_here w x t (before_later_office x w (omega arith))) ∙ share_own o w (x ∷ t) refl ∙ ap (λ l. waived_by w ∷ l) none
    ∙ sym (own_none (waived_by w)) ∙ ap (added_own (waived_by w)) (sym none)))

pub share_added_other : (office : ℕ) (w : Waiver) (t : List Waiver) → (w.office ≡ office → ⊥) → rows_of office (added w t) ≡ rows_of office t
share_added_other office w [] h = ap (rows_of office) (more_none w) ∙ share_other office w [] h
share_added_other office w (x ∷ t) h =
    decide (row_before x w)
    (λ b.
    ap (rows_of office) (more_later w x t b)
    ∙ equal x.office office
    (λ e. share_own office x (added w t) e ∙ ap (λ l. waived_by x ∷ l) (share_added_other office w t h) ∙ sym (share_own office x t e))
    (λ o. share_other office x (added w t) o ∙ share_added_other office w t h ∙ sym (share_other office x t o)))
    (λ b. ap (rows_of office) (more_here w x t b) ∙ share_other office w (x ∷ t) h)

-- ---- a row less
less_here : (w x : Waiver) (t : List Waiver) → same_row x w ≡ true → removed w (x ∷ t) ≡ t
unfolding removed
less_here w x t e = rw e

less_later : (w x : Waiver) (t : List Waiver) → same_row x w ≡ false → removed w (x ∷ t) ≡ x ∷ removed w t
unfolding removed
less_later w x t e = rw e

own_less_here : (w x : Finding) (xs : List Finding) → same_finding x w ≡ true → removed_own w (x ∷ xs) ≡ xs
unfolding removed_own
own_less_here w x xs e = rw e

own_less_later : (w x : Finding) (xs : List Finding) → same_finding x w ≡ false → removed_own w (x ∷ xs) ≡ x ∷ removed_own w xs
unfolding removed_own
own_less_later w x xs e = rw e

less_none : (w : Waiver) → removed w [] ≡ []
unfolding removed
less_none w = refl

own_less_none : (w : Finding) → removed_own w [] ≡ []
unfolding removed_own
own_less_none w = refl

pub share_removed : (w : Waiver) (t : List Waiver) → rows_of w.office (removed w t) ≡ removed_own (waived_by w) (rows_of w.office t)
share_removed w [] =
    let o = w.office in ap (rows_of o) (less_none w) ∙ share_none o ∙ sym (own_less_none (waived_by w)) ∙ ap (removed_own (waived_by w)) (sym (share_none o))
share_removed w (x ∷ t) =
    let o = w.office in
    equal x.office o
    (λ e.
    decide (same_row x w)
    (λ b.
    ap (rows_of o) (less_here w x t b) ∙ sym (own_less_here (waived_by w) (waived_by x) (rows_of o t) (sym (row_same_office x w e) ∙ b)) ∙ ap (removed_own (waived_by w)) (sym (share_own o x t e)))
    (λ b.
    ap (rows_of o) (less_later w x t b) ∙ share_own o x (removed w t) e ∙ ap (λ l. waived_by x ∷ l) (share_removed w t)
    ∙ sym (own_less_later (waived_by w) (waived_by x) (rows_of o t) (sym (row_same_office x w e) ∙ b))
    ∙ ap (removed_own (waived_by w)) (sym (share_own o x t e))))
    (λ other.
    ap (rows_of o) (less_later w x t (row_other_office x w other)) ∙ share_other o x (removed w t) other ∙ share_removed w t
    ∙ ap (removed_own (waived_by w)) (sym (share_other o x t other)))

pub share_removed_other : (office : ℕ) (w : Waiver) (t : List Waiver) → (w.office ≡ office → ⊥) → rows_of office (removed w t) ≡ rows_of office t
share_removed_other office w [] h = ap (rows_of office) (less_none w)
share_removed_other office w (x ∷ t) h =
    decide (same_row x w)
    (λ b. ap (rows_of office) (less_here w x t b) ∙ sym (share_other office x t (λ e. h (sym (same_row_numbers x w b).0 ∙ e))))
    (λ b.
    ap (rows_of office) (less_later w x t b)
    ∙ equal x.office office
    (λ e. share_own office x (removed w t) e ∙ ap (λ l. waived_by x ∷ l) (share_removed_other office w t h) ∙ sym (share_own office x t e))
    (λ o. share_other office x (removed w t) o ∙ share_removed_other office w t h ∙ sym (share_other office x t o)))

-- ---- how many
pub added_row-length : (w : Waiver) (t : List Waiver) → length (added w t) ≡ suc (length t)
added_row-length w [] = ap length (more_none w)
added_row-length w (x ∷ t) = decide (row_before x w) (λ b. ap length (more_later w x t b) ∙ ap suc (added_row-length w t)) (λ b. ap length (more_here w x t b))

pub added_own-length : (w : Finding) (xs : List Finding) → length (added_own w xs) ≡ suc (length xs)
added_own-length w [] = ap length (own_none w)
added_own-length w (x ∷ xs) = decide (comes_before x w) (λ b. ap length (own_later w x xs b) ∙ ap suc (added_own-length w xs)) (λ b. ap length (own_here w x xs b))

pub removed-length : (w : Waiver) (t : List Waiver) → is_row w t ≡ true → suc (length (removed w t)) ≡ length t
unfolding is_row
removed-length w [] there = absurd (true≢false (sym there))
removed-length w (x ∷ t) there =
    decide (same_row x w)
    (λ b. ap suc (ap length (less_here w x t b)))
    (λ b. ap suc (ap length (less_later w x t b) ∙ removed-length w t (sym (ap (λ a. a || is_row w t) b) ∙ there)))

pub removed_own_few : (w : Finding) (xs : List Finding) → length (removed_own w xs) ≤ length xs
removed_own_few w [] = let e = ap length (own_less_none w) in omega arith
removed_own_few w (x ∷ xs) =
    let ih = removed_own_few w xs in
    decide (same_finding x w) (λ b. let e = ap length (own_less_here w x xs b) in omega arith) (λ b. let e = ap length (own_less_later w x xs b) in omega arith)

-- ---- offices and keys
pub added_known : (w : Waiver) (t : List Waiver) → bad_office w.office ≡ false → offices_known t ≡ true → offices_known (added w t) ≡ true
unfolding offices_known
added_known w [] b e = ap offices_known (more_none w) ∙ ap (λ x. not x && true) b
added_known w (x ∷ t) b e =
    let first = and_left (not (bad_office x.office)) (offices_known t) e in
    decide (row_before x w)
    (λ c. ap offices_known (more_later w x t c) ∙ and_both (not (bad_office x.office)) (offices_known (added w t)) first (added_known w t b (and_right (not (bad_office x.office)) (offices_known t) e)))
    (λ c. ap offices_known (more_here w x t c) ∙ and_both (not (bad_office w.office)) (offices_known (x ∷ t)) (ap not b) e)

pub removed_known : (w : Waiver) (t : List Waiver) → offices_known t ≡ true → offices_known (removed w t) ≡ true
unfolding offices_known
removed_known w [] e = ap offices_known (less_none w)
removed_known w (x ∷ t) e =
    let first = and_left (not (bad_office x.office)) (offices_known t) e in
    let rest = and_right (not (bad_office x.office)) (offices_known t) e in
    decide (same_row x w) (λ c. ap offices_known (less_here w x t c) ∙ rest)
    (λ c. ap offices_known (less_later w x t c) ∙ and_both (not (bad_office x.office)) (offices_known (removed w t)) first (removed_known w t rest))

pub added_valid : (m : ℕ) (w : Waiver) (t : List Waiver) → valid_key m w.key ≡ true → row_keys_valid m t ≡ true → row_keys_valid m (added w t) ≡ true
unfolding row_keys_valid
added_valid m w [] b e = ap (row_keys_valid m) (more_none w) ∙ and_both (valid_key m w.key) true b refl
added_valid m w (x ∷ t) b e =
    let first = and_left (valid_key m x.key) (row_keys_valid m t) e in
    decide (row_before x w)
    (λ c. ap (row_keys_valid m) (more_later w x t c) ∙ and_both (valid_key m x.key) (row_keys_valid m (added w t)) first (added_valid m w t b (and_right (valid_key m x.key) (row_keys_valid m t) e)))
    (λ c. ap (row_keys_valid m) (more_here w x t c) ∙ and_both (valid_key m w.key) (row_keys_valid m (x ∷ t)) b e)

pub removed_valid : (m : ℕ) (w : Waiver) (t : List Waiver) → row_keys_valid m t ≡ true → row_keys_valid m (removed w t) ≡ true
unfolding row_keys_valid
removed_valid m w [] e = ap (row_keys_valid m) (less_none w)
removed_valid m w (x ∷ t) e =
    let first = and_left (valid_key m x.key) (row_keys_valid m t) e in
    let rest = and_right (valid_key m x.key) (row_keys_valid m t) e in
    decide (same_row x w) (λ c. ap (row_keys_valid m) (less_here w x t c) ∙ rest)
    (λ c. ap (row_keys_valid m) (less_later w x t c) ∙ and_both (valid_key m x.key) (row_keys_valid m (removed w t)) first (removed_valid m w t rest))
