-- Isolation over whole runs: an office's rows, the refusals of its calls and its findings are those of its own calls alone, so two runs that agree on its calls
-- agree on all that it sees. Rests on OfficeIsolation.
use Prim.Native.Nat.{ℕ, ◌+◌, ◌≤◌}
use mathlib.Core.Path.{◌≡◌, refl, sym, ap, ap₂, ◌∙◌, subst}
use mathlib.Core.Bool.{true, false, cond, not, ◌||◌}
use mathlib.Core.List.{List, [], ◌∷◌}
use native.Mathlib.Omega.{arith}
use lib.ListN.{length}
use borrow.Author.Tests.{eq-eqb, ne_eqb}
use Rattle.keys.proofs.Cases.{decide, equal}
use Rattle.definitions.specs.Rules.{Finding}
use Rattle.definitions.specs.Offices.{waived_by, rows_in, table_of, rows_of, rows_ascend, offices_known, row_keys_valid, is_table}
use Rattle.definitions.specs.Calls.Findings.{found_with, ids_with, found_keys_with, findings, findings_ids, findings_keys}
use Rattle.definitions.specs.declared.Rule.{Rule}
use Rattle.laws.proofs.First.{accepted_done, accepted_left}
use Rattle.laws.proofs.Shares.{share_none}
use Rattle.history.specs.OfficeRuns.{Table, Ask, refusal_of, after_ask, after_all, own_asks, refusals_of}
use Rattle.history.proofs.OfficeShares.{added_own, removed_own, share_added, share_added_other, share_removed, share_removed_other}
use Rattle.history.proofs.OfficeIsolation.{row_of_ask, table_in, GrownTable, never_14, own_refusal, own_after, refusal_own, stays, adds_row, removes_row}

-- ---- one call
module _ (m : ℕ) (T : Table) (g : GrownTable m T) (a : Ask) where
  -- the table is still one that has grown so
  pub grows : GrownTable m (after_ask m T a)
  grows =
      equal (refusal_of m T a) 0
      (λ done. decide a.adds (λ adds. (adds_row m T g a adds done).grown) (λ removes. (removes_row m T g a removes done).grown))
      (λ refused. subst (GrownTable m) (sym (stays m T g a refused)) g)

  -- another office's call leaves the share
  pub other_leaves : (office : ℕ) → (a.office ≡ office → ⊥) → rows_of office (table_in (after_ask m T a)) ≡ rows_of office (table_in T)
  other_leaves office other =
      equal (refusal_of m T a) 0
      (λ done. decide a.adds
      (λ adds. ap (rows_of office) (adds_row m T g a adds done).table ∙ share_added_other office (row_of_ask a) (table_in T) other)
      (λ removes. ap (rows_of office) (removes_row m T g a removes done).table ∙ share_removed_other office (row_of_ask a) (table_in T) other))
      (λ refused. ap (λ X. rows_of office (table_in X)) (stays m T g a refused))

  -- its own call does to the share what it would do to it alone
  pub own_does : rows_of a.office (table_in (after_ask m T a)) ≡ own_after m (rows_of a.office (table_in T)) a
  unfolding own_after
  own_does =
      let share = rows_of a.office (table_in T) in
      let w = waived_by (row_of_ask a) in
      let same = refusal_own m T g a in
      equal (refusal_of m T a) 0
      (λ done. decide a.adds
      (λ adds.
      ap (rows_of a.office) (adds_row m T g a adds done).table
      ∙ share_added (row_of_ask a) (table_in T) g.sound.ascend
      ∙ sym (accepted_done {refusal = own_refusal m share a} (cond a.adds (added_own w share) (removed_own w share)) share (sym same ∙ done) ∙ ap (λ b. cond b (added_own w share) (removed_own w share)) adds))
      (λ removes.
      ap (rows_of a.office) (removes_row m T g a removes done).table
      ∙ share_removed (row_of_ask a) (table_in T)
      ∙ sym (accepted_done {refusal = own_refusal m share a} (cond a.adds (added_own w share) (removed_own w share)) share (sym same ∙ done) ∙ ap (λ b. cond b (added_own w share) (removed_own w share)) removes)))
      (λ refused.
      ap (λ X. rows_of a.office (table_in X)) (stays m T g a refused)
      ∙ sym (accepted_left {refusal = own_refusal m share a} (cond a.adds (added_own w share) (removed_own w share)) share (λ z. refused (same ∙ z))))

-- ---- runs
-- the share after calls of its office alone, and what they are refused with
module _ (m : ℕ) where
  unfoldable own_all : List Finding → List Ask → List Finding
  own_all share [] = share
  own_all share (a ∷ asks) = own_all (own_after m share a) asks

  unfoldable own_refusals : List Finding → List Ask → List ℕ
  own_refusals share [] = []
  own_refusals share (a ∷ asks) = own_refusal m share a ∷ own_refusals (own_after m share a) asks

module _ (m office : ℕ) where
  pub all_grow : (T : Table) (asks : List Ask) → GrownTable m T → GrownTable m (after_all m T asks)
  unfolding after_all
  all_grow T [] g = g
  all_grow T (a ∷ asks) g = all_grow (after_ask m T a) asks (grows m T g a)

  rows_own : (T : Table) (asks : List Ask) → GrownTable m T → rows_of office (table_in (after_all m T asks)) ≡ own_all m (rows_of office (table_in T)) (own_asks office asks)
  unfolding after_all own_asks own_all
  rows_own T [] g = refl
  rows_own T (a ∷ asks) g =
      let rest = rows_own (after_ask m T a) asks (grows m T g a) in
      equal a.office office
      (λ e.
      let does = subst (λ o. rows_of o (table_in (after_ask m T a)) ≡ own_after m (rows_of o (table_in T)) a) e (own_does m T g a) in
      rest ∙ ap (λ s. own_all m s (own_asks office asks)) does
      ∙ sym (ap (λ b. own_all m (rows_of office (table_in T)) (cond b (a ∷ own_asks office asks) (own_asks office asks))) (eq-eqb a.office office e)))
      (λ other.
      rest ∙ ap (λ s. own_all m s (own_asks office asks)) (other_leaves m T g a office other)
      ∙ sym (ap (λ b. own_all m (rows_of office (table_in T)) (cond b (a ∷ own_asks office asks) (own_asks office asks))) (ne_eqb a.office office other)))

  refusals_own : (T : Table) (asks : List Ask) → GrownTable m T → refusals_of m office T asks ≡ own_refusals m (rows_of office (table_in T)) (own_asks office asks)
  unfolding refusals_of own_asks own_refusals
  refusals_own T [] g = refl
  refusals_own T (a ∷ asks) g =
      let share = rows_of office (table_in T) in
      let rest = refusals_own (after_ask m T a) asks (grows m T g a) in
      equal a.office office
      (λ e.
      let does = subst (λ o. rows_of o (table_in (after_ask m T a)) ≡ own_after m (rows_of o (table_in T)) a) e (own_does m T g a) in
      let same = subst (λ o. refusal_of m T a ≡ own_refusal m (rows_of o (table_in T)) a) e (refusal_own m T g a) in
      ap (λ b. cond b (refusal_of m T a ∷ refusals_of m office (after_ask m T a) asks) (refusals_of m office (after_ask m T a) asks)) (eq-eqb a.office office e)
      ∙ ap₂ (λ x y. x ∷ y) same (rest ∙ ap (λ s. own_refusals m s (own_asks office asks)) does)
      ∙ sym (ap (λ b. own_refusals m share (cond b (a ∷ own_asks office asks) (own_asks office asks))) (eq-eqb a.office office e)))
      (λ other.
      ap (λ b. cond b (refusal_of m T a ∷ refusals_of m office (after_ask m T a) asks) (refusals_of m office (after_ask m T a) asks)) (ne_eqb a.office office other)
      ∙ rest ∙ ap (λ s. own_refusals m s (own_asks office asks)) (other_leaves m T g a office other)
      ∙ sym (ap (λ b. own_refusals m share (cond b (a ∷ own_asks office asks) (own_asks office asks))) (ne_eqb a.office office other)))

  -- ---- isolation
  -- two runs from tables that have grown so, in which the office has the same rows and makes the same calls
  module _ (T U : Table) (asks asks' : List Ask) (g : GrownTable m T) (h : GrownTable m U) (begin : rows_of office (table_in T) ≡ rows_of office (table_in U)) (agree : own_asks office asks ≡ own_asks office asks') where
    -- leave it the same rows
    pub same_rows : rows_of office (table_in (after_all m T asks)) ≡ rows_of office (table_in (after_all m U asks'))
    same_rows = rows_own T asks g ∙ ap₂ (own_all m) begin agree ∙ sym (rows_own U asks' h)

    -- refuse its calls by the same numbers
    pub same_refusals : refusals_of m office T asks ≡ refusals_of m office U asks'
    same_refusals = refusals_own T asks g ∙ ap₂ (own_refusals m) begin agree ∙ sym (refusals_own U asks' h)

    abbrev first : Table
    first = after_all m T asks

    abbrev second : Table
    second = after_all m U asks'

    right : (X : Table) → GrownTable m X → not (is_table X.offices X.ids X.waived X.rows) || not (row_keys_valid m (table_in X)) ≡ false
    right X k = ap₂ (λ a b. not a || not b) (never_14 k) k.valid

    -- and give it the same findings and counts, on any list and with any rules
    pub same_findings : (s : ℕ) (keys bits : List ℕ) (n : ℕ) (rules : List Rule) (found_ids found_keys : List ℕ)
        → (findings m s keys bits n office rules first.offices first.ids first.waived first.rows found_ids found_keys ≡ findings m s keys bits n office rules second.offices second.ids second.waived second.rows found_ids found_keys)
        × (findings_ids m s keys bits n office rules first.offices first.ids first.waived first.rows found_ids found_keys ≡ findings_ids m s keys bits n office rules second.offices second.ids second.waived second.rows found_ids found_keys)
        × (findings_keys m s keys bits n office rules first.offices first.ids first.waived first.rows found_ids found_keys ≡ findings_keys m s keys bits n office rules second.offices second.ids second.waived second.rows found_ids found_keys)
    same_findings s keys bits n rules found_ids found_keys =
        let e = right first (all_grow T asks g) ∙ sym (right second (all_grow U asks' h)) in (
          ap₂ (λ x l. found_with m s keys bits n office x rules l found_ids found_keys) e same_rows,
          ap₂ (λ x l. ids_with m s keys bits n office x rules l found_ids found_keys) e same_rows,
          ap₂ (λ x l. found_keys_with m s keys bits n office x rules l found_ids found_keys) e same_rows,
        )

-- ---- from the empty table
-- a table without rows, whatever its 512 places hold
pub record Empty (T : Table) : Type 0 where
  pub all_offices : length T.offices ≡ 512
  pub all_ids : length T.ids ≡ 512
  pub all_waived : length T.waived ≡ 512
  pub none : T.rows ≡ 0

no-rows : (T : Table) → Empty T → table_in T ≡ []
unfolding table_of rows_in
no-rows T e = ap (table_of T.offices T.ids T.waived) e.none

-- so neither office has any
pub empty_share : (office : ℕ) (T : Table) → Empty T → rows_of office (table_in T) ≡ []
empty_share office T e = ap (rows_of office) (no-rows T e) ∙ share_none office

pub empty_grown : (m : ℕ) (T : Table) → Empty T → GrownTable m T
unfolding rows_ascend offices_known row_keys_valid
empty_grown m T e =
    let none = no-rows T e in
    let zero = ap (λ t. length (rows_of 0 t)) none ∙ ap length (share_none 0) in
    let one = ap (λ t. length (rows_of 1 t)) none ∙ ap length (share_none 1) in
    record {
      all_offices = e.all_offices;
      all_ids = e.all_ids;
      all_waived = e.all_waived;
      few = omega (arith, e.none);
      sound = record { ascend = ap rows_ascend none; known = ap offices_known none; zero = omega arith; one = omega arith };
      valid = ap (row_keys_valid m) none;
    }

-- an office's own calls are their own calls
own_again : (office : ℕ) (asks : List Ask) → own_asks office (own_asks office asks) ≡ own_asks office asks
unfolding own_asks
own_again office [] = refl
own_again office (a ∷ asks) =
    equal a.office office
    (λ e. rw (eq-eqb a.office office e) (rw (eq-eqb a.office office e) (ap (λ l. a ∷ l) (own_again office asks))))
    (λ other. rw (ne_eqb a.office office other) (own_again office asks))

-- any calls of both offices in any order, refused ones included, against the office's own calls alone
module _ (m office : ℕ) (T : Table) (e : Empty T) (asks : List Ask) where
  g : GrownTable m T
  g = empty_grown m T e

  pub isolated_rows : rows_of office (table_in (after_all m T asks)) ≡ rows_of office (table_in (after_all m T (own_asks office asks)))
  isolated_rows = same_rows m office T T asks (own_asks office asks) g g refl (sym (own_again office asks))

  pub isolated_refusals : refusals_of m office T asks ≡ refusals_of m office T (own_asks office asks)
  isolated_refusals = same_refusals m office T T asks (own_asks office asks) g g refl (sym (own_again office asks))

  abbrev both : Table
  both = after_all m T asks

  abbrev alone : Table
  alone = after_all m T (own_asks office asks)

  pub isolated_findings : (s : ℕ) (keys bits : List ℕ) (n : ℕ) (rules : List Rule) (found_ids found_keys : List ℕ)
      → (findings m s keys bits n office rules both.offices both.ids both.waived both.rows found_ids found_keys ≡ findings m s keys bits n office rules alone.offices alone.ids alone.waived alone.rows found_ids found_keys)
      × (findings_ids m s keys bits n office rules both.offices both.ids both.waived both.rows found_ids found_keys ≡ findings_ids m s keys bits n office rules alone.offices alone.ids alone.waived alone.rows found_ids found_keys)
      × (findings_keys m s keys bits n office rules both.offices both.ids both.waived both.rows found_ids found_keys ≡ findings_keys m s keys bits n office rules alone.offices alone.ids alone.waived alone.rows found_ids found_keys)
  isolated_findings = same_findings m office T T asks (own_asks office asks) g g refl (sym (own_again office asks))

  -- 14 never comes, and the two shares together never pass the table
  pub sound_always : is_table both.offices both.ids both.waived both.rows ≡ true
  sound_always = never_14 (all_grow m office T asks g)

  pub shares_within : length (rows_of 0 (table_in both)) + length (rows_of 1 (table_in both)) ≤ 512
  shares_within = let k = (all_grow m office T asks g).sound in omega (arith, k.zero, k.one)
