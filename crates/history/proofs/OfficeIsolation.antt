-- Isolation (specification S14.18): in a table grown from empty by adding and removing at one m, an office's rows, the refusals of its calls and its findings are
-- those of its own calls alone. Rests on OfficeShares.
use Prim.Native.Nat.{ℕ, ◌+◌, ◌-◌, ◌≤◌, ◌<◌, max}
use mathlib.Core.Path.{◌≡◌, refl, sym, ap, ap₂, subst, ◌∙◌}
use mathlib.Core.Logic.{◌↔◌}
use mathlib.Core.Bool.{true, false, cond, not}
use mathlib.Core.List.{List, [], ◌∷◌, ◌++◌, map}
use native.Mathlib.Omega.{arith}
use lib.ListN.{length, drop, replicate, length-append, length-drop, length-map, length-replicate}
use lib.Dec.{leb, ltb, eqb}
use borrow.Author.Tests.{eq-eqb, le-leb, leb-true, leb-false, ltb-false, not-false}
use Rattle.keys.specs.Key.{deepest_level, valid_key}
use Rattle.keys.proofs.Cases.{decide, equal, and_both}
use Rattle.definitions.specs.Buffer.{over, replaced}
use Rattle.definitions.specs.Refusal.{Row, ◌gives◌, first, accepted, bad_key}
use Rattle.definitions.specs.Rules.{Finding}
use Rattle.definitions.specs.Offices.{Waiver, waiver_of, waived_by, Holds, bad_office, office_limit, table_of, rows_of, is_sound_table, is_table, row_keys_valid, is_row, added, removed}
use Rattle.definitions.specs.Calls.AddWaiver.{add_refusal, add_waiver, add_offices, add_ids, add_keys}
use Rattle.definitions.specs.Calls.RemoveWaiver.{remove_refusal, remove_waiver, remove_offices, remove_ids, remove_keys}
use Rattle.laws.proofs.First.{first_this, first_later, first_end, first_none, accepted_done, accepted_left}
use Rattle.laws.proofs.RowPlaces.{table-length, table_made}
use Rattle.laws.proofs.RowOrder.{added_ascend, removed_ascend}
use Rattle.laws.proofs.Shares.{Sound, known_all}
use Rattle.history.specs.OfficeRuns.{Table, Ask, refusal_of, after_ask}
use Rattle.history.proofs.OfficeShares.{is_found, added_own, removed_own, share_row, share_added, share_added_other, share_removed, share_removed_other, added_row-length, added_own-length, removed-length, removed_own_few, added_known, removed_known, added_valid, removed_valid}

abbrev pub row_of_ask : Ask → Waiver
row_of_ask a = waiver_of a.office a.id a.key

abbrev pub table_in : Table → List Waiver
table_in T = table_of T.offices T.ids T.waived T.rows

-- ---- a table grown by these calls
pub record GrownTable (m : ℕ) (T : Table) : Type 0 where
  pub all_offices : length T.offices ≡ 512
  pub all_ids : length T.ids ≡ 512
  pub all_waived : length T.waived ≡ 512
  pub few : T.rows ≤ 512
  pub sound : Sound (table_in T)
  pub valid : row_keys_valid m (table_in T) ≡ true

-- 14 never comes
pub never_14 : {m : ℕ} {T : Table} → GrownTable m T → is_table T.offices T.ids T.waived T.rows ≡ true
unfolding is_table is_sound_table
never_14 {m} {T} g =
    let t = table_in T in
    let s = g.sound in
    and_both _ _ (eq-eqb _ _ g.all_offices) (and_both _ _ (eq-eqb _ _ g.all_ids) (and_both _ _ (eq-eqb _ _ g.all_waived) (and_both _ _ (le-leb _ _ g.few)
    (and_both _ _ s.ascend (and_both _ _ s.known (and_both _ _ (le-leb (length (rows_of 0 t)) 256 s.zero) (le-leb (length (rows_of 1 t)) 256 s.one)))))))

-- ---- the share by itself
module _ (m : ℕ) where
  unfoldable pub own_refusal : List Finding → Ask → ℕ
  own_refusal share a =
      cond a.adds
      (first
      (bad_office a.office gives 21
      ∷ ltb deepest_level m gives 1
      ∷ bad_key m a.key gives 8
      ∷ is_found (waived_by (row_of_ask a)) share gives 22
      ∷ leb office_limit (length share) gives 12
      ∷ []))
      (first (bad_office a.office gives 21 ∷ ltb deepest_level m gives 1 ∷ bad_key m a.key gives 8 ∷ not (is_found (waived_by (row_of_ask a)) share) gives 22 ∷ []))

  unfoldable pub own_after : List Finding → Ask → List Finding
  own_after share a =
      accepted (own_refusal share a) (cond a.adds (added_own (waived_by (row_of_ask a)) share) (removed_own (waived_by (row_of_ask a)) share)) share

-- a row of a table of refusals whose test fails is passed over
third_out : (a b c : Row) (rest : List Row) → c.test ≡ false → first (a ∷ b ∷ c ∷ rest) ≡ first (a ∷ b ∷ rest)
unfolding first
third_out a b c rest e = ap (λ x. cond a.test a.number (cond b.test b.number x)) (first_later c rest e)

module _ (m : ℕ) (T : Table) (g : GrownTable m T) where
  abbrev t : List Waiver
  t = table_in T

  module _ (a : Ask) where
    abbrev w : Waiver
    w = row_of_ask a

    abbrev adding : ℕ
    adding = add_refusal m a.office T.offices T.ids T.waived T.rows a.id a.key

    abbrev removing : ℕ
    removing = remove_refusal m a.office T.offices T.ids T.waived T.rows a.id a.key

    abbrev share : List Finding
    share = rows_of a.office t

    -- a call is refused as the office's share by itself would have it
    pub refusal_own : refusal_of m T a ≡ own_refusal m share a
    unfolding refusal_of own_refusal add_refusal remove_refusal
    refusal_own =
        ap₂ (λ x y. cond a.adds x y)
        (third_out _ _ _ _ (ap not (never_14 g))
        ∙ ap (λ b. first (bad_office a.office gives 21 ∷ ltb deepest_level m gives 1 ∷ bad_key m a.key gives 8 ∷ b gives 22 ∷ leb office_limit (length share) gives 12 ∷ [])) (share_row w t))
        (third_out _ _ _ _ (ap not (never_14 g))
        ∙ ap (λ b. first (bad_office a.office gives 21 ∷ ltb deepest_level m gives 1 ∷ bad_key m a.key gives 8 ∷ not b gives 22 ∷ [])) (share_row w t))

    own_limit : bad_office a.office ≡ false → length share ≤ 256
    own_limit known =
        let low = ltb-false 1 a.office known in
        equal a.office 0
        (λ e. let s = g.sound.zero in let f = ap (λ o. length (rows_of o t)) e in omega arith)
        (λ other. let e : a.office ≡ 1 = omega arith in let s = g.sound.one in let f = ap (λ o. length (rows_of o t)) e in omega arith)

    -- where nothing else is wrong with a row to add, 12 comes exactly when the office has 256
    pub full_exactly : a.adds ≡ true → bad_office a.office ≡ false → ltb deepest_level m ≡ false → bad_key m a.key ≡ false → is_row w t ≡ false
        → (refusal_of m T a ≡ 12) ↔ (length share ≡ 256)
    unfolding refusal_of add_refusal
    full_exactly adds known level key-good new =
        let last = leb office_limit (length share) gives 12 in
        let five : refusal_of m T a ≡ first (last ∷ []) =
        ap (λ b. cond b adding removing) adds
        ∙ (first_later _ _ known ∙ first_later _ _ level ∙ first_later _ _ (ap not (never_14 g)) ∙ first_later _ _ key-good ∙ first_later _ _ new) in (
          λ e. decide (leb 256 (length share))
              (λ full. let h = leb-true 256 (length share) full in let l = own_limit known in omega arith)
              (λ few. let z = sym five ∙ e in let y = first_later last [] few ∙ first_end in absurd (omega arith)),
          λ e. five ∙ first_this last [] (le-leb 256 (length share) (omega arith)),
        )

    -- ---- the table after a call
    holds : Holds T.offices T.ids T.waived T.rows
    holds = record { in_offices = omega (arith, g.all_offices, g.few); in_ids = omega (arith, g.all_ids, g.few); in_waived = omega (arith, g.all_waived, g.few) }

    size : length t ≡ T.rows
    size = table-length T.offices T.ids T.waived T.rows holds

    -- what is left after an accepted call, and that the table has grown by it
    pub record Left (t' : List Waiver) : Type 0 where
      pub grown : GrownTable m (after_ask m T a)
      pub table : table_in (after_ask m T a) ≡ t'

    -- a table written from the first place on
    written : (t' : List Waiver) (x y z : List ℕ) (rows : ℕ) → rows ≡ length t' → length (map (λ v. v.office) t' ++ x) ≡ 512 → length (map (λ v. v.id) t' ++ y) ≡ 512
        → length (map (λ v. v.key) t' ++ z) ≡ 512 → Sound t' → row_keys_valid m t' ≡ true → rows ≤ 512
        → after_ask m T a ≡ record { offices = map (λ v. v.office) t' ++ x; ids = map (λ v. v.id) t' ++ y; waived = map (λ v. v.key) t' ++ z; rows = rows } → Left t'
    written t' x y z rows n p q r s v few e =
        let is = ap (table_of (map (λ v. v.office) t' ++ x) (map (λ v. v.id) t' ++ y) (map (λ v. v.key) t' ++ z)) n ∙ table_made t' x y z in
        record {
          grown = subst (GrownTable m) (sym e) (record {
            all_offices = p;
            all_ids = q;
            all_waived = r;
            few = few;
            sound = subst Sound (sym is) s;
            valid = ap (row_keys_valid m) is ∙ v;
          });
          table = ap table_in e ∙ is;
        }

    -- a refused call
    pub stays : (refusal_of m T a ≡ 0 → ⊥) → after_ask m T a ≡ T
    unfolding refusal_of after_ask add_offices add_ids add_keys remove_offices remove_ids remove_keys
    stays refused =
        decide a.adds
        (λ adds.
        let h : adding ≡ 0 → ⊥ = λ z. refused (ap (λ b. cond b adding removing) adds ∙ z) in
        rw adds (λ i. record {
          offices = accepted_left {refusal = adding} (over (map (λ v. v.office) (added w t)) T.offices) T.offices h i;
          ids = accepted_left {refusal = adding} (over (map (λ v. v.id) (added w t)) T.ids) T.ids h i;
          waived = accepted_left {refusal = adding} (over (map (λ v. v.key) (added w t)) T.waived) T.waived h i;
          rows = accepted_left {refusal = adding} (add_waiver m a.office T.offices T.ids T.waived T.rows a.id a.key).count T.rows h i;
        }))
        (λ removes.
        let h : removing ≡ 0 → ⊥ = λ z. refused (ap (λ b. cond b adding removing) removes ∙ z) in
        rw removes (λ i. record {
          offices = accepted_left {refusal = removing} (replaced T.rows (map (λ v. v.office) (removed w t)) T.offices) T.offices h i;
          ids = accepted_left {refusal = removing} (replaced T.rows (map (λ v. v.id) (removed w t)) T.ids) T.ids h i;
          waived = accepted_left {refusal = removing} (replaced T.rows (map (λ v. v.key) (removed w t)) T.waived) T.waived h i;
          rows = accepted_left {refusal = removing} (remove_waiver m a.office T.offices T.ids T.waived T.rows a.id a.key).count T.rows h i;
        }))

    -- the slices after an accepted call are as long as before
    over_long : (f : Waiver → ℕ) (t' : List Waiver) (l : List ℕ) → length t' ≤ 512 → length l ≡ 512 → length (over (map f t') l) ≡ 512
    over_long f t' l low full =
        let a = length-append (map f t') (drop (length (map f t')) l) in
        let b = length-map t' f in
        let c = length-drop (length (map f t')) l in
        omega arith

    replaced_long : (f : Waiver → ℕ) (t' : List Waiver) (l : List ℕ) (rows : ℕ) → length t' ≤ rows → rows ≤ 512 → length l ≡ 512 → length (replaced rows (map f t') l) ≡ 512
    replaced_long f t' l rows low few full =
        let n = length (map f t') in
        let a = length-append (map f t') (replicate (rows - n) 0 ++ drop (max rows n) l) in
        let b = length-append (replicate (rows - n) 0) (drop (max rows n) l) in
        let c = length-map t' f in
        let zero : ℕ = 0 in
        let d = length-replicate (rows - n) zero in
        let e = length-drop (max rows n) l in
        omega arith

    module _ (adds : a.adds ≡ true) (done : refusal_of m T a ≡ 0) where
      zero : adding ≡ 0
      unfolding refusal_of
      zero = sym (ap (λ b. cond b adding removing) adds) ∙ done

      absent : is_row w t ≡ false
      unfolding add_refusal
      absent = (first_none _ refl zero).1.1.1.1.0

      known : bad_office a.office ≡ false
      unfolding add_refusal
      known = (first_none _ refl zero).0

      key_valid : valid_key m a.key ≡ true
      unfolding add_refusal
      key_valid = not-false (valid_key m a.key) (first_none _ refl zero).1.1.1.0

      few_own : length share < 256
      unfolding add_refusal
      few_own = leb-false 256 (length share) (first_none _ refl zero).1.1.1.1.1.0

      -- the shares stay within their limits
      limit : (o : ℕ) → length (rows_of o t) ≤ 256 → length (rows_of o (added w t)) ≤ 256
      limit o low =
          equal a.office o
          (λ e.
          let x = ap length (share_added w t g.sound.ascend) ∙ added_own-length (waived_by w) share in
          let y = ap (λ k. length (rows_of k (added w t))) e in
          let f = few_own in
          omega arith)
          (λ other. let x = ap length (share_added_other o w t other) in omega arith)

      sound_more : Sound (added w t)
      sound_more =
          record {
            ascend = added_ascend w t g.sound.ascend absent;
            known = added_known w t known g.sound.known;
            zero = limit 0 g.sound.zero;
            one = limit 1 g.sound.one;
          }

      pub adds_row : Left (added w t)
      unfolding after_ask add_offices add_ids add_keys add_waiver
      adds_row =
          let s = sound_more in
          let all = known_all (added w t) s.known in
          let more = added_row-length w t in
          let n = size in
          let p = s.zero in
          let q = s.one in
          let low : length (added w t) ≤ 512 = omega arith in
          written (added w t) (drop (length (map (λ v. v.office) (added w t))) T.offices) (drop (length (map (λ v. v.id) (added w t))) T.ids)
          (drop (length (map (λ v. v.key) (added w t))) T.waived) (T.rows + 1) (omega arith)
          (over_long (λ v. v.office) (added w t) T.offices low g.all_offices) (over_long (λ v. v.id) (added w t) T.ids low g.all_ids)
          (over_long (λ v. v.key) (added w t) T.waived low g.all_waived) s (added_valid m w t key_valid g.valid) (omega arith)
          (rw adds (λ i. record {
            offices = accepted_done {refusal = adding} (over (map (λ v. v.office) (added w t)) T.offices) T.offices zero i;
            ids = accepted_done {refusal = adding} (over (map (λ v. v.id) (added w t)) T.ids) T.ids zero i;
            waived = accepted_done {refusal = adding} (over (map (λ v. v.key) (added w t)) T.waived) T.waived zero i;
            rows = (accepted_done {refusal = adding} (accepted adding (T.rows + 1) (cond (eqb adding 12) 257 0)) T.rows zero
                ∙ accepted_done {refusal = adding} (T.rows + 1) (cond (eqb adding 12) 257 0) zero) i;
          }))

    module _ (removes : a.adds ≡ false) (done : refusal_of m T a ≡ 0) where
      zero' : removing ≡ 0
      unfolding refusal_of
      zero' = sym (ap (λ b. cond b adding removing) removes) ∙ done

      there : is_row w t ≡ true
      unfolding remove_refusal
      there = not-false (is_row w t) (first_none _ refl zero').1.1.1.1.0

      limit' : (o : ℕ) → length (rows_of o t) ≤ 256 → length (rows_of o (removed w t)) ≤ 256
      limit' o low =
          equal a.office o
          (λ e.
          let x = ap length (share_removed w t) in
          let few = removed_own_few (waived_by w) share in
          let y = ap (λ k. length (rows_of k (removed w t))) e in
          let z = ap (λ k. length (rows_of k t)) e in
          omega arith)
          (λ other. let x = ap length (share_removed_other o w t other) in omega arith)

      pub removes_row : Left (removed w t)
      unfolding after_ask remove_offices remove_ids remove_keys remove_waiver
      removes_row =
          let less = removed-length w t there in
          let n = size in
          let few = g.few in
          let low : length (removed w t) ≤ T.rows = omega arith in
          written (removed w t) _ _ _ (T.rows - 1) (omega arith)
          (replaced_long (λ v. v.office) (removed w t) T.offices T.rows low few g.all_offices) (replaced_long (λ v. v.id) (removed w t) T.ids T.rows low few g.all_ids)
          (replaced_long (λ v. v.key) (removed w t) T.waived T.rows low few g.all_waived)
          (record {
            ascend = removed_ascend w t g.sound.ascend;
            known = removed_known w t g.sound.known;
            zero = limit' 0 g.sound.zero;
            one = limit' 1 g.sound.one;
          })
          (removed_valid m w t g.valid) (omega arith)
          (rw removes (λ i. record {
            offices = accepted_done {refusal = removing} (replaced T.rows (map (λ v. v.office) (removed w t)) T.offices) T.offices zero' i;
            ids = accepted_done {refusal = removing} (replaced T.rows (map (λ v. v.id) (removed w t)) T.ids) T.ids zero' i;
            waived = accepted_done {refusal = removing} (replaced T.rows (map (λ v. v.key) (removed w t)) T.waived) T.waived zero' i;
            rows = (accepted_done {refusal = removing} (accepted removing (T.rows - 1) 0) T.rows zero' ∙ accepted_done {refusal = removing} (T.rows - 1) 0 zero') i;
          }))
