-- The asking office's rows, as the first run finds them: they are a part of the table's slices and good waivers; and what is given with them is what the call
-- gives with the table. Rests on Refusals and Beginning, and on OwnRows of the crate offices.
use Prim.Native.Nat.{ℕ, ◌+◌, ◌≤◌}
use mathlib.Core.Path.{◌≡◌, refl, sym, ap, ap₂, subst, ◌∙◌}
use mathlib.Core.Bool.{Bool, true, false, not, ◌||◌}
use mathlib.Core.List.{List, [], ◌∷◌}
use native.Mathlib.Omega.{arith}
use lib.ListN.{length, take, drop, length-drop}
use lib.Seq.{length-take-le}
use borrow.Author.Tests.{ltb-false}
use Rattle.keys.specs.Key.{valid_key}
use Rattle.keys.proofs.Cases.{decide, equal, and_left, and_right, and_both, or_left, or_right}
use Rattle.definitions.specs.Read.{is_list}
use Rattle.definitions.specs.Refusal.{bad_settings}
use Rattle.definitions.specs.Rules.{Finding, waivers_of, findings_ascend}
use Rattle.definitions.specs.Offices.{Waiver, bad_office, table_of, rows_of, row_keys_valid, is_table}
use Rattle.definitions.specs.Calls.Findings.{refusal_with, found_with, ids_with, found_keys_with}
use Rattle.definitions.specs.declared.Rule.{Rule}
use Rattle.laws.proofs.Shares.{share_own, share_other, share_none}
use Rattle.offices.proofs.OwnRows.{office_part, own_part, own_within, own_ascend, own_no_table, own_bad_key, own_found, rows_hold, rows_sound}
use Rattle.finding_runs.specs.Run.{rows_told, OfficeRows, no_rows, own_told, keys_valid, waivers_good, begin_refusal, own_at}
use Rattle.finding_runs.proofs.GoodRules.{good_from}
use Rattle.finding_runs.proofs.GoodWaivers.{good_none}
use Rattle.finding_runs.proofs.Beginning.{RunFits, zero_office, zero_settings, zero_list, own_looked, own_passed, begin_good}
use Rattle.finding_runs.proofs.Refusals.{refusal_21, refusal_1, refusal_4, refusal_13, refusal_14, given_refused, ids_stay, keys_stay}

-- ---- valid keys
own_valid : (m office : ℕ) (t : List Waiver) → row_keys_valid m t ≡ true → keys_valid m (rows_of office t) ≡ true
unfolding row_keys_valid keys_valid
own_valid m office [] e = ap (keys_valid m) (share_none office)
own_valid m office (w ∷ t) e =
    let here = and_left (valid_key m w.key) (row_keys_valid m t) e in
    let rest = own_valid m office t (and_right (valid_key m w.key) (row_keys_valid m t) e) in
    equal w.office office
    (λ f. ap (keys_valid m) (share_own office w t f) ∙ and_both (valid_key m w.key) (keys_valid m (rows_of office t)) here rest)
    (λ other. ap (keys_valid m) (share_other office w t other) ∙ rest)

none_read : (count : ℕ) (l : List ℕ) → count ≡ 0 → take count l ≡ []
none_read count l e = ap (λ n. take n l) e

no_waivers : waivers_of [] [] ≡ []
unfolding waivers_of
no_waivers = refl

-- the part is as long as it was asked for
part_long : (offset count : ℕ) (l : List ℕ) → offset + count ≤ length l → length (office_part offset count l) ≡ count
part_long offset count l h = let rest = length-drop offset l in length-take-le count (drop offset l) (omega arith)

module _ (m office : ℕ) (offices ids waived : List ℕ) (rows : ℕ) where
  abbrev t : List Waiver
  t = table_of offices ids waived rows

  -- what the table gives, where it is good with its keys
  pub record Rows (own : OfficeRows) : Type 0 where
    pub in_ids : own.offset + own.count ≤ length ids
    pub in_waived : own.offset + own.count ≤ length waived
    pub good : own.good ≡ true → waivers_good m (waivers_of (office_part own.offset own.count ids) (office_part own.offset own.count waived)) ≡ true

  no-rows : (good : Bool) → Rows (no_rows good)
  no-rows good =
      record {
        in_ids = omega arith;
        in_waived = omega arith;
        good = λ e. ap (waivers_good m) no_waivers ∙ good_none m;
      }

  module _ (known : office ≤ 1) (is : is_table offices ids waived rows ≡ true) (valid : row_keys_valid m t ≡ true) where
    pub parts_are : (own : OfficeRows) → own ≡ own_told m office offices ids waived rows
        → waivers_of (office_part own.offset own.count ids) (office_part own.offset own.count waived) ≡ rows_of office t
    parts_are own e = rw (e ∙ sym (ap rows_told (own_found m office offices ids waived rows is valid))) (own_part offices ids waived rows is office known)

    rows_good : waivers_good m (rows_of office t) ≡ true
    unfolding waivers_good
    rows_good =
        and_both (findings_ascend (rows_of office t)) (keys_valid m (rows_of office t)) (own_ascend office t (rows_sound offices ids waived rows is).ascend) (own_valid m office t valid)

    found_rows : Rows (own_told m office offices ids waived rows)
    found_rows =
        let within = own_within offices ids waived rows is office known in
        let h = rows_hold offices ids waived rows is in
        subst Rows (ap rows_told (own_found m office offices ids waived rows is valid))
        (record {
          in_ids = omega (arith, h.in_ids);
          in_waived = omega (arith, h.in_waived);
          good = λ e. ap (waivers_good m) (own_part offices ids waived rows is office known) ∙ rows_good;
        })

  of_rows : office ≤ 1 → Rows (own_told m office offices ids waived rows)
  of_rows known =
      decide (is_table offices ids waived rows)
      (λ is. decide (row_keys_valid m t) (λ valid. found_rows known is valid) (λ bad. subst Rows (ap rows_told (own_bad_key m office offices ids waived rows is bad)) (no-rows false)))
      (λ no. subst Rows (ap rows_told (own_no_table m office offices ids waived rows no)) (no-rows false))

module _ (m s : ℕ) (keys bits : List ℕ) (n office : ℕ) (offices ids waived : List ℕ) (rows : ℕ) where
  abbrev own : OfficeRows
  own = own_at m s keys bits n office offices ids waived rows

  abbrev early : ℕ
  early = begin_refusal office m s keys bits n

  at_rows : Rows m office offices ids waived rows own
  at_rows =
      equal early 0
      (λ zero. subst (Rows m office offices ids waived rows) (own_looked office m s keys bits n offices ids waived rows zero)
      (of_rows m office offices ids waived rows (ltb-false 1 office (zero_office office m s keys bits n zero))))
      (λ not-zero. subst (Rows m office offices ids waived rows) (own_passed office m s keys bits n offices ids waived rows not-zero) (no-rows m office offices ids waived rows true))

  pub own_at_within : (own.offset + own.count ≤ length ids) × (own.offset + own.count ≤ length waived)
  own_at_within = (at_rows.in_ids, at_rows.in_waived)

  pub own_at_fits : RunFits m own (office_part own.offset own.count ids) (office_part own.offset own.count waived)
  own_at_fits =
      let a = part_long own.offset own.count ids at_rows.in_ids in
      let b = part_long own.offset own.count waived at_rows.in_waived in
      record { size = omega arith; good = at_rows.good }

-- ---- what is given
module _ (m s : ℕ) (keys bits : List ℕ) (n office : ℕ) (rules : List Rule) (found_ids found_keys : List ℕ) where
  abbrev refusal : Bool → List Finding → ℕ
  refusal wrong ws = refusal_with m s keys bits n office wrong rules ws found_ids found_keys

  -- the result and the two slices are the same
  abbrev pub Alike : Bool → List Finding → Bool → List Finding → Type 0
  Alike wrong ws wrong' ws' =
      (found_with m s keys bits n office wrong rules ws found_ids found_keys ≡ found_with m s keys bits n office wrong' rules ws' found_ids found_keys)
      × (ids_with m s keys bits n office wrong rules ws found_ids found_keys ≡ ids_with m s keys bits n office wrong' rules ws' found_ids found_keys)
      × (found_keys_with m s keys bits n office wrong rules ws found_ids found_keys ≡ found_keys_with m s keys bits n office wrong' rules ws' found_ids found_keys)

  -- two calls that are refused with the same number give the same
  both_refused : (wrong wrong' : Bool) (ws ws' : List Finding) (c : ℕ) → refusal wrong ws ≡ c → refusal wrong' ws' ≡ c → (c ≡ 0 → ⊥) → (c ≡ 12 → ⊥) → Alike wrong ws wrong' ws'
  both_refused wrong wrong' ws ws' c e f not-zero not_full = (
    given_refused m s keys bits n office wrong rules ws found_ids found_keys c e not-zero not_full
        ∙ sym (given_refused m s keys bits n office wrong' rules ws' found_ids found_keys c f not-zero not_full),
    ids_stay m s keys bits n office wrong rules ws found_ids found_keys (λ z. not-zero (sym e ∙ z))
        ∙ sym (ids_stay m s keys bits n office wrong' rules ws' found_ids found_keys (λ z. not-zero (sym f ∙ z))),
    keys_stay m s keys bits n office wrong rules ws found_ids found_keys (λ z. not-zero (sym e ∙ z))
        ∙ sym (keys_stay m s keys bits n office wrong' rules ws' found_ids found_keys (λ z. not-zero (sym f ∙ z))),
  )

  -- 21, 1 and 4 do not look at the table
  early_alike : (wrong wrong' : Bool) (ws ws' : List Finding) → (begin_refusal office m s keys bits n ≡ 0 → ⊥) → Alike wrong ws wrong' ws'
  early_alike wrong wrong' ws ws' not-zero =
      decide (bad_office office)
      (λ other. both_refused wrong wrong' ws ws' 21 (refusal_21 m s keys bits n office wrong rules ws found_ids found_keys other) (refusal_21 m s keys bits n office wrong' rules ws' found_ids found_keys other) (λ e. omega arith) (λ e. omega arith))
      (λ known. decide (bad_settings m s)
      (λ bad. both_refused wrong wrong' ws ws' 1 (refusal_1 m s keys bits n office wrong rules ws found_ids found_keys known bad) (refusal_1 m s keys bits n office wrong' rules ws' found_ids found_keys known bad) (λ e. omega arith) (λ e. omega arith))
      (λ settings. decide (is_list m s keys bits n)
      (λ list. absurd (not-zero (begin_good office m s keys bits n known settings list)))
      (λ no_list. both_refused wrong wrong' ws ws' 4 (refusal_4 m s keys bits n office wrong rules ws found_ids found_keys known settings no_list) (refusal_4 m s keys bits n office wrong' rules ws' found_ids found_keys known settings no_list) (λ e. omega arith) (λ e. omega arith))))

  -- a wrong table gives 13 or 14, whatever its waivers are
  wrong_alike : (ws ws' : List Finding) → begin_refusal office m s keys bits n ≡ 0 → Alike true ws true ws'
  wrong_alike ws ws' zero =
      let known = zero_office office m s keys bits n zero in
      let settings = zero_settings office m s keys bits n zero in
      let list = zero_list office m s keys bits n zero in
      decide (good_from m s 0 rules)
      (λ good. both_refused true true ws ws' 14 (refusal_14 m s keys bits n office true rules ws found_ids found_keys known settings list good refl)
      (refusal_14 m s keys bits n office true rules ws' found_ids found_keys known settings list good refl) (λ e. omega arith) (λ e. omega arith))
      (λ bad. both_refused true true ws ws' 13 (refusal_13 m s keys bits n office true rules ws found_ids found_keys known settings list bad)
      (refusal_13 m s keys bits n office true rules ws' found_ids found_keys known settings list bad) (λ e. omega arith) (λ e. omega arith))

  module _ (offices ids waived : List ℕ) (rows : ℕ) where
    abbrev rows_found : OfficeRows
    rows_found = own_at m s keys bits n office offices ids waived rows

    abbrev pub parts : OfficeRows → List Finding
    parts o = waivers_of (office_part o.offset o.count ids) (office_part o.offset o.count waived)

    abbrev table : List Waiver
    table = table_of offices ids waived rows

    abbrev pub wrong_table : Bool
    wrong_table = not (is_table offices ids waived rows) || not (row_keys_valid m table)

    -- with the rows that were found, as with the table
    alike : Alike (not rows_found.good) (parts rows_found) wrong_table (rows_of office table)
    alike =
        equal (begin_refusal office m s keys bits n) 0
        (λ zero.
        let looked = own_looked office m s keys bits n offices ids waived rows zero in
        let known = ltb-false 1 office (zero_office office m s keys bits n zero) in
        decide (is_table offices ids waived rows)
        (λ is. decide (row_keys_valid m table)
        (λ valid.
        let a : not rows_found.good ≡ false = ap (λ o. not o.good) (sym looked ∙ sym (ap rows_told (own_found m office offices ids waived rows is valid))) in
        let b : wrong_table ≡ false = ap₂ (λ x y. not x || not y) is valid in
        rw (a, b, parts_are m office offices ids waived rows known is valid rows_found (sym looked)) (refl, refl, refl))
        (λ bad.
        let a : not rows_found.good ≡ true = ap (λ o. not o.good) (sym looked ∙ sym (ap rows_told (own_bad_key m office offices ids waived rows is bad))) in
        let b : wrong_table ≡ true = or_right (not (is_table offices ids waived rows)) (not (row_keys_valid m table)) (ap not bad) in
        rw (a, b) (wrong_alike (parts rows_found) (rows_of office table) zero)))
        (λ no.
        let a : not rows_found.good ≡ true = ap (λ o. not o.good) (sym looked ∙ sym (ap rows_told (own_no_table m office offices ids waived rows no))) in
        let b : wrong_table ≡ true = or_left (not (is_table offices ids waived rows)) (not (row_keys_valid m table)) (ap not no) in
        rw (a, b) (wrong_alike (parts rows_found) (rows_of office table) zero)))
        (λ not-zero. early_alike (not rows_found.good) wrong_table (parts rows_found) (rows_of office table) not-zero)

pub office_answers : (m s : ℕ) (keys bits : List ℕ) (n office : ℕ) (rules : List Rule) (offices ids waived : List ℕ) (rows : ℕ) (found_ids found_keys : List ℕ)
    → Alike m s keys bits n office rules found_ids found_keys (not (own_at m s keys bits n office offices ids waived rows).good)
    (parts m s keys bits n office rules found_ids found_keys offices ids waived rows (own_at m s keys bits n office offices ids waived rows))
    (wrong_table m s keys bits n office rules found_ids found_keys offices ids waived rows) (rows_of office (table_of offices ids waived rows))
office_answers m s keys bits n office rules offices ids waived rows found_ids found_keys = alike m s keys bits n office rules found_ids found_keys offices ids waived rows
