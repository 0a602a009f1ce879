-- The rows of one office in a sound table: they stand together, so they are a part of the table's slices; they ascend, and their keys are valid. Rests on
-- Checked, and on laws' RowOrder and Shares.
use Prim.Native.Nat.{ℕ, zero, suc, ◌+◌, ◌-◌, ◌≤◌, ◌<◌}
use mathlib.Core.Path.{◌≡◌, refl, sym, ap, ap₂, ◌∙◌}
use mathlib.Core.Bool.{true, false, cond, ◌&&◌}
use mathlib.Core.List.{List, [], ◌∷◌, map}
use native.Mathlib.Numerals.{add-one}
use native.Mathlib.Omega.{arith}
use lib.ListN.{length, get_or, take, drop, drop_of_length-le}
use lib.Seq.{take-take, take_all, drop-cons}
use borrow.Author.Tests.{eq-eqb, ne_eqb}
use Rattle.keys.specs.Key.{valid_key}
use Rattle.keys.proofs.Cases.{equal, and_both}
use Rattle.slices.proofs.Parts.{drop-take}
use Rattle.definitions.specs.Rules.{finding_of, waivers_of, comes_before, findings_ascend}
use Rattle.definitions.specs.Offices.{Waiver, waived_by, Holds, rows_in, table_of, rows_of, rows_ascend, offices_known, row_keys_valid, is_table}
use Rattle.laws.proofs.FindingOrder.{earlier_test}
use Rattle.laws.proofs.RowPlaces.{table-length, table_keys}
use Rattle.laws.proofs.RowOrder.{RowsAfter, no_row, next_row, ascend_after, ascend_rows, after_on}
use Rattle.laws.proofs.Shares.{Sound, share_own, share_other, share_none, known_all, known_first, known_rest}
use Rattle.std.specs.Prelude.{Option, Some, None}
use Rattle.offices.specs.Own.{keys_in, offset_of, office_rows_at, own_of}
use Rattle.offices.specs.declared.own.OwnRows.{OwnRows}
use Rattle.offices.proofs.Checked.{table_holds, table_sound}

-- ---- they stand together
-- no row of an earlier office comes later
none_later : (office : ℕ) (x : Waiver) (t : List Waiver) → office < x.office → RowsAfter x t → rows_of office t ≡ []
none_later office x [] low no_row = share_none office
none_later office x (y ∷ t) low (next_row h r) =
    let up = h.offices in share_other office y t (λ e. omega arith) ∙ none_later office y t (omega arith) r

pub record OfficesApart (t : List Waiver) : Type 0 where
  pub first : rows_of 0 t ≡ map waived_by (take (length (rows_of 0 t)) t)
  pub second : rows_of 1 t ≡ map waived_by (drop (length (rows_of 0 t)) t)

pub stand_apart : (t : List Waiver) → rows_ascend t ≡ true → offices_known t ≡ true → OfficesApart t
stand_apart [] asc known =
    record {
      first = share_none 0 ∙ ap (λ n. map waived_by (take n [])) (sym (ap length (share_none 0)));
      second = share_none 1 ∙ ap (λ n. map waived_by (drop n [])) (sym (ap length (share_none 0)));
    }
stand_apart (x ∷ t) asc known =
    let rest = stand_apart t (ascend_rows x t asc) (known_rest x t known) in
    equal x.office 0
    (λ e.
    let one = share_own 0 x t e in
    let n = ap length one in
    record {
      first = one ∙ ap (λ l. waived_by x ∷ l) rest.first ∙ ap (λ k. map waived_by (take k (x ∷ t))) (sym n);
      second = share_other 1 x t (λ f. omega arith) ∙ rest.second ∙ ap (λ k. map waived_by (drop k (x ∷ t))) (sym n);
    })
    (λ other.
    let low = known_first x t known in
    let is : x.office ≡ 1 = omega arith in
    let none = share_other 0 x t other ∙ none_later 0 x t (omega arith) (ascend_after x t asc) in
    let after = none_later 0 x t (omega arith) (ascend_after x t asc) in
    record {
      first = none ∙ ap (λ k. map waived_by (take k (x ∷ t))) (sym (ap length none));
      second = share_own 1 x t is
          ∙ ap (λ l. waived_by x ∷ l) (rest.second ∙ ap (λ k. map waived_by (drop k t)) (ap length after))
          ∙ ap (λ k. map waived_by (drop k (x ∷ t))) (sym (ap length none));
    })

-- ---- in the slices
waivers-take : (n : ℕ) (ids keys : List ℕ) → take n (waivers_of ids keys) ≡ waivers_of (take n ids) (take n keys)
unfolding waivers_of
waivers-take zero ids keys = refl
waivers-take (suc n) [] keys = refl
waivers-take (suc n) (id ∷ ids) [] = refl
waivers-take (suc n) (id ∷ ids) (κ ∷ keys) = ap (λ l. finding_of id κ ∷ l) (waivers-take n ids keys)

waivers_nil : (ids : List ℕ) → waivers_of ids [] ≡ []
unfolding waivers_of
waivers_nil [] = refl
waivers_nil (id ∷ ids) = refl

waivers-drop : (n : ℕ) (ids keys : List ℕ) → drop n (waivers_of ids keys) ≡ waivers_of (drop n ids) (drop n keys)
unfolding waivers_of
waivers-drop zero ids keys = refl
waivers-drop (suc n) [] keys = refl
waivers-drop (suc n) (id ∷ ids) [] = sym (waivers_nil (drop n ids))
waivers-drop (suc n) (id ∷ ids) (κ ∷ keys) = waivers-drop n ids keys

map-take : (n : ℕ) (t : List Waiver) → map waived_by (take n t) ≡ take n (map waived_by t)
map-take zero t = refl
map-take (suc n) [] = refl
map-take (suc n) (x ∷ t) = ap (λ l. waived_by x ∷ l) (map-take n t)

map-drop : (n : ℕ) (t : List Waiver) → map waived_by (drop n t) ≡ drop n (map waived_by t)
map-drop zero t = refl
map-drop (suc n) [] = refl
map-drop (suc n) (x ∷ t) = map-drop n t

-- what all rows of a table waive
table_waivers : (offices ids waived : List ℕ) (rows : ℕ) → Holds offices ids waived rows → map waived_by (table_of offices ids waived rows) ≡ waivers_of (take rows ids) (take rows waived)
unfolding table_of rows_in waivers_of
table_waivers offices ids waived zero h = refl
table_waivers [] ids waived (suc rows) h = absurd (omega (arith, h.in_offices))
table_waivers (o ∷ offices) [] waived (suc rows) h = refl
table_waivers (o ∷ offices) (i ∷ ids) [] (suc rows) h = refl
table_waivers (o ∷ offices) (i ∷ ids) (κ ∷ waived) (suc rows) h =
    ap (λ l. finding_of i κ ∷ l) (table_waivers offices ids waived rows (record { in_offices = omega (arith, h.in_offices); in_ids = omega (arith, h.in_ids); in_waived = omega (arith, h.in_waived) }))

-- a part of a slice
abbrev pub office_part : ℕ → ℕ → List ℕ → List ℕ
office_part offset count l = take count (drop offset l)

part_first : (l : List ℕ) (rows offset count : ℕ) → offset + count ≤ rows → rows ≤ length l → office_part offset count (take rows l) ≡ office_part offset count l
part_first l rows offset count low fits =
    ap (take count) (drop-take offset rows l) ∙ take-take count (rows - offset) (drop offset l) (omega arith)

module _ (offices ids waived : List ℕ) (rows : ℕ) (is : is_table offices ids waived rows ≡ true) where
  abbrev t : List Waiver
  t = table_of offices ids waived rows

  h : Holds offices ids waived rows
  h = table_holds offices ids waived rows is

  sound : Sound t
  sound = table_sound offices ids waived rows is

  apart : OfficesApart t
  apart = stand_apart t sound.ascend sound.known

  part_is : (offset count : ℕ) → offset + count ≤ rows → take count (drop offset (map waived_by t)) ≡ waivers_of (office_part offset count ids) (office_part offset count waived)
  part_is offset count low =
      ap (λ l. take count (drop offset l)) (table_waivers offices ids waived rows h)
      ∙ ap (take count) (waivers-drop offset (take rows ids) (take rows waived))
      ∙ waivers-take count (drop offset (take rows ids)) (drop offset (take rows waived))
      ∙ ap₂ waivers_of (part_first ids rows offset count low h.in_ids) (part_first waived rows offset count low h.in_waived)

  -- the shares together are all rows
  both : length (rows_of 0 t) + length (rows_of 1 t) ≡ rows
  both = known_all t sound.known ∙ table-length offices ids waived rows h

  zero_part : rows_of 0 t ≡ waivers_of (office_part 0 (length (rows_of 0 t)) ids) (office_part 0 (length (rows_of 0 t)) waived)
  zero_part =
      let all = both in
      apart.first ∙ map-take (length (rows_of 0 t)) t ∙ part_is 0 (length (rows_of 0 t)) (omega arith)

  one_part : rows_of 1 t ≡ waivers_of (office_part (length (rows_of 0 t)) (length (rows_of 1 t)) ids) (office_part (length (rows_of 0 t)) (length (rows_of 1 t)) waived)
  one_part =
      let all = both in
      let rest = apart.second ∙ map-drop (length (rows_of 0 t)) t in
      let size = ap length rest in
      rest
      ∙ sym (take_all (length (rows_of 1 t)) (drop (length (rows_of 0 t)) (map waived_by t)) (omega arith))
      ∙ part_is (length (rows_of 0 t)) (length (rows_of 1 t)) (omega arith)

  abbrev offset : ℕ → ℕ
  offset office = offset_of office offices ids waived rows

  offset_zero : offset 0 ≡ 0
  offset_zero = ap (λ b. cond b 0 (length (rows_of 0 t))) (eq-eqb 0 0 refl)

  offset_one : offset 1 ≡ length (rows_of 0 t)
  offset_one = ap (λ b. cond b 0 (length (rows_of 0 t))) (ne_eqb 1 0 (λ e. omega arith))

  by_office : (C : ℕ → Type 0) (office : ℕ) → office ≤ 1 → C 0 → C 1 → C office
  by_office C zero low a b = a
  by_office C (suc zero) low a b = b
  by_office C (suc (suc n)) low a b = absurd (omega arith)

  -- an office's rows are a part of the slices
  pub own_part : (office : ℕ) → office ≤ 1
      → waivers_of (office_part (offset office) (length (rows_of office t)) ids) (office_part (offset office) (length (rows_of office t)) waived) ≡ rows_of office t
  own_part office low =
      by_office (λ o. waivers_of (office_part (offset o) (length (rows_of o t)) ids) (office_part (offset o) (length (rows_of o t)) waived) ≡ rows_of o t) office low
      (sym (zero_part ∙ ap (λ k. waivers_of (office_part k (length (rows_of 0 t)) ids) (office_part k (length (rows_of 0 t)) waived)) (sym offset_zero)))
      (sym (one_part ∙ ap (λ k. waivers_of (office_part k (length (rows_of 1 t)) ids) (office_part k (length (rows_of 1 t)) waived)) (sym offset_one)))

  pub own_within : (office : ℕ) → office ≤ 1 → offset office + length (rows_of office t) ≤ rows
  own_within office low =
      by_office (λ o. offset o + length (rows_of o t) ≤ rows) office low
      (let a = offset_zero in let b = both in omega arith) (let a = offset_one in let b = both in omega arith)

  pub rows_hold : Holds offices ids waived rows
  rows_hold = h

  pub rows_sound : Sound t
  rows_sound = sound

-- ---- in order, with valid keys
own_after : (office : ℕ) (x : Waiver) (t : List Waiver) → x.office ≡ office → RowsAfter x t → findings_ascend (waived_by x ∷ rows_of office t) ≡ true
unfolding findings_ascend
own_after office x [] e no_row = ap (λ l. findings_ascend (waived_by x ∷ l)) (share_none office)
own_after office x (y ∷ t) e (next_row h r) =
    equal y.office office
    (λ f.
    ap (λ l. findings_ascend (waived_by x ∷ l)) (share_own office y t f)
    ∙ and_both (comes_before (waived_by x) (waived_by y)) (findings_ascend (waived_by y ∷ rows_of office t)) (earlier_test (waived_by x) (waived_by y) (h.own (e ∙ sym f))) (own_after office y t f r))
    (λ other. ap (λ l. findings_ascend (waived_by x ∷ l)) (share_other office y t other) ∙ own_after office x t e (after_on h r))

pub own_ascend : (office : ℕ) (t : List Waiver) → rows_ascend t ≡ true → findings_ascend (rows_of office t) ≡ true
unfolding findings_ascend
own_ascend office [] asc = ap findings_ascend (share_none office)
own_ascend office (x ∷ t) asc =
    equal x.office office
    (λ e. ap findings_ascend (share_own office x t e) ∙ own_after office x t e (ascend_after x t asc))
    (λ other. ap findings_ascend (share_other office x t other) ∙ own_ascend office t (ascend_rows x t asc))

-- ---- the test of the keys
keys_rows : (m : ℕ) (t : List Waiver) → keys_in m (map (λ w. w.key) t) ≡ row_keys_valid m t
unfolding keys_in row_keys_valid
keys_rows m [] = refl
keys_rows m (w ∷ t) = ap (λ b. valid_key m w.key && b) (keys_rows m t)

pub keys_table : (m : ℕ) (offices ids waived : List ℕ) (rows : ℕ) → Holds offices ids waived rows → keys_in m (take rows waived) ≡ row_keys_valid m (table_of offices ids waived rows)
keys_table m offices ids waived rows h =
    ap (keys_in m) (sym (table_keys offices ids waived rows h)) ∙ keys_rows m (table_of offices ids waived rows)

module _ (m : ℕ) (waived : List ℕ) where
  -- the keys from the place on decide
  abbrev pub Valid : ℕ → Type 0
  Valid i = keys_in m waived ≡ keys_in m (drop i waived)

  at_key : (i : ℕ) → i < length waived → keys_in m (drop i waived) ≡ valid_key m (get_or waived i 0) && keys_in m (drop (suc i) waived)
  unfolding keys_in
  at_key i more = ap (keys_in m) (drop-cons waived i 0 more)

  pub keys_fail : (i : ℕ) → i < length waived → Valid i → valid_key m (get_or waived i 0) ≡ false → false ≡ keys_in m waived
  keys_fail i more inv e = sym (inv ∙ at_key i more ∙ ap (λ b. b && keys_in m (drop (suc i) waived)) e)

  pub keys_go_on : (i : ℕ) → i < length waived → Valid i → valid_key m (get_or waived i 0) ≡ true → Valid (i + 1)
  keys_go_on i more inv e =
      inv ∙ at_key i more ∙ ap (λ b. b && keys_in m (drop (suc i) waived)) e ∙ ap (λ j. keys_in m (drop j waived)) (sym (add-one i))

  pub keys_end : (i : ℕ) → length waived ≤ i → Valid i → true ≡ keys_in m waived
  unfolding keys_in
  keys_end i over inv = sym (inv ∙ ap (keys_in m) (drop_of_length-le waived {i = i} over))

-- ---- what is found of the office's rows
module _ (m office : ℕ) (offices ids waived : List ℕ) (rows : ℕ) where
  abbrev found : Option OwnRows
  found = Some (office_rows_at office offices ids waived rows)

  pub own_no_table : is_table offices ids waived rows ≡ false → None ≡ own_of m office offices ids waived rows
  unfolding own_of
  own_no_table e = sym (ap (λ b. cond (b && row_keys_valid m (table_of offices ids waived rows)) found None) e)

  module _ (is : is_table offices ids waived rows ≡ true) where
    pub own_bad_key : row_keys_valid m (table_of offices ids waived rows) ≡ false → None ≡ own_of m office offices ids waived rows
    unfolding own_of
    own_bad_key e = sym (ap₂ (λ a b. cond (a && b) found None) is e)

    pub own_found : row_keys_valid m (table_of offices ids waived rows) ≡ true → found ≡ own_of m office offices ids waived rows
    unfolding own_of
    own_found e = sym (ap₂ (λ a b. cond (a && b) found None) is e)

    module _ (valid : row_keys_valid m (table_of offices ids waived rows) ≡ true) (count : ℕ) (size : count ≡ length (rows_of office (table_of offices ids waived rows))) where
      pub own_first : office ≡ 0 → Some (record { offset = 0; count = count }) ≡ own_of m office offices ids waived rows
      own_first e =
          (λ i. Some (record { offset = sym (ap (λ b. cond b 0 (length (rows_of 0 (table_of offices ids waived rows)))) (eq-eqb office 0 e)) i; count = size i }))
          ∙ own_found valid

      pub own_second : (first : ℕ) → first ≡ length (rows_of 0 (table_of offices ids waived rows)) → (office ≡ 0 → ⊥)
          → Some (record { offset = first; count = count }) ≡ own_of m office offices ids waived rows
      own_second first f other =
          (λ i. Some (record { offset = (f ∙ sym (ap (λ b. cond b 0 (length (rows_of 0 (table_of offices ids waived rows)))) (ne_eqb office 0 other))) i; count = size i }))
          ∙ own_found valid
