-- How many rows an office has, counted in the slice of offices, place by place; and that each row comes before the next, place by place. Rests on Narrow,
-- and on laws' RowPlaces and Shares.
use Prim.Native.Nat.{ℕ, suc, ◌+◌, ◌-◌, ◌≤◌, ◌<◌}
use mathlib.Core.Path.{◌≡◌, refl, sym, ap, ◌∙◌}
use mathlib.Core.Bool.{true, false, ◌&&◌}
use mathlib.Core.List.{List, [], ◌∷◌, map}
use native.Mathlib.Numerals.{add-one}
use native.Mathlib.Omega.{arith}
use lib.ListN.{length, get_or, take, drop, drop_of_length-le}
use lib.Seq.{drop-cons}
use borrow.Author.Tests.{eq-eqb, ne_eqb}
use Rattle.keys.proofs.Cases.{equal}
use Rattle.definitions.specs.Offices.{Waiver, row_at, Holds, rows_in, table_of, rows_of, row_before, rows_ascend}
use Rattle.laws.proofs.RowPlaces.{table_offices}
use Rattle.laws.proofs.Shares.{share_own, share_other, share_none}
use Rattle.offices.specs.Place.{office_times}
use Rattle.offices.proofs.Narrow.{OneLength, rows-length, rows-drop}

-- ---- the count
times_none : (office : ℕ) → office_times office [] ≡ 0
unfolding office_times
times_none office = refl

times_own : (office x : ℕ) (l : List ℕ) → x ≡ office → office_times office (x ∷ l) ≡ suc (office_times office l)
unfolding office_times
times_own office x l e = rw (eq-eqb x office e)

times_other : (office x : ℕ) (l : List ℕ) → (x ≡ office → ⊥) → office_times office (x ∷ l) ≡ office_times office l
unfolding office_times
times_other office x l h = rw (ne_eqb x office h)

-- an office has as many rows as its number is among the offices
times_rows : (office : ℕ) (t : List Waiver) → office_times office (map (λ w. w.office) t) ≡ length (rows_of office t)
times_rows office [] = times_none office ∙ sym (ap length (share_none office))
times_rows office (w ∷ t) =
    equal w.office office
    (λ e. times_own office w.office _ e ∙ ap suc (times_rows office t) ∙ sym (ap length (share_own office w t e)))
    (λ h. times_other office w.office _ h ∙ times_rows office t ∙ sym (ap length (share_other office w t h)))

pub times_share : (office : ℕ) (offices ids waived : List ℕ) (rows : ℕ) → Holds offices ids waived rows
    → office_times office (take rows offices) ≡ length (rows_of office (table_of offices ids waived rows))
times_share office offices ids waived rows h =
    ap (office_times office) (sym (table_offices offices ids waived rows h)) ∙ times_rows office (table_of offices ids waived rows)

module _ (office : ℕ) (offices : List ℕ) where
  -- so many were found in the places passed
  pub record OfficeCounting (i count : ℕ) : Type 0 where
    pub few : count ≤ i
    pub all : office_times office offices ≡ count + office_times office (drop i offices)

  pub count_found : (i count : ℕ) → i < length offices → get_or offices i 0 ≡ office → OfficeCounting i count → OfficeCounting (i + 1) (count + 1)
  count_found i count more e c =
      let here = ap (office_times office) (drop-cons offices i 0 more) ∙ times_own office _ _ e in
      let next = ap (λ j. office_times office (drop j offices)) (add-one i) in
      record { few = omega (arith, c.few); all = omega (arith, c.all) }

  pub count_passed : (i count : ℕ) → i < length offices → (get_or offices i 0 ≡ office → ⊥) → OfficeCounting i count → OfficeCounting (i + 1) count
  count_passed i count more h c =
      let here = ap (office_times office) (drop-cons offices i 0 more) ∙ times_other office _ _ h in
      let next = ap (λ j. office_times office (drop j offices)) (add-one i) in
      record { few = omega (arith, c.few); all = omega (arith, c.all) }

  pub count_ends : (i count : ℕ) → length offices ≤ i → OfficeCounting i count → count ≡ office_times office offices
  count_ends i count over c =
      let none = ap (office_times office) (drop_of_length-le offices {i = i} over) ∙ times_none office in
      omega (arith, c.all)

-- ---- the order
ascend_none : rows_ascend [] ≡ true
unfolding rows_ascend
ascend_none = refl

ascend_one : (w : Waiver) → rows_ascend (w ∷ []) ≡ true
unfolding rows_ascend
ascend_one w = refl

ascend_two : (a b : Waiver) (t : List Waiver) → rows_ascend (a ∷ (b ∷ t)) ≡ row_before a b && rows_ascend (b ∷ t)
unfolding rows_ascend
ascend_two a b t = refl

module _ (offices ids waived : List ℕ) where
  abbrev table : List Waiver
  table = rows_in offices ids waived

  -- the rows from place i on decide, of which the one before it is known
  pub record RowsDecide (next : ℕ) : Type 0 where
    pub begun : 1 ≤ next
    pub rest : rows_ascend table ≡ rows_ascend (drop (next - 1) table)

  module _ (h : OneLength offices ids waived) where
    two_rows : (next : ℕ) → 1 ≤ next → next < length offices → drop (next - 1) table ≡ row_at offices ids waived (next - 1) ∷ (row_at offices ids waived next ∷ drop (suc next) table)
    two_rows next low more =
        let e : suc (next - 1) ≡ next = omega arith in
        rows-drop offices ids waived h (next - 1) (omega arith)
        ∙ ap (λ l. row_at offices ids waived (next - 1) ∷ l) (ap (λ i. drop i table) e ∙ rows-drop offices ids waived h next more)

    asked : (next : ℕ) → next < length offices → (a : RowsDecide next)
        → rows_ascend table ≡ row_before (row_at offices ids waived (next - 1)) (row_at offices ids waived next) && rows_ascend (drop next table)
    asked next more a =
        a.rest
        ∙ ap rows_ascend (two_rows next a.begun more)
        ∙ ascend_two _ _ _
        ∙ ap (λ l. row_before (row_at offices ids waived (next - 1)) (row_at offices ids waived next) && rows_ascend l) (sym (rows-drop offices ids waived h next more))

    pub order_fails : (next : ℕ) → next < length offices → RowsDecide next → row_before (row_at offices ids waived (next - 1)) (row_at offices ids waived next) ≡ false → false ≡ rows_ascend table
    order_fails next more a e = sym (asked next more a ∙ ap (λ b. b && rows_ascend (drop next table)) e)

    pub order_goes_on : (next : ℕ) → next < length offices → RowsDecide next → row_before (row_at offices ids waived (next - 1)) (row_at offices ids waived next) ≡ true → RowsDecide (next + 1)
    order_goes_on next more a e =
        let back : next ≡ next + 1 - 1 = omega arith in
        record {
          begun = omega arith;
          rest = asked next more a ∙ ap (λ b. b && rows_ascend (drop next table)) e ∙ ap (λ i. rows_ascend (drop i table)) back;
        }

    few_ascend : (t : List Waiver) → length t ≤ 1 → rows_ascend t ≡ true
    few_ascend [] few = ascend_none
    few_ascend (w ∷ []) few = ascend_one w
    few_ascend (w ∷ (x ∷ t)) few = absurd (omega arith)

    pub order_ends : (next : ℕ) → length offices ≤ next → RowsDecide next → true ≡ rows_ascend table
    order_ends next over a =
        let size = rows-length offices ids waived h in
        let left = lib.ListN.length-drop (next - 1) table in
        sym (a.rest ∙ few_ascend (drop (next - 1) table) (omega (arith, a.begun)))
