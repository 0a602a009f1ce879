-- The two offices' shares of a table: every row with a known office is in one of them, so together they are as many as the rows. Rests on keys' Cases.
use Prim.Native.Nat.{ℕ, suc, ◌+◌, ◌≤◌, ◌<◌}
use mathlib.Core.Path.{◌≡◌, refl, ap}
use mathlib.Core.Bool.{true, not, ◌&&◌}
use mathlib.Core.List.{List, [], ◌∷◌}
use native.Mathlib.Omega.{arith}
use lib.ListN.{length}
use lib.Dec.{leb, eqb}
use borrow.Author.Tests.{ltb-false, leb-true, eqb-true, le-ltb, eq-eqb, ne_eqb, not-true}
use Rattle.keys.proofs.Cases.{equal, and_left, and_right, same_test}
use Rattle.definitions.specs.Offices.{Waiver, waived_by, bad_office, office_limit, rows_of, rows_ascend, offices_known, is_sound_table}

-- a row of the office, and one of another
pub share_own : (office : ℕ) (w : Waiver) (t : List Waiver) → w.office ≡ office → rows_of office (w ∷ t) ≡ waived_by w ∷ rows_of office t
unfolding rows_of
share_own office w t e = rw (eq-eqb w.office office e)

pub share_other : (office : ℕ) (w : Waiver) (t : List Waiver) → (w.office ≡ office → ⊥) → rows_of office (w ∷ t) ≡ rows_of office t
unfolding rows_of
share_other office w t h = rw (ne_eqb w.office office h)

pub share_none : (office : ℕ) → rows_of office [] ≡ []
unfolding rows_of
share_none office = refl

abbrev together : List Waiver → ℕ
together t = length (rows_of 0 t) + length (rows_of 1 t)

-- one row more
more_zero : (w : Waiver) (t : List Waiver) → w.office ≡ 0 → together (w ∷ t) ≡ suc (together t)
more_zero w t e = let a = ap length (share_own 0 w t e) in let b = ap length (share_other 1 w t (λ f. omega arith)) in omega arith

more_one : (w : Waiver) (t : List Waiver) → w.office ≡ 1 → together (w ∷ t) ≡ suc (together t)
more_one w t e = let a = ap length (share_own 1 w t e) in let b = ap length (share_other 0 w t (λ f. omega arith)) in omega arith

more_none : (w : Waiver) (t : List Waiver) → 1 < w.office → together (w ∷ t) ≡ together t
more_none w t h = let a = ap length (share_other 0 w t (λ f. omega arith)) in let b = ap length (share_other 1 w t (λ f. omega arith)) in omega arith

-- whichever office the row has
by_office : {C : Type 0} (o : ℕ) → (o ≡ 0 → C) → (o ≡ 1 → C) → (1 < o → C) → C
by_office o zero one other = equal o 0 zero (λ not-zero. equal o 1 one (λ not-one. other (omega arith)))

none_yet : together [] ≡ 0
none_yet = let a = ap length (share_none 0) in let b = ap length (share_none 1) in omega arith

pub shares_few : (t : List Waiver) → length (rows_of 0 t) + length (rows_of 1 t) ≤ length t
shares_few [] = let z = none_yet in omega arith
shares_few (w ∷ t) =
    let ih = shares_few t in
    by_office w.office (λ e. let z = more_zero w t e in omega arith) (λ e. let z = more_one w t e in omega arith) (λ h. let z = more_none w t h in omega arith)

-- the first row's office, and the others
pub known_first : (w : Waiver) (t : List Waiver) → offices_known (w ∷ t) ≡ true → w.office ≤ 1
unfolding offices_known
known_first w t e = ltb-false 1 w.office (not-true (bad_office w.office) (and_left (not (bad_office w.office)) (offices_known t) e))

pub known_rest : (w : Waiver) (t : List Waiver) → offices_known (w ∷ t) ≡ true → offices_known t ≡ true
unfolding offices_known
known_rest w t e = and_right (not (bad_office w.office)) (offices_known t) e

-- the offices are known exactly where the shares together are all rows
pub known_all : (t : List Waiver) → offices_known t ≡ true → length (rows_of 0 t) + length (rows_of 1 t) ≡ length t
known_all [] e = none_yet
known_all (w ∷ t) e =
    let ih = known_all t (known_rest w t e) in
    let low = known_first w t e in
    by_office w.office (λ f. let z = more_zero w t f in omega arith) (λ f. let z = more_one w t f in omega arith) (λ h. absurd (omega arith))

all_known : (t : List Waiver) → length (rows_of 0 t) + length (rows_of 1 t) ≡ length t → offices_known t ≡ true
unfolding offices_known
all_known [] e = refl
all_known (w ∷ t) e =
    let few = shares_few t in
    by_office w.office
    (λ f. let z = more_zero w t f in rw (le-ltb 1 w.office (omega arith)) (all_known t (omega arith)))
    (λ f. let z = more_one w t f in rw (le-ltb 1 w.office (omega arith)) (all_known t (omega arith)))
    (λ h. let z = more_none w t h in absurd (omega arith))

pub known_exactly : (t : List Waiver) → offices_known t ≡ eqb (length (rows_of 0 t) + length (rows_of 1 t)) (length t)
known_exactly t =
    same_test (offices_known t) (eqb (length (rows_of 0 t) + length (rows_of 1 t)) (length t))
    (λ e. eq-eqb _ _ (known_all t e))
    (λ e. all_known t (eqb-true _ _ e))

-- ---- a sound table
pub record Sound (t : List Waiver) : Type 0 where
  pub ascend : rows_ascend t ≡ true
  pub known : offices_known t ≡ true
  pub zero : length (rows_of 0 t) ≤ 256
  pub one : length (rows_of 1 t) ≤ 256

pub sound_by_test : (t : List Waiver) → is_sound_table t ≡ true → Sound t
unfolding is_sound_table
sound_by_test t e =
    let few0 = leb (length (rows_of 0 t)) office_limit in
    let few1 = leb (length (rows_of 1 t)) office_limit in
    let rest = and_right (rows_ascend t) (offices_known t && (few0 && few1)) e in
    let few = and_right (offices_known t) (few0 && few1) rest in
    record {
      ascend = and_left (rows_ascend t) (offices_known t && (few0 && few1)) e;
      known = and_left (offices_known t) (few0 && few1) rest;
      zero = leb-true _ _ (and_left few0 few1 few);
      one = leb-true _ _ (and_right few0 few1 few);
    }

-- an office with room leaves room in the table
pub room_left : {t : List Waiver} (office : ℕ) → Sound t → office ≤ 1 → length (rows_of office t) < 256 → length t < 512
room_left {t} office s low h =
    let all = known_all t s.known in
    let a = s.zero in
    let b = s.one in
    by_office office
    (λ e. let f = ap (λ o. length (rows_of o t)) e in omega arith)
    (λ e. let f = ap (λ o. length (rows_of o t)) e in omega arith)
    (λ past. absurd (omega arith))
