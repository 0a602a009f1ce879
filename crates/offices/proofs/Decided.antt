-- What adding and removing decide, test by test, and what an accepted call may build on. Rests on Checked and
-- Place, and on Needed of definitions.
use Prim.Native.Nat.{ℕ, ◌≤◌, ◌<◌}
use mathlib.Core.Path.{◌≡◌, refl, sym, ap, ◌∙◌}
use mathlib.Core.Bool.{true, false, not, cond}
use mathlib.Core.List.{List, ◌∷◌}
use native.Mathlib.Omega.{arith}
use lib.ListN.{length, drop}
use lib.Dec.{ltb, eqb}
use borrow.Author.Tests.{eq-eqb, ne_eqb, ltb-false, leb-false, le-leb, lt-leb, lt-ltb, le-ltb, not-false}
use Rattle.keys.specs.Key.{deepest_level, valid_key}
use Rattle.keys.proofs.Cases.{decide, split, equal}
use Rattle.definitions.specs.Refusal.{Row, ◌gives◌, first, bad_key}
use Rattle.definitions.specs.Offices.{Waiver, waiver_of, Holds, table_of, rows_of, is_row, is_table, bad_office, bad_table}
use Rattle.definitions.specs.Calls.AddWaiver.{add_refusal}
use Rattle.definitions.specs.Calls.RemoveWaiver.{remove_refusal}
use Rattle.laws.proofs.First.{first_this, first_later, first_end, first_none, first_holds, holds_first, holds_more, accepted_done, accepted_left}
use Rattle.laws.proofs.RowPlaces.{table-length}
use Rattle.laws.proofs.Shares.{Sound, room_left}
use Rattle.std.specs.Prelude.{Ok, Err}
use Rattle.definitions.specs.declared.refusal.Refusal.{Refusal}
use Rattle.definitions.specs.Refused.{refusal_number, places_needed}
use Rattle.definitions.proofs.Refused.{refusal_some}
use Rattle.offices.specs.Place.{row_place, leads, row_found}
use Rattle.definitions.proofs.Needed.{none_needed}
use Rattle.offices.specs.Refusal.{table_refusal, decided_on}
use Rattle.offices.proofs.Place.{place_within, row_there, leads_within}
use Rattle.offices.proofs.Checked.{TablePlaces, table_places, table_holds, table_sound}

-- a decision, field by field
pub decided_refused : (refusal place c : ℕ) → refusal ≡ c → (c ≡ 0 → ⊥) → (c ≡ 12 → ⊥) → record { refusal = c; count = 0 } ≡ decided_on refusal place
unfolding decided_on
decided_refused refusal place c e not-zero not_full =
    let other = cond (eqb refusal 12) 257 0 in
    let none : 0 ≡ other = sym (ap (λ b. cond b 257 0) (ne_eqb refusal 12 (λ z. not_full (sym e ∙ z)))) in
    λ i. record { refusal = sym e i; count = (none ∙ sym (accepted_left {refusal = refusal} place other (λ z. not-zero (sym e ∙ z)))) i }

pub decided_full : (refusal place : ℕ) → refusal ≡ 12 → record { refusal = 12; count = 257 } ≡ decided_on refusal place
unfolding decided_on
decided_full refusal place e =
    let some : refusal ≡ 0 → ⊥ = λ z. omega arith in
    let other = cond (eqb refusal 12) 257 0 in
    let full : 257 ≡ other = sym (ap (λ b. cond b 257 0) (eq-eqb refusal 12 e)) in
    λ i. record { refusal = sym e i; count = (full ∙ sym (accepted_left {refusal = refusal} place other some)) i }

pub decided_done : (refusal place : ℕ) → refusal ≡ 0 → record { refusal = 0; count = place } ≡ decided_on refusal place
unfolding decided_on
decided_done refusal place e = λ i. record { refusal = sym e i; count = sym (accepted_done {refusal = refusal} place (cond (eqb refusal 12) 257 0) e) i }

decided_number : (refusal place : ℕ) → (decided_on refusal place).refusal ≡ refusal
unfolding decided_on
decided_number refusal place = refl

decided_place : (refusal place : ℕ) → refusal ≡ 0 → (decided_on refusal place).count ≡ place
unfolding decided_on
decided_place refusal place e = accepted_done {refusal = refusal} place (cond (eqb refusal 12) 257 0) e

module _ (m office : ℕ) (offices ids waived : List ℕ) (rows id key : ℕ) where
  abbrev w : Waiver
  w = waiver_of office id key

  abbrev t : List Waiver
  t = table_of offices ids waived rows

  abbrev early : ℕ
  early = table_refusal m office offices ids waived rows key

  abbrev adding : ℕ
  adding = add_refusal m office offices ids waived rows id key

  abbrev removing : ℕ
  removing = remove_refusal m office offices ids waived rows id key

  -- ---- the first four, one by one
  pub gives_21 : 1 < office → 21 ≡ early
  unfolding table_refusal
  gives_21 h = sym (first_this _ _ (lt-ltb 1 office h))

  module _ (known : office ≤ 1) where
    pub gives_1 : 10 < m → 1 ≡ early
    unfolding table_refusal
    gives_1 h = sym (first_later _ _ (le-ltb 1 office known) ∙ first_this _ _ (lt-ltb 10 m h))

    module _ (level : m ≤ 10) where
      pub gives_14 : is_table offices ids waived rows ≡ false → 14 ≡ early
      unfolding table_refusal
      gives_14 e = sym (first_later _ _ (le-ltb 1 office known) ∙ first_later _ _ (le-ltb 10 m level) ∙ first_this _ _ (ap not e))

      module _ (table : is_table offices ids waived rows ≡ true) where
        pub gives_8 : valid_key m key ≡ false → 8 ≡ early
        unfolding table_refusal
        gives_8 e =
            sym (first_later _ _ (le-ltb 1 office known) ∙ first_later _ _ (le-ltb 10 m level) ∙ first_later _ _ (ap not table) ∙ first_this _ _ (ap not e))

        pub gives_0 : valid_key m key ≡ true → 0 ≡ early
        unfolding table_refusal
        gives_0 e =
            sym (first_later _ _ (le-ltb 1 office known) ∙ first_later _ _ (le-ltb 10 m level) ∙ first_later _ _ (ap not table) ∙ first_later _ _ (ap not e) ∙ first_end)

  pub early_not_full : early ≡ 12 → ⊥
  early_not_full e =
      split 1 office (λ h. let f = gives_21 h in omega arith)
      (λ known. split 10 m (λ h. let f = gives_1 known h in omega arith)
      (λ level. decide (is_table offices ids waived rows)
      (λ table. decide (valid_key m key) (λ valid. let f = gives_0 known level table valid in omega arith) (λ bad. let f = gives_8 known level table bad in omega arith))
      (λ wrong. let f = gives_14 known level wrong in omega arith)))

  -- ---- together
  pub early_add : (c : ℕ) → early ≡ c → (c ≡ 0 → ⊥) → adding ≡ c
  unfolding table_refusal add_refusal
  early_add c e not-zero = holds_first (holds_more _ (first_holds c _ not-zero e))

  pub early_remove : (c : ℕ) → early ≡ c → (c ≡ 0 → ⊥) → removing ≡ c
  unfolding table_refusal remove_refusal
  early_remove c e not-zero = holds_first (holds_more _ (first_holds c _ not-zero e))

  -- a refusal that both begin with is that of either
  pub early_adding : (refusal : Refusal) (place : ℕ) → refusal_number refusal ≡ early
      → record { refusal = refusal_number refusal; count = places_needed refusal } ≡ decided_on adding place
  early_adding refusal place e =
      let not_full : refusal_number refusal ≡ 12 → ⊥ = λ z. early_not_full (sym e ∙ z) in
      (λ i. record { refusal = refusal_number refusal; count = none_needed refusal not_full i })
      ∙ decided_refused adding place (refusal_number refusal) (early_add _ (sym e) (refusal_some refusal)) (refusal_some refusal) not_full

  pub early_removing : (refusal : Refusal) (place : ℕ) → refusal_number refusal ≡ early
      → record { refusal = refusal_number refusal; count = places_needed refusal } ≡ decided_on removing place
  early_removing refusal place e =
      let not_full : refusal_number refusal ≡ 12 → ⊥ = λ z. early_not_full (sym e ∙ z) in
      (λ i. record { refusal = refusal_number refusal; count = none_needed refusal not_full i })
      ∙ decided_refused removing place (refusal_number refusal) (early_remove _ (sym e) (refusal_some refusal)) (refusal_some refusal) not_full

  pub record Passed : Type 0 where
    pub known : bad_office office ≡ false
    pub level : ltb deepest_level m ≡ false
    pub table : bad_table offices ids waived rows ≡ false
    pub valid : bad_key m key ≡ false

  pub early_passed : early ≡ 0 → Passed
  unfolding table_refusal
  early_passed e = let none = first_none _ refl e in record { known = none.0; level = none.1.0; table = none.1.1.0; valid = none.1.1.1.0 }

  module _ (p : Passed) where
    pub is-table : is_table offices ids waived rows ≡ true
    is-table = not-false (is_table offices ids waived rows) p.table

    pub holds : Holds offices ids waived rows
    holds = table_holds offices ids waived rows is-table

    pub sound : Sound t
    sound = table_sound offices ids waived rows is-table

    pub places : TablePlaces offices ids waived rows
    places = table_places offices ids waived rows is-table

    pub one_of_two : office ≤ 1
    one_of_two = ltb-false 1 office p.known

    size : length t ≡ rows
    size = table-length offices ids waived rows holds

    pub place_low : row_place w t ≤ rows
    place_low = let low = place_within w t in let e = size in omega arith

    -- the row is in the table exactly where it stands at its place
    pub there : leads w (drop (row_place w t) t) ≡ is_row w t
    there = sym (row_there w t sound.ascend)

    -- so it is found there, or it has a place where it is not found
    pub found_there : (place : ℕ) → Ok place ≡ row_found w t → (is_row w t ≡ true) × (place ≡ row_place w t)
    found_there place e =
        decide (leads w (drop (row_place w t) t))
        (λ l. let f = e ∙ ap (λ b. cond b (Ok (row_place w t)) (Err (row_place w t))) l in (sym there ∙ l, cc))
        (λ l. let f = e ∙ ap (λ b. cond b (Ok (row_place w t)) (Err (row_place w t))) l in absurd (cc))

    pub found_absent : (place : ℕ) → Err place ≡ row_found w t → (is_row w t ≡ false) × (place ≡ row_place w t)
    found_absent place e =
        decide (leads w (drop (row_place w t) t))
        (λ l. let f = e ∙ ap (λ b. cond b (Ok (row_place w t)) (Err (row_place w t))) l in absurd (cc))
        (λ l. let f = e ∙ ap (λ b. cond b (Ok (row_place w t)) (Err (row_place w t))) l in (sym there ∙ l, cc))

    -- ---- the last two
    later_rows : List Row → Type 0
    later_rows rest = first (bad_office office gives 21 ∷ ltb deepest_level m gives 1 ∷ bad_table offices ids waived rows gives 14 ∷ bad_key m key gives 8 ∷ rest) ≡ first rest

    four_passed : (rest : List Row) → later_rows rest
    unfolding later_rows
    four_passed rest =
        first_later _ _ p.known ∙ first_later _ _ p.level ∙ first_later _ _ p.table ∙ first_later _ _ p.valid

    pub add_there : is_row w t ≡ true → adding ≡ 22
    unfolding add_refusal later_rows
    add_there e = four_passed _ ∙ first_this _ _ e

    pub add_full : is_row w t ≡ false → 256 ≤ length (rows_of office t) → adding ≡ 12
    unfolding add_refusal later_rows
    add_full e full = four_passed _ ∙ first_later _ _ e ∙ first_this _ _ (le-leb 256 (length (rows_of office t)) full)

    pub add_done : is_row w t ≡ false → length (rows_of office t) < 256 → adding ≡ 0
    unfolding add_refusal later_rows
    add_done e few = four_passed _ ∙ first_later _ _ e ∙ first_later _ _ (lt-leb 256 (length (rows_of office t)) few) ∙ first_end

    pub remove_absent : is_row w t ≡ false → removing ≡ 22
    unfolding remove_refusal later_rows
    remove_absent e = four_passed _ ∙ first_this _ _ (ap not e)

    pub remove_done : is_row w t ≡ true → removing ≡ 0
    unfolding remove_refusal later_rows
    remove_done e = four_passed _ ∙ first_later _ _ (ap not e) ∙ first_end

  -- ---- accepted calls
  pub add_passed : adding ≡ 0 → Passed
  unfolding add_refusal
  add_passed e = let none = first_none _ refl e in record { known = none.0; level = none.1.0; table = none.1.1.0; valid = none.1.1.1.0 }

  -- a place that is told is the row's
  pub adding_told : (place : ℕ) → record { refusal = 0; count = place } ≡ decided_on adding (row_place w t) → (adding ≡ 0) × (place ≡ row_place w t)
  adding_told place e =
      let done : adding ≡ 0 = sym (ap (λ d. d.refusal) e ∙ decided_number adding (row_place w t)) in
      (done, ap (λ d. d.count) e ∙ decided_place adding (row_place w t) done)

  pub removing_told : (place : ℕ) → record { refusal = 0; count = place } ≡ decided_on removing (row_place w t) → (removing ≡ 0) × (place ≡ row_place w t)
  removing_told place e =
      let done : removing ≡ 0 = sym (ap (λ d. d.refusal) e ∙ decided_number removing (row_place w t)) in
      (done, ap (λ d. d.count) e ∙ decided_place removing (row_place w t) done)

  -- there is a place for the row
  pub add_room : adding ≡ 0 → rows < 512
  unfolding add_refusal
  add_room e =
      let p = add_passed e in
      let none = first_none _ refl e in
      let few = leb-false 256 (length (rows_of office t)) none.1.1.1.1.1.0 in
      let low = room_left office (sound p) (one_of_two p) few in
      let size = table-length offices ids waived rows (holds p) in
      omega arith

  pub remove_passed : removing ≡ 0 → Passed
  unfolding remove_refusal
  remove_passed e = let none = first_none _ refl e in record { known = none.0; level = none.1.0; table = none.1.1.0; valid = none.1.1.1.0 }

  -- removing never gives 12
  pub never_full : removing ≡ 12 → ⊥
  never_full e =
      equal early 0
      (λ z.
      let p = early_passed z in
      decide (is_row w t)
      (λ there'. let f = remove_done p there' in omega arith)
      (λ absent. let f = remove_absent p absent in omega arith))
      (λ not-zero. early_not_full (sym (early_remove early refl not-zero) ∙ e))

  pub remove_there : removing ≡ 0 → is_row w t ≡ true
  unfolding remove_refusal
  remove_there e = let none = first_none _ refl e in not-false (is_row w t) none.1.1.1.1.0

  module _ (e : removing ≡ 0) where
    pub remove_same : leads w (drop (row_place w t) t) ≡ true
    remove_same = there (remove_passed e) ∙ remove_there e

    pub remove_place : row_place w t < rows
    remove_place =
        let low = leads_within w t remove_same in
        let size = table-length offices ids waived rows (holds (remove_passed e)) in
        omega arith
