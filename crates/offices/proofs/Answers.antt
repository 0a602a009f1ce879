-- What adding and removing answer and leave: the result, and each of the three slices, where the call is refused and where it is done. Rests on Decided and
-- Moved.
use Prim.Native.Nat.{ℕ, ◌+◌, ◌-◌}
use mathlib.Core.Path.{◌≡◌, sym, ap, ◌∙◌}
use mathlib.Core.Bool.{cond}
use mathlib.Core.List.{List, map}
use native.Mathlib.Omega.{arith}
use lib.ListN.{length}
use lib.Dec.{eqb}
use borrow.Author.Tests.{ne_eqb}
use Rattle.definitions.specs.Buffer.{over, replaced}
use Rattle.definitions.specs.Offices.{Waiver, waiver_of, Holds, table_of, added, removed}
use Rattle.definitions.specs.Calls.AddWaiver.{add_refusal, add_waiver, add_offices, add_ids, add_keys}
use Rattle.definitions.specs.Calls.RemoveWaiver.{remove_refusal, remove_waiver, remove_offices, remove_ids, remove_keys}
use Rattle.laws.proofs.First.{accepted_done, accepted_left}
use Rattle.laws.proofs.RowPlaces.{table-length, table_offices, table_ids, table_keys}
use Rattle.offices.specs.Place.{row_place, opened, gap_closed}
use Rattle.definitions.specs.declared.Counted.{Counted}
use Rattle.offices.specs.Refusal.{decided_on}
use Rattle.offices.proofs.Moved.{slice_added, slice_removed}
use Rattle.offices.proofs.Decided.{add_passed, add_room, remove_passed, never_full, remove_place, remove_same, holds, places}

module _ (m office : ℕ) (offices ids waived : List ℕ) (rows id key : ℕ) where
  abbrev w : Waiver
  w = waiver_of office id key

  abbrev t : List Waiver
  t = table_of offices ids waived rows

  abbrev adding : ℕ
  adding = add_refusal m office offices ids waived rows id key

  abbrev removing : ℕ
  removing = remove_refusal m office offices ids waived rows id key

  -- ---- refused
  pub add_refused : (d : Counted) (place : ℕ) → d ≡ decided_on adding place → (d.refusal ≡ 0 → ⊥)
      → (d ≡ add_waiver m office offices ids waived rows id key) × (offices ≡ add_offices m office offices ids waived rows id key)
      × (ids ≡ add_ids m office offices ids waived rows id key) × (waived ≡ add_keys m office offices ids waived rows id key)
  unfolding decided_on add_waiver add_offices add_ids add_keys
  add_refused d place e not-zero =
      let no : adding ≡ 0 → ⊥ = λ z. not-zero (ap (λ x. x.refusal) e ∙ z) in
      let full = cond (eqb adding 12) 257 0 in (
        e ∙ (λ i. record { refusal = adding; count = (accepted_left {refusal = adding} place full no ∙ sym (accepted_left {refusal = adding} (rows + 1) full no)) i }),
        sym (accepted_left (over (map (λ x. x.office) (added w t)) offices) offices no),
        sym (accepted_left (over (map (λ x. x.id) (added w t)) ids) ids no),
        sym (accepted_left (over (map (λ x. x.key) (added w t)) waived) waived no),
      )

  -- removing never gives 12
  pub remove_refused : (d : Counted) (place : ℕ) → d ≡ decided_on removing place → (d.refusal ≡ 0 → ⊥)
      → (d ≡ remove_waiver m office offices ids waived rows id key) × (offices ≡ remove_offices m office offices ids waived rows id key)
      × (ids ≡ remove_ids m office offices ids waived rows id key) × (waived ≡ remove_keys m office offices ids waived rows id key)
  unfolding decided_on remove_waiver remove_offices remove_ids remove_keys
  remove_refused d place e not-zero =
      let no : removing ≡ 0 → ⊥ = λ z. not-zero (ap (λ x. x.refusal) e ∙ z) in
      let full = cond (eqb removing 12) 257 0 in
      let none : full ≡ 0 = ap (λ b. cond b 257 0) (ne_eqb removing 12 (never_full m office offices ids waived rows id key)) in (
        e ∙ (λ i. record { refusal = removing; count = (accepted_left {refusal = removing} place full no ∙ none ∙ sym (accepted_left {refusal = removing} (rows - 1) 0 no)) i }),
        sym (accepted_left (replaced rows (map (λ x. x.office) (removed w t)) offices) offices no),
        sym (accepted_left (replaced rows (map (λ x. x.id) (removed w t)) ids) ids no),
        sym (accepted_left (replaced rows (map (λ x. x.key) (removed w t)) waived) waived no),
      )

  -- ---- done
  module _ (done : adding ≡ 0) where
    h : Holds offices ids waived rows
    h = holds m office offices ids waived rows id key (add_passed m office offices ids waived rows id key done)

    size : length t ≡ rows
    size = table-length offices ids waived rows h

    pub add-result : record { refusal = 0; count = rows + 1 } ≡ add_waiver m office offices ids waived rows id key
    unfolding add_waiver
    add-result = λ i. record { refusal = sym done i; count = sym (accepted_done {refusal = adding} (rows + 1) (cond (eqb adding 12) 257 0) done) i }

    pub add-offices : opened rows (row_place w t) office offices ≡ add_offices m office offices ids waived rows id key
    unfolding add_offices
    add-offices =
        let room = add_room m office offices ids waived rows id key done in
        let full = (places m office offices ids waived rows id key (add_passed m office offices ids waived rows id key done)).all_offices in
        slice_added (λ x. x.office) w t offices rows size (table_offices offices ids waived rows h) (omega arith) ∙ sym (accepted_done _ offices done)

    pub add-ids : opened rows (row_place w t) id ids ≡ add_ids m office offices ids waived rows id key
    unfolding add_ids
    add-ids =
        let room = add_room m office offices ids waived rows id key done in
        let full = (places m office offices ids waived rows id key (add_passed m office offices ids waived rows id key done)).all_ids in
        slice_added (λ x. x.id) w t ids rows size (table_ids offices ids waived rows h) (omega arith) ∙ sym (accepted_done _ ids done)

    pub add-keys : opened rows (row_place w t) key waived ≡ add_keys m office offices ids waived rows id key
    unfolding add_keys
    add-keys =
        let room = add_room m office offices ids waived rows id key done in
        let full = (places m office offices ids waived rows id key (add_passed m office offices ids waived rows id key done)).all_waived in
        slice_added (λ x. x.key) w t waived rows size (table_keys offices ids waived rows h) (omega arith) ∙ sym (accepted_done _ waived done)

  module _ (done : removing ≡ 0) where
    h' : Holds offices ids waived rows
    h' = holds m office offices ids waived rows id key (remove_passed m office offices ids waived rows id key done)

    size' : length t ≡ rows
    size' = table-length offices ids waived rows h'

    pub remove_result : record { refusal = 0; count = rows - 1 } ≡ remove_waiver m office offices ids waived rows id key
    unfolding remove_waiver
    remove_result = λ i. record { refusal = sym done i; count = sym (accepted_done {refusal = removing} (rows - 1) 0 done) i }

    pub remove-offices : gap_closed rows (row_place w t) offices ≡ remove_offices m office offices ids waived rows id key
    unfolding remove_offices
    remove-offices =
        slice_removed (λ x. x.office) w t offices rows size' (table_offices offices ids waived rows h') (remove_place m office offices ids waived rows id key done)
        (remove_same m office offices ids waived rows id key done) h'.in_offices
        ∙ sym (accepted_done _ offices done)

    pub remove-ids : gap_closed rows (row_place w t) ids ≡ remove_ids m office offices ids waived rows id key
    unfolding remove_ids
    remove-ids =
        slice_removed (λ x. x.id) w t ids rows size' (table_ids offices ids waived rows h') (remove_place m office offices ids waived rows id key done)
        (remove_same m office offices ids waived rows id key done) h'.in_ids
        ∙ sym (accepted_done _ ids done)

    pub remove-keys : gap_closed rows (row_place w t) waived ≡ remove_keys m office offices ids waived rows id key
    unfolding remove_keys
    remove-keys =
        slice_removed (λ x. x.key) w t waived rows size' (table_keys offices ids waived rows h') (remove_place m office offices ids waived rows id key done)
        (remove_same m office offices ids waived rows id key done) h'.in_waived
        ∙ sym (accepted_done _ waived done)
