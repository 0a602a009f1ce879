-- The answers of the check of a last entry, one for each way out of the code. Rests on Last and Places.
use Prim.Native.Nat.{ℕ, ◌+◌, ◌-◌, ◌≤◌, ◌<◌}
use mathlib.Core.Path.{◌≡◌, refl, sym, ap, ap₂, ◌∙◌}
use mathlib.Core.Bool.{Bool, true, false, ◌&&◌}
use mathlib.Core.List.{List}
use native.Mathlib.Omega.{arith}
use lib.ListN.{length, get_or}
use lib.Dec.{leb, ltb, eqb}
use borrow.Author.Tests.{le-leb, lt-leb, leb-true, eq-eqb, ne_eqb}
use Rattle.keys.specs.Key.{valid_key}
use Rattle.keys.proofs.Cases.{and_left}
use Rattle.definitions.specs.List.{Record}
use Rattle.definitions.specs.Read.{room, records_of}
use Rattle.definitions.specs.Log.{closing_places, count_record, last_key, last_count, last_content, closes, is_content, last_is_entry}
use Rattle.laws.proofs.Records.{records-length}
use Rattle.edit_log.specs.declared.entry.Entry.{Entry}
use Rattle.edit_log.specs.Entries.{closing_key, closing_feature, closing_count, is_closed, last_entry, Ended, content_part}
use Rattle.edit_log.proofs.Last.{log, count_record_at, last_key_at, last_feature_at, last_count_at}
use Rattle.edit_log.proofs.Places.{places_are, lent_length, lent_content}

module _ (s : ℕ) (keys values : List ℕ) (used : ℕ) (in_keys : used ≤ length keys) (in_values : used ≤ length values) where
  -- the records
  abbrev l : List Record
  l = records_of keys values used

  unclosed : used < last_count l + closing_places → false ≡ is_closed s l
  unfolding is_closed
  unclosed h =
      let size = records-length keys values used in_keys in_values in
      sym (ap (λ b. b && closes s l) (lt-leb (last_count l + closing_places) (length l) (omega arith)))

  -- there are fewer records than close an entry
  pub too_few : used < closing_places → false ≡ is_closed s l
  too_few h = unclosed (omega arith)

  -- more places are claimed than there are records
  pub too_long : closing_places ≤ used → used < closing_count values used + closing_places → false ≡ is_closed s l
  too_long some h = let count = last_count_at keys values used in_keys in_values some in unclosed (omega arith)

  module _ (some : closing_places ≤ used) (claimed : closing_count values used + closing_places ≤ used) where
    there : last_count l + closing_places ≤ used
    there = let count = last_count_at keys values used in_keys in_values some in omega arith

    -- the test of the closing records decides
    decided_by : (one below : Bool) → eqb (get_or keys (used - 2) 0) (closing_key keys used) ≡ one → ltb (closing_feature values used) s ≡ below → one && below ≡ is_closed s l
    unfolding is_closed closes
    decided_by one below e f =
        let size = records-length keys values used in_keys in_values in
        let first : (count_record l).key ≡ get_or keys (used - 2) 0 = ap (λ x. x.key) (count_record_at keys values used in_keys in_values (omega arith)) in
        let key = last_key_at keys values used in_keys in_values (omega arith) in
        let feature = last_feature_at keys values used in_keys in_values (omega arith) in
        sym (ap₂ (λ b c. b && c) (le-leb (last_count l + closing_places) (length l) (omega (arith, there)))
        (ap₂ (λ b c. b && c) (ap₂ eqb first key ∙ e) (ap (λ x. ltb x s) feature ∙ f)))

    -- they have two keys
    pub two_keys : (get_or keys (used - 2) 0 ≡ closing_key keys used → ⊥) → false ≡ is_closed s l
    two_keys other = decided_by false _ (ne_eqb _ _ other) refl

    -- the feature decides
    pub feature_decides : get_or keys (used - 2) 0 ≡ closing_key keys used → ltb (closing_feature values used) s ≡ is_closed s l
    feature_decides one = decided_by true _ (eq-eqb _ _ one) refl

  -- what is closed is all there
  pub closed_ended : is_closed s l ≡ true → Ended keys values used
  unfolding is_closed
  closed_ended e =
      let size = records-length keys values used in_keys in_values in
      record {
        in_keys = in_keys;
        in_values = in_values;
        all_there = omega (arith, leb-true (last_count l + closing_places) (length l) (and_left _ (closes s l) e));
      }

  -- and its places end where the used ones do
  pub closed_places : is_closed s l ≡ true → (last : Entry) → last ≡ last_entry l → last.start + (last.count + closing_places) ≡ used
  closed_places e = places_are (closed_ended e)

  -- what is not closed is no entry
  pub not_closed : (m : ℕ) → is_closed s l ≡ false → false ≡ last_is_entry m s l
  unfolding is_closed last_is_entry
  not_closed m e = sym (ap (λ b. b && valid_key m (last_key l) && is_content m s (last_key l) (last_content l)) e)

module _ {keys values : List ℕ} {used : ℕ} (e : Ended keys values used) (m s : ℕ) (shut : is_closed s (records_of keys values used) ≡ true) where
  tests : (valid : Bool) → valid_key m (last_key (log e)) ≡ valid → last_is_entry m s (log e) ≡ valid && is_content m s (last_key (log e)) (last_content (log e))
  unfolding is_closed last_is_entry
  tests valid is = ap₂ (λ b v. b && v && is_content m s (last_key (log e)) (last_content (log e))) shut is

  -- the last entry as it was found
  module _ (last : Entry) (found : last ≡ last_entry (log e)) where
    key-is : last.key ≡ last_key (log e)
    key-is = ap (λ x. x.key) found

    -- the key is not valid
    pub not_valid : valid_key m last.key ≡ false → false ≡ last_is_entry m s (log e)
    not_valid bad = sym (tests false (ap (valid_key m) (sym key-is) ∙ bad))

    -- the content decides
    pub content_decides : (r : Bool) → valid_key m last.key ≡ true
        → r ≡ leb last.count (room (content_part last keys) (content_part last values))
        && is_content m s last.key (records_of (content_part last keys) (content_part last values) last.count)
        → r ≡ last_is_entry m s (log e)
    content_decides r valid answer =
        let a = lent_length e last found keys e.in_keys in
        let b = lent_length e last found values e.in_values in
        answer
        ∙ ap₂ (λ b l. b && is_content m s last.key l)
        (le-leb last.count (room (content_part last keys) (content_part last values)) (omega arith)) (lent_content e last found)
        ∙ ap (λ κ. is_content m s κ (last_content (log e))) key-is
        ∙ sym (tests true (ap (valid_key m) (sym key-is) ∙ valid))
