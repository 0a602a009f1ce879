-- What is logged of a block by its standing: a run of the list's records where it is listed, one record where it lies inside a leaf. Rests on
-- Gained and ContentLength.
use Prim.Native.Nat.{ℕ, ◌+◌, ◌^◌, ◌≤◌, ◌<◌}
use mathlib.Core.Path.{◌≡◌, sym, ◌∙◌, ap, ap₂, subst}
use mathlib.Core.Bool.{Bool, true, false, cond}
use mathlib.Core.List.{List, [], ◌∷◌}
use native.Mathlib.Omega.{arith}
use lib.ListN.{length, get_or, take, drop}
use lib.Seq.{get_or-take}
use Rattle.keys.proofs.Cases.{decide}
use Rattle.keys.proofs.Powers.{five_le}
use Rattle.definitions.specs.List.{Record, record_of, Ascending, none, next}
use Rattle.definitions.specs.Read.{room, paired, records_of}
use Rattle.definitions.specs.Standing.{place_of, is_listed, standing_of, part_length}
use Rattle.definitions.specs.declared.Standing.{Standing}
use Rattle.definitions.specs.declared.Standing.TheVariants.{Listed, Inside}
use Rattle.definitions.specs.Log.{closed, closing_places}
use Rattle.definitions.specs.Calls.Paint.{gained}
use Rattle.laws.proofs.ListOf.{list_ascends, list_some}
use Rattle.laws.proofs.Records.{records_run}
use Rattle.keys.specs.Key.{valid_key}
use Rattle.list.specs.Own.{OwnList, shown_by}
use Rattle.list.specs.declared.accepted_list.Accepted.{Accepted}
use Rattle.list.specs.Taken.{Taken}
use Rattle.list.proofs.Taken.{taken_records}
use Rattle.list.proofs.Among.{values_of_records}
use Rattle.list.proofs.Own.{own-length}
use Rattle.list.proofs.Fuller.{listed_standing, inside_standing, listed_part, inside_part}
use Rattle.replace.specs.Family.{block_bits}
use Rattle.edit.specs.Content.{content_in, content_count, former_by, former_of}
use Rattle.edit_log.specs.declared.entry.Entry.{Entry}
use Rattle.edit_log.specs.Entries.{records_from_place, Loggable, Logged}
use Rattle.edit.specs.PaintCall.{Fresh}
use Rattle.replace.proofs.Places.{place_lt}
use Rattle.edit.proofs.Gained.{gained_in}
use Rattle.replace.proofs.PlanTop.{records-length}
use Rattle.edit.proofs.ContentLength.{part_there, gained_size}

-- ascending records are no more than their interval has keys
ascending-length : {lo hi : ℕ} {l : List Record} → Ascending lo hi l → lo + length l ≤ hi
ascending-length (none h) = omega arith
ascending-length (next h a) = let i = ascending-length a in omega arith

module _ {m n : ℕ} {keys bits : List ℕ} (own : OwnList m keys bits n) where
  -- so a list has less than 2 ^ 32
  pub own_small : m ≤ 10 → n < 2 ^ 32
  own_small deep =
      let a = ascending-length (list_ascends (shown_by m keys bits n) m 0 0 0) in
      let e = own-length own in
      let i = five_le {k = m} 10 deep in
      omega arith

  -- every key has a place in it
  pub own_place : (x : ℕ) → place_of x (records_of keys bits n) < n
  own_place x =
      let some = list_some (shown_by m keys bits n) m 0 0 0 in
      let e = own-length own in
      let f = records-length own in
      let h = place_lt x (records_of keys bits n) (omega arith) in
      omega arith

-- what a standing tells of the content: how many records it has, and where it is found
module _ (m κ : ℕ) (l : List Record) {standing : Standing} (is : standing ≡ standing_of m κ l) where
  pub standing_count : content_count standing ≡ part_length m κ l
  standing_count =
      ap content_count is
      ∙ decide (is_listed κ l)
      (λ t. ap content_count (sym (listed_standing m κ l t)) ∙ sym (listed_part m κ l t))
      (λ t. ap content_count (sym (inside_standing m κ l t)) ∙ sym (inside_part m κ l t))

  pub former_stands : former_by standing ≡ former_of m κ l
  former_stands =
      ap former_by is
      ∙ decide (is_listed κ l)
      (λ t. ap former_by (sym (listed_standing m κ l t)) ∙ (λ i. record { listed = sym t i; place = place_of κ l; count = sym (listed_part m κ l t) i }))
      (λ t. ap former_by (sym (inside_standing m κ l t)) ∙ (λ i. record { listed = sym t i; place = place_of κ l; count = sym (inside_part m κ l t) i }))

-- what a standing that is right of the content says: whether the block is listed, and where
module _ (m κ : ℕ) (l : List Record) {standing : Standing} (is : former_by standing ≡ former_of m κ l) where
  pub former_listed : {place records : ℕ} → standing ≡ Listed place records → (is_listed κ l ≡ true) × (place ≡ place_of κ l)
  former_listed e = let h = sym (ap former_by e) ∙ is in (sym (ap (λ x. x.listed) h), ap (λ x. x.place) h)

  pub former_inside : {place leaf level : ℕ} → standing ≡ Inside place leaf level → (is_listed κ l ≡ false) × (place ≡ place_of κ l)
  former_inside e = let h = sym (ap former_by e) ∙ is in (sym (ap (λ x. x.listed) h), ap (λ x. x.place) h)

-- the new entry of a list's block is one of an accepted list that was taken
pub fresh_taken : {m n : ℕ} {keys bits log_keys log_values : List ℕ} {new : Entry} {list : Accepted} → Taken m keys bits n list
    → Fresh m keys bits n new log_keys log_values
    → Fresh list.m list.keys.now list.bits.now (length list.keys.now) new log_keys log_values
fresh_taken {m} {n} {keys} {bits} {log_keys} {log_values} {new} {list} t a = record {
  deepest = list.deepest;
  own = list.own;
  valid = ap (λ k. valid_key k new.key) t.map ∙ a.valid;
  whole = a.whole ∙ sym (ap₂ (λ k l. part_length k new.key l) t.map (taken_records t));
  fits =
      subst (λ x. new.start + length x ≤ room log_keys log_values)
      (sym (ap₂ (λ k l. gained k l new.key new.feature) t.map (taken_records t)))
      a.fits;
}

-- a new entry
module _ {m n : ℕ} {keys bits log_keys log_values : List ℕ} {new : Entry} (a : Fresh m keys bits n new log_keys log_values) where
  -- the content by the test of the standing
  content_by : (t : Bool) → is_listed new.key (records_of keys bits n) ≡ t
      → gained m (records_of keys bits n) new.key new.feature
      ≡ closed new.key
      (cond t (take (part_length m new.key (records_of keys bits n)) (drop (place_of new.key (records_of keys bits n)) (records_of keys bits n)))
      (record_of new.key (block_bits new.key (records_of keys bits n)) ∷ []))
      new.feature
  unfolding content_in
  content_by t e =
      gained_in m new.key new.feature (records_of keys bits n) a.valid a.own.own
      ∙ ap
      (λ b.
      closed new.key
      (cond b (take (part_length m new.key (records_of keys bits n)) (drop (place_of new.key (records_of keys bits n)) (records_of keys bits n)))
      (record_of new.key (block_bits new.key (records_of keys bits n)) ∷ []))
      new.feature)
      e

  -- the log has room for it
  entry_fits : new.start + (new.count + closing_places) ≤ room log_keys log_values
  entry_fits = let e = gained_size a.own new.key a.valid new.feature in omega (arith, a.whole, a.fits)

  -- its block is listed at a place
  module _ (place : ℕ) (listed : is_listed new.key (records_of keys bits n) ≡ true) (place_is : place ≡ place_of new.key (records_of keys bits n)) where
    within : place + new.count ≤ n
    within = let h = part_there a.own new.key a.valid in omega (arith, a.whole)

    pub listed_loggable : Loggable new keys bits place log_keys log_values
    listed_loggable =
        let h = within in
        let small = own_small a.own a.deepest in
        record { content_there = omega (arith, a.own.fits); fits = entry_fits; small = omega arith }

    pub listed_entry : closed new.key (records_from_place keys bits place new.count) new.feature ≡ gained m (records_of keys bits n) new.key new.feature
    listed_entry =
        sym
        (content_by true listed
        ∙ ap₂ (λ c p. closed new.key (take c (drop p (records_of keys bits n))) new.feature) (sym a.whole) (sym place_is)
        ∙ ap (λ l. closed new.key l new.feature) (records_run keys bits n place new.count within))

  -- its block lies inside the leaf at a place
  module _ (leaf : ℕ) (inside : is_listed new.key (records_of keys bits n) ≡ false) (leaf_is : leaf ≡ place_of new.key (records_of keys bits n)) where
    pub leaf-there : leaf < n
    leaf-there = let h = own_place a.own new.key in omega arith

    one : new.count ≡ 1
    one = a.whole ∙ inside_part m new.key (records_of keys bits n) inside

    pub inside_loggable : Loggable new (new.key ∷ []) (get_or bits leaf 0 ∷ []) 0 log_keys log_values
    inside_loggable = let e = one in record { content_there = omega arith; fits = entry_fits; small = omega arith }

    pub inside_entry : closed new.key (records_from_place (new.key ∷ []) (get_or bits leaf 0 ∷ []) 0 new.count) new.feature ≡ gained m (records_of keys bits n) new.key new.feature
    unfolding block_bits paired
    inside_entry =
        let there = leaf-there in
        let bits_are : block_bits new.key (records_of keys bits n) ≡ get_or bits leaf 0 =
        ap₂ (λ l i. get_or l i 0) (values_of_records keys bits n a.own.fits) (sym leaf_is) ∙ get_or-take n bits leaf 0 there in
        ap (λ c. closed new.key (records_from_place (new.key ∷ []) (get_or bits leaf 0 ∷ []) 0 c) new.feature) one
        ∙ sym (content_by false inside ∙ ap (λ b. closed new.key (record_of new.key b ∷ []) new.feature) bits_are)

-- the same entry by another name
pub logged_same : {entry entry' : List Record} {start : ℕ} {keys values keys' values' : List ℕ} {next : ℕ} → entry ≡ entry'
    → Logged entry start keys values keys' values' next
    → Logged entry' start keys values keys' values' next
logged_same {start = start} {keys} {values} {keys'} {values'} {next} e w = subst (λ x. Logged x start keys values keys' values' next) e w
