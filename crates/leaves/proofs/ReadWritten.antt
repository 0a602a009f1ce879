-- Reading after writing, as the two calls' promises state them: what an accepted writing of leaves leaves in its slices is read as the list that it was given,
-- in any slices with room (specification S17.8). Rests on RoundTrip and the answers of both calls.
use Prim.Native.Nat.{ℕ, ◌≤◌}
use mathlib.Core.Path.{◌≡◌, refl, sym, ◌∙◌, ap}
use mathlib.Core.Bool.{true, false, cond}
use mathlib.Core.List.{List}
use native.Mathlib.Omega.{arith}
use lib.ListN.{length, length-map, drop}
use lib.Dec.{eqb}
use borrow.Author.Tests.{ltb-false, not-false}
use Rattle.definitions.specs.List.{Record, keys_of, values_of}
use Rattle.definitions.specs.Read.{room, records_of, is_list}
use Rattle.definitions.specs.Buffer.{over}
use Rattle.definitions.specs.Refusal.{bad_settings}
use Rattle.definitions.specs.Calls.ReadLeaves.{list_delivered, read_leaves_refusal, read_leaves, read_leaves_keys, read_leaves_bits}
use Rattle.definitions.specs.Calls.WriteLeaves.{leaves_in, write_leaves_refusal, write_leaves, written_leaf_keys, written_leaf_features}
use Rattle.laws.proofs.First.{first_none, accepted_done}
use Rattle.laws.proofs.Buffer.{past_over}
use Rattle.laws.proofs.Records.{records_over}
use Rattle.list.proofs.Own.{own_list, own-length}
use Rattle.leaves.proofs.ReadAnswer.{read_none, read_done}
use Rattle.leaves.proofs.RoundTrip.{trip_delivery, trip_list}

-- reading these leaves gives n and leaves the records l as the first n; the places past them stay
pub record ReadsList (m s : ℕ) (leafKeys leafFeatures : List ℕ) (leaves : ℕ) (keys bits : List ℕ) (n : ℕ) (l : List Record) : Type 0 where
  pub result : read_leaves m s leafKeys leafFeatures leaves keys bits ≡ record { refusal = 0; count = n }
  pub records : records_of (read_leaves_keys m s leafKeys leafFeatures leaves keys bits) (read_leaves_bits m s leafKeys leafFeatures leaves keys bits) n ≡ l
  pub keys_past : drop n (read_leaves_keys m s leafKeys leafFeatures leaves keys bits) ≡ drop n keys
  pub bits_past : drop n (read_leaves_bits m s leafKeys leafFeatures leaves keys bits) ≡ drop n bits

-- a delivery that describes the records l is read as them wherever there is room
delivered_reads : (m s : ℕ) (leafKeys leafFeatures : List ℕ) (leaves : ℕ) (keys bits : List ℕ) (n : ℕ) (l : List Record)
    → 0 ≡ read_leaves_refusal m s leafKeys leafFeatures leaves keys bits → list_delivered m leafKeys leafFeatures leaves ≡ l → length l ≡ n
    → ReadsList m s leafKeys leafFeatures leaves keys bits n l
delivered_reads m s leafKeys leafFeatures leaves keys bits n l accepted is many =
    let d = list_delivered m leafKeys leafFeatures leaves in
    let long : length d ≡ n = ap length is ∙ many in
    let done = read_done m s leafKeys leafFeatures leaves keys bits n _ _ accepted (sym long) refl refl in
    record {
      result = sym done.0;
      records = sym (λ i. records_of (done.1.0 i) (done.1.1 i) n) ∙ records_over d n keys bits long ∙ is;
      keys_past = ap (drop n) (sym done.1.0) ∙ past_over (keys_of d) keys n (length-map d (λ x. x.key) ∙ long);
      bits_past = ap (drop n) (sym done.1.1) ∙ past_over (values_of d) bits n (length-map d (λ x. x.value) ∙ long);
    }

module _ (m s : ℕ) (keys bits : List ℕ) (n : ℕ) (leafKeys leafFeatures : List ℕ) (e : write_leaves_refusal m s keys bits n leafKeys leafFeatures ≡ 0) where
  -- what an accepted writing has passed
  passed : (bad_settings m s ≡ false) × (is_list m s keys bits n ≡ true) × (length (leaves_in keys bits n) ≤ room leafKeys leafFeatures)
  unfolding write_leaves_refusal
  passed = let none = first_none _ refl e in (none.0, not-false _ none.1.0, ltb-false _ _ none.1.1.0)

  -- it gives the number of leaves
  written_count : (write_leaves m s keys bits n leafKeys leafFeatures).count ≡ length (leaves_in keys bits n)
  unfolding write_leaves
  written_count = accepted_done (length (leaves_in keys bits n)) (cond (eqb (write_leaves_refusal m s keys bits n leafKeys leafFeatures) 12) (length (leaves_in keys bits n)) 0) e

  -- and leaves them over what was lent
  written_over : (written_leaf_keys m s keys bits n leafKeys leafFeatures ≡ over (keys_of (leaves_in keys bits n)) leafKeys)
      × (written_leaf_features m s keys bits n leafKeys leafFeatures ≡ over (values_of (leaves_in keys bits n)) leafFeatures)
  unfolding written_leaf_keys written_leaf_features
  written_over = (accepted_done _ leafKeys e, accepted_done _ leafFeatures e)

  -- reading what was written gives the list back, in any slices with room
  pub read_after_write : (keys' bits' : List ℕ) → n ≤ room keys' bits'
      → ReadsList m s (written_leaf_keys m s keys bits n leafKeys leafFeatures) (written_leaf_features m s keys bits n leafKeys leafFeatures)
      (write_leaves m s keys bits n leafKeys leafFeatures).count keys' bits' n (records_of keys bits n)
  read_after_write keys' bits' roomy =
      let is = passed.1 in
      let fits = passed.2 in
      let back = trip_list m s keys bits n is leafKeys leafFeatures fits in
      let own = own_list m s keys bits n is in
      let many : length (records_of keys bits n) ≡ n = ap length own.own ∙ own-length own in
      let long = ap length back ∙ many in
      rw (written_count, written_over.0, written_over.1)
      (delivered_reads m s _ _ _ keys' bits' n (records_of keys bits n)
      (read_none m s _ _ _ keys' bits' passed.0 (trip_delivery m s keys bits n is leafKeys leafFeatures fits) (omega arith))
      back many)
