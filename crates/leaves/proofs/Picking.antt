-- Picking the leaves of the first records one after the other: what one record adds, and what the slices hold after so many. Rests on LeavesOf.
use Prim.Native.Nat.{ℕ, zero, suc, ◌+◌, ◌≤◌, ◌<◌}
use mathlib.Core.Path.{◌≡◌, refl, sym, ◌∙◌, ap}
use mathlib.Core.Bool.{true, false}
use mathlib.Core.List.{List, [], ◌∷◌, ◌++◌, map, map-append}
use native.Mathlib.Nat.{le_of_suc-le-suc}
use native.Mathlib.Omega.{arith}
use native.Mathlib.Numerals.{add-one}
use lib.ListN.{length, get_or, set, take, drop, length-append, length-map, take-append-drop}
use lib.Seq.{sets, length-sets}
use Rattle.definitions.specs.Bits.{feature_of}
use Rattle.definitions.specs.List.{Record, record_of, keys_of, values_of}
use Rattle.definitions.specs.Read.{room, paired, records_of}
use Rattle.definitions.specs.Leaves.{leaves_of}
use Rattle.definitions.specs.Buffer.{over}
use Rattle.laws.proofs.Records.{records_first}
use Rattle.laws.proofs.Buffer.{sets_over}
use Rattle.list.specs.Check.{one_slot}
use Rattle.build.proofs.WriteBlock.{sets-append}
use Rattle.leaves.proofs.LeavesOf.{leaves_cons, leaves_skip, leaves_nil, leaves-append}

-- what one record gives
abbrev pub picked : (key bits : ℕ) → List Record
picked key bits = leaves_of (record_of key bits ∷ [])

picked_none : (key bits : ℕ) → one_slot bits ≡ false → picked key bits ≡ []
picked_none key bits e = leaves_skip key bits [] e ∙ leaves_nil

picked_one : (key bits : ℕ) → one_slot bits ≡ true → picked key bits ≡ record_of key (feature_of bits) ∷ []
picked_one key bits e = leaves_cons key bits [] e ∙ ap (λ l. record_of key (feature_of bits) ∷ l) leaves_nil

pub picked_places : (key bits : ℕ) → one_slot bits ≡ true → length (picked key bits) ≡ 1
picked_places key bits e = ap length (picked_one key bits e)

-- a record is passed, or written at the next place
abbrev pub Added : (key bits at : ℕ) (keys features keys' features' : List ℕ) (next : ℕ) → Type 0
Added key bits at keys features keys' features' next =
    (next ≡ at + length (picked key bits)) × (keys' ≡ sets keys at (keys_of (picked key bits))) × (features' ≡ sets features at (values_of (picked key bits)))

pub added_none : (key bits at : ℕ) (keys features : List ℕ) → one_slot bits ≡ false → Added key bits at keys features keys features at
added_none key bits at keys features e = rw (picked_none key bits e) (omega arith, refl, refl)

pub added_one : (key bits at f : ℕ) (keys features : List ℕ) → one_slot bits ≡ true → f ≡ feature_of bits
    → Added key bits at keys features (set keys at key) (set features at f) (at + 1)
added_one key bits at f keys features e g = rw (picked_one key bits e, g) (omega arith, refl, refl)

-- one record more
records_more : (keys bits : List ℕ) (i : ℕ) → i < length keys → i < length bits
    → records_of keys bits (suc i) ≡ records_of keys bits i ++ (record_of (get_or keys i 0) (get_or bits i 0) ∷ [])
unfolding paired
records_more [] bits i h j = absurd (omega arith)
records_more (κ ∷ keys) [] i h j = absurd (omega arith)
records_more (κ ∷ keys) (b ∷ bits) zero h j = refl
records_more (κ ∷ keys) (b ∷ bits) (suc i) h j =
    ap (λ l. record_of κ b ∷ l) (records_more keys bits i (le_of_suc-le-suc h) (le_of_suc-le-suc j))

leaves_more : (keys bits : List ℕ) (i : ℕ) → i < room keys bits
    → leaves_of (records_of keys bits (i + 1)) ≡ leaves_of (records_of keys bits i) ++ picked (get_or keys i 0) (get_or bits i 0)
leaves_more keys bits i h =
    ap (λ n. leaves_of (records_of keys bits n)) (add-one i)
    ∙ ap leaves_of (records_more keys bits i (omega arith) (omega arith))
    ∙ leaves-append (records_of keys bits i) (record_of (get_or keys i 0) (get_or bits i 0) ∷ [])

-- the first records have no more leaves than all
leaves_first : (keys bits : List ℕ) (i n : ℕ) → i ≤ n → length (leaves_of (records_of keys bits i)) ≤ length (leaves_of (records_of keys bits n))
leaves_first keys bits i n h =
    let l = records_of keys bits n in
    let e = ap (λ k. length (leaves_of k)) (records_first keys bits n i h) in
    let f = ap (λ k. length (leaves_of k)) (take-append-drop i l) in
    let g = ap length (leaves-append (take i l) (drop i l)) ∙ length-append (leaves_of (take i l)) (leaves_of (drop i l)) in
    omega arith

-- the leaves of the first i records are picked
pub record PickedLeaves (keys bits : List ℕ) (n : ℕ) (leaf_keys₀ leaf_features₀ leafKeys leafFeatures : List ℕ) (at i : ℕ) : Type 0 where
  pub within : i ≤ n
  pub at_is : at ≡ length (leaves_of (records_of keys bits i))
  pub keys_are : leafKeys ≡ sets leaf_keys₀ 0 (keys_of (leaves_of (records_of keys bits i)))
  pub features_are : leafFeatures ≡ sets leaf_features₀ 0 (values_of (leaves_of (records_of keys bits i)))

pub picks_begin : (keys bits : List ℕ) (n : ℕ) (leafKeys leafFeatures : List ℕ) → PickedLeaves keys bits n leafKeys leafFeatures leafKeys leafFeatures 0 0
unfolding paired leaves_of
picks_begin keys bits n leafKeys leafFeatures = record { within = omega arith; at_is = refl; keys_are = refl; features_are = refl }

-- a run of one of the two numbers
more_run : (f : Record → ℕ) (a b : List Record) (l₀ l l' : List ℕ) (at : ℕ) → at ≡ length a → l ≡ sets l₀ 0 (map f a) → l' ≡ sets l at (map f b)
    → l' ≡ sets l₀ 0 (map f (a ++ b))
more_run f a b l₀ l l' at e g h =
    h
    ∙ ap (λ k. sets k at (map f b)) g
    ∙ sets-append (map f a) (map f b) l₀ 0 at (let n = length-map a f in omega arith)
    ∙ ap (sets l₀ 0) (sym (map-append f a b))

module _ {keys bits : List ℕ} {n : ℕ} {leaf_keys₀ leaf_features₀ leafKeys leafFeatures : List ℕ} {at i : ℕ}
    (p : PickedLeaves keys bits n leaf_keys₀ leaf_features₀ leafKeys leafFeatures at i) where
  pub keys_as_long : length leafKeys ≡ length leaf_keys₀
  keys_as_long = ap length p.keys_are ∙ length-sets leaf_keys₀ 0 (keys_of (leaves_of (records_of keys bits i)))

  pub features_as_long : length leafFeatures ≡ length leaf_features₀
  features_as_long = ap length p.features_are ∙ length-sets leaf_features₀ 0 (values_of (leaves_of (records_of keys bits i)))

  module _ (within : n ≤ room keys bits) (fits : length (leaves_of (records_of keys bits n)) ≤ room leaf_keys₀ leaf_features₀) where
    -- there is room for one record more
    pub picks_fit : i < n → at + length (picked (get_or keys i 0) (get_or bits i 0)) ≤ room leafKeys leafFeatures
    picks_fit h =
        let e = ap length (leaves_more keys bits i (omega arith))
        ∙ length-append (leaves_of (records_of keys bits i)) (picked (get_or keys i 0) (get_or bits i 0)) in
        let f = leaves_first keys bits (i + 1) n (omega arith) in
        let a = keys_as_long in
        let b = features_as_long in
        omega (arith, p.at_is)

    pub picks_go_on : i < n → {leaf_keys' leaf_features' : List ℕ} {next : ℕ}
        → Added (get_or keys i 0) (get_or bits i 0) at leafKeys leafFeatures leaf_keys' leaf_features' next
        → PickedLeaves keys bits n leaf_keys₀ leaf_features₀ leaf_keys' leaf_features' next (i + 1)
    picks_go_on h {leaf_keys'} {leaf_features'} {next} a =
        let e = leaves_more keys bits i (omega arith) in
        let one = picked (get_or keys i 0) (get_or bits i 0) in
        let so_far = leaves_of (records_of keys bits i) in
        record {
          within = omega arith;
          at_is = a.0 ∙ ap (λ x. x + length one) p.at_is ∙ sym (length-append so_far one) ∙ sym (ap length e);
          keys_are = more_run (λ x. x.key) so_far one leaf_keys₀ leafKeys leaf_keys' at p.at_is p.keys_are a.1 ∙ sym (ap (λ l. sets leaf_keys₀ 0 (keys_of l)) e);
          features_are = more_run (λ x. x.value) so_far one leaf_features₀ leafFeatures leaf_features' at p.at_is p.features_are a.2
              ∙ sym (ap (λ l. sets leaf_features₀ 0 (values_of l)) e);
        }

    pub picks_end : n ≤ i
        → (leafKeys ≡ over (keys_of (leaves_of (records_of keys bits n))) leaf_keys₀)
        × (leafFeatures ≡ over (values_of (leaves_of (records_of keys bits n))) leaf_features₀)
    picks_end h =
        let e : i ≡ n = omega (arith, p.within) in
        let l = leaves_of (records_of keys bits n) in (
          p.keys_are ∙ ap (λ j. sets leaf_keys₀ 0 (keys_of (leaves_of (records_of keys bits j)))) e
              ∙ sets_over (keys_of l) leaf_keys₀ (let m = length-map l (λ x. x.key) in omega arith),
          p.features_are ∙ ap (λ j. sets leaf_features₀ 0 (values_of (leaves_of (records_of keys bits j)))) e
              ∙ sets_over (values_of l) leaf_features₀ (let m = length-map l (λ x. x.value) in omega arith),
        )
