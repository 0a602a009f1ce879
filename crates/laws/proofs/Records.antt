-- Records in two slices: how many they are, their keys and values, the one at a place, the first of them and a run of them, and records that were
-- laid there and are read back. Rests on the laws of lists.
use Prim.Native.Nat.{ℕ, zero, suc, ◌+◌, ◌≤◌, ◌<◌}
use mathlib.Core.Path.{◌≡◌, refl, sym, ap, ap₂, ◌∙◌}
use mathlib.Core.List.{List, [], ◌∷◌}
use native.Mathlib.Nat.{zero-add, suc-add}
use native.Mathlib.Omega.{arith}
use lib.ListN.{length, get_or, take, drop, length-map}
use lib.Seq.{slice, length-take-le, get_or-take, take-take, take-nil, take_at}
use Rattle.definitions.specs.List.{Record, record_of, keys_of, values_of}
use Rattle.definitions.specs.Read.{paired, records_of}
use Rattle.definitions.specs.Buffer.{over}

-- slices of one length have as many records
pub paired-length : (keys values : List ℕ) → length keys ≡ length values → length (paired keys values) ≡ length keys
unfolding paired
paired-length [] values e = refl
paired-length (κ ∷ keys) [] e = absurd (omega arith)
paired-length (κ ∷ keys) (v ∷ values) e = ap suc (paired-length keys values (omega arith))

-- the keys of the records are those of the first slice
pub paired_keys : (keys values : List ℕ) → length keys ≡ length values → keys_of (paired keys values) ≡ keys
unfolding paired
paired_keys [] values e = refl
paired_keys (κ ∷ keys) [] e = absurd (omega arith)
paired_keys (κ ∷ keys) (v ∷ values) e = ap (λ l. κ ∷ l) (paired_keys keys values (omega arith))

-- the values those of the second
pub paired_values : (keys values : List ℕ) → length keys ≡ length values → values_of (paired keys values) ≡ values
unfolding paired
paired_values [] [] e = refl
paired_values [] (v ∷ values) e = absurd (omega arith)
paired_values (κ ∷ keys) [] e = absurd (omega arith)
paired_values (κ ∷ keys) (v ∷ values) e = ap (λ l. v ∷ l) (paired_values keys values (omega arith))

-- records taken apart and put together again
pub paired_back : (l : List Record) → paired (keys_of l) (values_of l) ≡ l
unfolding paired
paired_back [] = refl
paired_back (e ∷ l) = ap (λ rest. e ∷ rest) (paired_back l)

-- the first n of two slices' records
pub take-paired : (n : ℕ) (keys values : List ℕ) → take n (paired keys values) ≡ paired (take n keys) (take n values)
unfolding paired
take-paired zero keys values = refl
take-paired (suc n) [] values = refl
take-paired (suc n) (κ ∷ keys) [] = refl
take-paired (suc n) (κ ∷ keys) (v ∷ values) = ap (λ l. record_of κ v ∷ l) (take-paired n keys values)

none_left : (keys : List ℕ) → paired keys [] ≡ []
unfolding paired
none_left [] = refl
none_left (κ ∷ keys) = refl

-- those from a place on
pub drop-paired : (n : ℕ) (keys values : List ℕ) → drop n (paired keys values) ≡ paired (drop n keys) (drop n values)
unfolding paired
drop-paired zero keys values = refl
drop-paired (suc n) [] values = refl
drop-paired (suc n) (κ ∷ keys) [] = sym (none_left (drop n keys))
drop-paired (suc n) (κ ∷ keys) (v ∷ values) = drop-paired n keys values

-- the one at a place
pub paired_at : (i : ℕ) (keys values : List ℕ) → i < length keys → i < length values
    → get_or (paired keys values) i (record_of 0 0) ≡ record_of (get_or keys i 0) (get_or values i 0)
unfolding paired
paired_at i [] values h j = absurd (omega arith)
paired_at i (κ ∷ keys) [] h j = absurd (omega arith)
paired_at zero (κ ∷ keys) (v ∷ values) h j = refl
paired_at (suc i) (κ ∷ keys) (v ∷ values) h j = paired_at i keys values (omega arith) (omega arith)

-- a part of a slice is a run of it
part-is-run {ℓ} : {A : Type ℓ} (start count : ℕ) (l : List A) → slice start (start + count) l ≡ take count (drop start l)
part-is-run zero count l = ap (λ n. take n l) (zero-add count)
part-is-run (suc start) count [] = ap (drop (suc start)) (take-nil (suc start + count)) ∙ sym (take-nil count)
part-is-run (suc start) count (x ∷ l) = ap (λ n. drop (suc start) (take n (x ∷ l))) (suc-add start count) ∙ part-is-run start count l

-- the first n records of slices that have them
module _ (keys values : List ℕ) (n : ℕ) (in_keys : n ≤ length keys) (in_values : n ≤ length values) where
  sizes : length (take n keys) ≡ length (take n values)
  sizes = length-take-le n keys in_keys ∙ sym (length-take-le n values in_values)

  pub records-length : length (records_of keys values n) ≡ n
  records-length = paired-length (take n keys) (take n values) sizes ∙ length-take-le n keys in_keys

  pub records_keys : keys_of (records_of keys values n) ≡ take n keys
  records_keys = paired_keys (take n keys) (take n values) sizes

  pub records_values : values_of (records_of keys values n) ≡ take n values
  records_values = paired_values (take n keys) (take n values) sizes

  -- the key at a place
  pub key_at : (i : ℕ) → i < n → get_or (keys_of (records_of keys values n)) i 0 ≡ get_or keys i 0
  key_at i h = ap (λ l. get_or l i 0) records_keys ∙ get_or-take n keys i 0 h

  -- the value at a place
  pub value-at : (i : ℕ) → i < n → get_or (values_of (records_of keys values n)) i 0 ≡ get_or values i 0
  value-at i h = ap (λ l. get_or l i 0) records_values ∙ get_or-take n values i 0 h

  -- the record at a place
  pub records_at : (i : ℕ) → i < n → get_or (records_of keys values n) i (record_of 0 0) ≡ record_of (get_or keys i 0) (get_or values i 0)
  records_at i h =
      let a = length-take-le n keys in_keys in
      let b = length-take-le n values in_values in
      paired_at i (take n keys) (take n values) (omega arith) (omega arith)
      ∙ ap₂ (λ κ v. record_of κ v) (get_or-take n keys i 0 h) (get_or-take n values i 0 h)

module _ (keys values : List ℕ) (n : ℕ) where
  -- the first of the first n records
  pub records_first : (i : ℕ) → i ≤ n → take i (records_of keys values n) ≡ records_of keys values i
  records_first i h = take-paired i (take n keys) (take n values) ∙ ap₂ (λ k v. paired k v) (take-take i n keys h) (take-take i n values h)

  -- a run of them
  pub records_run : (start count : ℕ) → start + count ≤ n
      → take count (drop start (records_of keys values n)) ≡ paired (take count (drop start keys)) (take count (drop start values))
  records_run start count h =
      sym (part-is-run start count (records_of keys values n))
      ∙ ap (drop start) (records_first (start + count) h)
      ∙ drop-paired start (take (start + count) keys) (take (start + count) values)
      ∙ ap₂ (λ k v. paired k v) (part-is-run start count keys) (part-is-run start count values)

-- records laid over two slices are their first records
pub records_over : (l : List Record) (n : ℕ) (keys values : List ℕ) → length l ≡ n → records_of (over (keys_of l) keys) (over (values_of l) values) n ≡ l
records_over l n keys values e =
    ap₂ paired
    (take_at (keys_of l) (drop (length (keys_of l)) keys) n (length-map l (λ x. x.key) ∙ e))
    (take_at (values_of l) (drop (length (values_of l)) values) n (length-map l (λ x. x.value) ∙ e))
    ∙ paired_back l
