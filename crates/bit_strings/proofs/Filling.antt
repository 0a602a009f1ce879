-- The loop that writes the records of a pair: each turn writes the next one. Rests on Passing and Bitwise.
use Prim.Native.Nat.{ℕ, suc, ◌+◌, ◌^◌, ◌≤◌, ◌<◌}
use mathlib.Core.Path.{◌≡◌, refl, sym, ap, ◌∙◌}
use mathlib.Core.Bool.{Bool, true, false, cond}
use mathlib.Core.List.{List, [], ◌∷◌}
use native.Mathlib.Numerals.{add-one}
use native.Mathlib.Omega.{arith}
use lib.ListN.{length, get_or, drop, set, length-set, length-map, get_or-map}
use lib.Seq.{drop-cons, drop-drop, paste, paste-zero}
use lib.Dec.{eqb}
use Rattle.keys.proofs.Cases.{split}
use Rattle.definitions.specs.List.{Record, record_of, keys_of, values_of}
use Rattle.definitions.specs.BitStrings.{bits_in, key_after, leaf_value, inner_value, records_from, records_of_pair}
use Rattle.bit_strings.specs.Steps.{next_bit, Fits}
use Rattle.bit_strings.proofs.NextBit.{drop-on}
use Rattle.bit_strings.proofs.Passing.{records_past, records_leaf, records_inner}
use Rattle.bit_strings.proofs.Bitwise.{one_more}

-- what the first of the records that are left says
pub record First (m x : ℕ) (nodes leaves : List Bool) (e : Record) (l : List Record) : Type 0 where
  pub inside : x < 5 ^ m
  pub digit : next_bit nodes ≤ 1
  pub is : e ≡ record_of x (cond (eqb (next_bit nodes) 1) (leaf_value leaves) inner_value)
  pub rest : l ≡ records_from m (key_after m x (eqb (next_bit nodes) 1)) (drop 1 nodes) (drop (next_bit nodes) leaves)

heads : {x y : Record} {l l' : List Record} → x ∷ l ≡ y ∷ l' → x ≡ y
heads e = cc

tails : {x y : Record} {l l' : List Record} → x ∷ l ≡ y ∷ l' → l ≡ l'
tails e = cc

no_first : {x : Record} {l : List Record} → [] ≡ x ∷ l → ⊥
no_first e = let h = ap length e in omega arith

records_none : (m x : ℕ) (leaves : List Bool) → records_from m x [] leaves ≡ []
unfolding records_from
records_none m x leaves = refl

first : (m x : ℕ) (nodes leaves : List Bool) (e : Record) (l : List Record) → records_from m x nodes leaves ≡ e ∷ l → First m x nodes leaves e l
unfolding next_bit
first m x [] leaves e l h = absurd (no_first (sym (records_none m x leaves) ∙ h))
first m x (true ∷ nodes) leaves e l h =
    split x (5 ^ m)
    (λ k. record {
      inside = k;
      digit = omega arith;
      is = heads (sym h ∙ records_leaf m x k nodes leaves);
      rest = tails (sym h ∙ records_leaf m x k nodes leaves);
    })
    (λ k. absurd (no_first (sym (records_past m x (true ∷ nodes) leaves k) ∙ h)))
first m x (false ∷ nodes) leaves e l h =
    split x (5 ^ m)
    (λ k. record {
      inside = k;
      digit = omega arith;
      is = heads (sym h ∙ records_inner m x k nodes leaves);
      rest = tails (sym h ∙ records_inner m x k nodes leaves);
    })
    (λ k. absurd (no_first (sym (records_past m x (false ∷ nodes) leaves k) ∙ h)))

-- i records are written, j of them leaves, and the next one has the given key
pub record Filling (m : ℕ) (nodes leaves : List ℕ) (n : ℕ) (keys₀ bits₀ keys bits : List ℕ) (key i j : ℕ) : Type 0 where
  pub most : i ≤ n
  pub fewer : j ≤ i
  pub same_keys : length keys ≡ length keys₀
  pub same_bits : length bits ≡ length bits₀
  pub left : records_from m key (drop i (bits_in nodes)) (drop j (bits_in leaves)) ≡ drop i (records_of_pair m nodes leaves)
  pub filled_keys : keys ≡ paste keys₀ 0 (keys_of (records_of_pair m nodes leaves)) i
  pub filled_bits : bits ≡ paste bits₀ 0 (values_of (records_of_pair m nodes leaves)) i

pub filling_start : (m : ℕ) (nodes leaves : List ℕ) (n : ℕ) (keys bits : List ℕ) → Filling m nodes leaves n keys bits keys bits 0 0 0
unfolding records_of_pair
filling_start m nodes leaves n keys bits = record {
  most = omega arith;
  fewer = omega arith;
  same_keys = refl;
  same_bits = refl;
  left = refl;
  filled_keys = paste-zero keys 0 (keys_of (records_of_pair m nodes leaves));
  filled_bits = paste-zero bits 0 (values_of (records_of_pair m nodes leaves));
}

abbrev nothing : Record
nothing = record_of 0 0

module _ {m : ℕ} {nodes leaves : List ℕ} {n : ℕ} {keys₀ bits₀ keys bits : List ℕ} {key i j : ℕ}
    (f : Filling m nodes leaves n keys₀ bits₀ keys bits key i j) (fits : Fits m nodes leaves n keys₀ bits₀) where
  keys_many : length (keys_of (records_of_pair m nodes leaves)) ≡ n
  keys_many = length-map (records_of_pair m nodes leaves) (λ x. x.key) ∙ sym fits.many

  bits_many : length (values_of (records_of_pair m nodes leaves)) ≡ n
  bits_many = length-map (records_of_pair m nodes leaves) (λ x. x.value) ∙ sym fits.many

  module _ (more : i < n) where
    splits : drop i (records_of_pair m nodes leaves) ≡ get_or (records_of_pair m nodes leaves) i nothing ∷ drop (suc i) (records_of_pair m nodes leaves)
    splits = drop-cons (records_of_pair m nodes leaves) i nothing (let e = fits.many in omega arith)

    pub next : First m key (drop i (bits_in nodes)) (drop j (bits_in leaves)) (get_or (records_of_pair m nodes leaves) i nothing) (drop (suc i) (records_of_pair m nodes leaves))
    next = first m key (drop i (bits_in nodes)) (drop j (bits_in leaves)) (get_or (records_of_pair m nodes leaves) i nothing) (drop (suc i) (records_of_pair m nodes leaves)) (f.left ∙ splits)

    pub filling_turn : (leaf value after : ℕ) → leaf ≡ next_bit (drop i (bits_in nodes))
        → value ≡ cond (eqb leaf 1) (leaf_value (drop j (bits_in leaves))) inner_value
        → after ≡ key_after m key (eqb leaf 1)
        → Filling m nodes leaves n keys₀ bits₀ (set keys i key) (set bits i value) after (i + 1) (j + leaf)
    filling_turn leaf value after leaf_is value_is after_is =
        let d = next.digit in
        let w = f.fewer in
        let ks = keys_many in
        let bs = bits_many in
        let r = fits.roomy in
        let record_is : get_or (records_of_pair m nodes leaves) i nothing ≡ record_of key value =
        next.is ∙ ap (record_of key) (sym (value_is ∙ ap (λ b. cond (eqb b 1) (leaf_value (drop j (bits_in leaves))) inner_value) leaf_is)) in
        let leaves-on : drop leaf (drop j (bits_in leaves)) ≡ drop (j + leaf) (bits_in leaves) = drop-drop leaf j (bits_in leaves) in
        record {
          most = omega arith;
          fewer = omega arith;
          same_keys = length-set keys i key ∙ f.same_keys;
          same_bits = length-set bits i value ∙ f.same_bits;
          left =
              (λ t. records_from m (after_is t) (sym (drop-on (bits_in nodes) i) t) (sym leaves-on t))
              ∙ ap (λ b. records_from m (key_after m key (eqb b 1)) (drop 1 (drop i (bits_in nodes))) (drop b (drop j (bits_in leaves)))) leaf_is
              ∙ sym next.rest
              ∙ ap (λ k. drop k (records_of_pair m nodes leaves)) (sym (add-one i));
          filled_keys =
              one_more keys₀ (keys_of (records_of_pair m nodes leaves)) keys i key (omega arith) (omega arith) f.filled_keys
              (sym (get_or-map (λ x. x.key) (records_of_pair m nodes leaves) i nothing ∙ ap (λ x. x.key) record_is));
          filled_bits =
              one_more bits₀ (values_of (records_of_pair m nodes leaves)) bits i value (omega arith) (omega arith) f.filled_bits
              (sym (get_or-map (λ x. x.value) (records_of_pair m nodes leaves) i nothing ∙ ap (λ x. x.value) record_is));
        }
