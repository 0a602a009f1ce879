-- The answers of the check of a block's list in two slices, one for each way out of the code. Rests on Accepts and Places.
use Prim.Native.Nat.{ℕ, ◌+◌, ◌-◌, ◌*◌, ◌/◌, ◌^◌, ◌≤◌, ◌<◌}
use mathlib.Core.Path.{◌≡◌, sym, ◌∙◌, ap, ap₂}
use mathlib.Core.Bool.{Bool, true, false, ◌&&◌, and-false}
use mathlib.Core.List.{List, []}
use native.Mathlib.Omega.{arith}
use lib.Dec.{leb, ltb, eqb}
use lib.ListN.{length, get_or, take, drop, length-drop}
use lib.Seq.{length-take-le, get_or-take}
use borrow.Author.Tests.{lt-ltb, le-ltb, eqb-true, eq-eqb, ne_eqb, eqb-false, le-leb, lt-leb}
use Rattle.keys.specs.Key.{root_key, valid_key, height_of}
use Rattle.keys.proofs.Cases.{decide}
use Rattle.keys.proofs.Digits.{row_zero, column_zero, height_zero}
use Rattle.keys.specs.Under.{MapBlock, here}
use Rattle.keys.proofs.Powers.{five_le, height_le}
use Rattle.keys.proofs.Valid.{block_valid, valid_below}
use Rattle.definitions.specs.List.{Record}
use Rattle.definitions.specs.Read.{room, paired, records_of, is_list}
use Rattle.definitions.specs.Log.{is_content}
use Rattle.laws.proofs.Records.{paired-length}
use Rattle.list.specs.Check.{one_slot, Outcome, wrong, left, rest_place, after_own, after_node, step_under}
use Rattle.list.proofs.Children.{own_leaf, own_node}
use Rattle.list.proofs.Places.{record_at}
use Rattle.list.proofs.Turn.{step_fifth}
use Rattle.list.proofs.Accepts.{accepts_whole, accepts, accepts_content}

-- what the check promises
abbrev pub ContentAnswer : ℕ → ℕ → ℕ → List ℕ → List ℕ → ℕ → Bool
ContentAnswer m s κ K B n = leb n (room K B) && is_content m s κ (records_of K B n)

-- the step of the block's children, and that keys in the block's interval fit
pub step_is_under : (m κ power : ℕ) → power ≡ 5 ^ height_of m κ → power / 5 ≡ step_under (height_of m κ)
step_is_under m κ power p = ap (λ x. x / 5) p ∙ step_fifth (height_of m κ)

pub keys_fit : (m κ power : ℕ) → m ≤ 10 → valid_key m κ ≡ true → power ≡ 5 ^ height_of m κ → κ + 5 * (power / 5) < 4294967296
keys_fit m κ power top valid p =
    let x = valid_below m κ valid in
    let y = five_le 10 top in
    let z = five_le m (height_le m κ) in
    omega arith

-- where a slice is too short
pub short_keys : (m s κ : ℕ) (K B : List ℕ) (n : ℕ) → length K < n → false ≡ ContentAnswer m s κ K B n
short_keys m s κ K B n h = let e = lt-leb n (room K B) (omega arith) in rw e

pub short_bits : (m s κ : ℕ) (K B : List ℕ) (n : ℕ) → length B < n → false ≡ ContentAnswer m s κ K B n
short_bits m s κ K B n h = let e = lt-leb n (room K B) (omega arith) in rw e

-- no records are no list
pub no_records : (m s κ : ℕ) (K B : List ℕ) (n : ℕ) → valid_key m κ ≡ true → n ≡ 0 → false ≡ ContentAnswer m s κ K B n
unfolding accepts paired
no_records m s κ K B n valid none =
    sym (ap (ContentAnswer m s κ K B) none ∙ ap (λ b. leb 0 (room K B) && b) (accepts_content m s κ [] valid) ∙ and-false (leb 0 (room K B)))

-- the place after a node's records is the end exactly when none is left
whole_place : (n : ℕ) (o : Outcome) → 0 < n → eqb (rest_place n o) n ≡ accepts_whole o
unfolding rest_place accepts_whole
whole_place n wrong h = ne_eqb 0 n (omega arith)
whole_place n (left l) h =
    decide (eqb (length l) 0)
    (λ e. let z = eqb-true (length l) 0 e in eq-eqb (n - length l) n (omega arith) ∙ sym e)
    (λ e. let z = eqb-false (length l) 0 e in ne_eqb (n - length l) n (omega arith) ∙ sym e)

-- some records, as many as are asked for, in two slices, and a valid key
pub record Stand (m κ : ℕ) (K B : List ℕ) (n : ℕ) : Type 0 where
  pub some : n ≡ 0 → ⊥
  pub in_keys : n ≤ length K
  pub in-bits : n ≤ length B
  pub valid : valid_key m κ ≡ true

module _ {m κ : ℕ} {K B : List ℕ} {n : ℕ} (st : Stand m κ K B n) where
  pub keys_length : length (take n K) ≡ n
  keys_length = length-take-le n K st.in_keys

  pub bits_length : length (take n B) ≡ n
  bits_length = length-take-le n B st.in-bits

  -- the records after the first
  abbrev after : List Record
  after = drop 1 (records_of K B n)

  -- what is left to test after the first record
  abbrev whole : Bool
  whole = accepts_whole (after_own (after_node (height_of m κ)) κ (get_or B 0 0) after)

  -- the tests of the first record, and then of the others
  tests : (s : ℕ) → ContentAnswer m s κ K B n ≡ eqb (get_or K 0 0) κ && (ltb (get_or B 0 0) (2 ^ s) && whole)
  unfolding accepts
  tests s =
      let h = keys_length in
      let z = st.some in
      let e = le-leb n (room K B) (omega (arith, st.in_keys, st.in-bits)) in
      ap₂ ◌&&◌ e (accepts_content m s κ (records_of K B n) st.valid)
      ∙ ap (accepts s (height_of m κ) κ) (record_at (take n K) (take n B) 0 (h ∙ sym bits_length) (omega arith))
      ∙ ap₂ (λ x y. eqb x κ && (ltb y (2 ^ s) && accepts_whole (after_own (after_node (height_of m κ)) κ y after))) (get_or-take n K 0 0 (omega arith)) (get_or-take n B 0 0 (omega arith))

  pub other_key : (s : ℕ) → (get_or K 0 0 ≡ κ → ⊥) → false ≡ ContentAnswer m s κ K B n
  other_key s h = sym (tests s ∙ ap (λ b. b && (ltb (get_or B 0 0) (2 ^ s) && whole)) (ne_eqb (get_or K 0 0) κ h))

  module _ (s : ℕ) (key : get_or K 0 0 ≡ κ) where
    same_key : ContentAnswer m s κ K B n ≡ ltb (get_or B 0 0) (2 ^ s) && whole
    same_key = tests s ∙ ap (λ b. b && (ltb (get_or B 0 0) (2 ^ s) && whole)) (eq-eqb (get_or K 0 0) κ key)

    pub large_bits : 2 ^ s ≤ get_or B 0 0 → false ≡ ContentAnswer m s κ K B n
    large_bits h = sym (same_key ∙ ap (λ b. b && whole) (le-ltb (get_or B 0 0) (2 ^ s) h))

    module _ (small : get_or B 0 0 < 2 ^ s) where
      first_right : ContentAnswer m s κ K B n ≡ whole
      first_right = same_key ∙ ap (λ b. b && whole) (lt-ltb (get_or B 0 0) (2 ^ s) small)

      -- a leaf is the only record
      pub one_record : one_slot (get_or B 0 0) ≡ true → eqb n 1 ≡ ContentAnswer m s κ K B n
      unfolding accepts_whole
      one_record one =
          let size : length after ≡ n - 1 =
          length-drop 1 (records_of K B n) ∙ ap (λ x. x - 1) (paired-length (take n K) (take n B) (keys_length ∙ sym bits_length) ∙ keys_length) in
          let z = st.some in
          sym (first_right ∙ ap accepts_whole (own_leaf (after_node (height_of m κ)) κ (get_or B 0 0) after one)
          ∙ decide (eqb n 1)
          (λ e. let z = eqb-true n 1 e in eq-eqb (length after) 0 (omega arith) ∙ sym e)
          (λ e. let z = eqb-false n 1 e in ne_eqb (length after) 0 (omega arith) ∙ sym e))

      -- a node ends at the end
      pub many_records : (place : ℕ) → one_slot (get_or B 0 0) ≡ false
          → place ≡ rest_place (length (take n K)) (after_node (height_of m κ) κ (get_or B 0 0) after)
          → eqb place n ≡ ContentAnswer m s κ K B n
      many_records place other e =
          let o = after_node (height_of m κ) κ (get_or B 0 0) after in
          ap (λ x. eqb x n) (e ∙ ap (λ x. rest_place x o) keys_length)
          ∙ whole_place n o (let z = st.some in omega arith)
          ∙ sym (first_right ∙ ap accepts_whole (own_node (after_node (height_of m κ)) κ (get_or B 0 0) after other))

-- the root's block is the map
pub root_valid : (m : ℕ) → valid_key m root_key ≡ true
root_valid m = let root : MapBlock m m 0 0 root_key = here in (block_valid root).valid

root_answer : (m s : ℕ) (K B : List ℕ) (n : ℕ) → ContentAnswer m s root_key K B n ≡ is_list m s K B n
unfolding is_content is_list
root_answer m s K B n = rw (height_zero m, row_zero m, column_zero m)

pub root_list : (m s : ℕ) (K B : List ℕ) (n : ℕ) (r : Bool) → r ≡ ContentAnswer m s root_key K B n → r ≡ is_list m s K B n
root_list m s K B n r e = e ∙ root_answer m s K B n
