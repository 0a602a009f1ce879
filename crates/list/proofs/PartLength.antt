-- How many records the part of a list has that holds a block: those of the block's list, or the leaf's one. It ends where the keys below the end of
-- the block's interval end, whether the block is listed or lies inside a leaf. Rests on Lookup and Counted.
use Prim.Native.Nat.{ℕ, suc, ◌+◌, ◌^◌, ◌≤◌, ◌<◌}
use mathlib.Core.Path.{◌≡◌, ◌∙◌, ap}
use mathlib.Core.Bool.{Bool, true, false}
use mathlib.Core.List.{[]}
use native.Mathlib.Omega.{arith}
use lib.ListN.{length}
use lib.Dec.{ltb}
use borrow.Author.Tests.{lt-ltb, le-ltb}
use Rattle.keys.specs.Key.{root_key}
use Rattle.keys.specs.Block.{in_interval}
use Rattle.keys.proofs.Cases.{decide}
use Rattle.keys.proofs.Powers.{five_pos}
use Rattle.keys.specs.Under.{MapBlock}
use Rattle.keys.proofs.Pixel.{InKeys}
use Rattle.keys.proofs.InBlock.{in_interval-iff}
use Rattle.keys.proofs.Interval.{within}
use Rattle.definitions.specs.Picture.{Picture, one_feature}
use Rattle.definitions.specs.List.{record_of, keys_of, list_of, list_of_picture}
use Rattle.definitions.specs.Standing.{place_of, is_listed, records_in, part_length}
use Rattle.laws.proofs.ListOf.{list_one, list_ascends, list_some}
use Rattle.list.specs.Among.{keys_below}
use Rattle.list.proofs.Counted.{counted, below_counted, records_counted, counted_none, counted_yes, counted_all, counted_out}
use Rattle.list.proofs.Placed.{PartOfList}
use Rattle.list.proofs.Lookup.{counted_placed, Looked, is-listed, is-inside, lookup, lookup_listed}

-- in a map of side 2 ^ m a block's key interval holds its own records alone
module _ {m k r c κ : ℕ} (b : MapBlock m k r c κ) where
  interval_yes : (x : ℕ) → κ ≤ x → x < κ + 5 ^ k → in_interval m κ x ≡ true
  interval_yes x h j = (in_interval-iff x b).1 (record { from = h; until = j })

  interval_no : (x : ℕ) → (InKeys k κ x → ⊥) → in_interval m κ x ≡ false
  interval_no x h = decide (in_interval m κ x) (λ e. absurd (h ((in_interval-iff x b).0 e))) (λ e. e)

  -- the number of records in the interval of a block whose list is placed in the list is that list's length
  pub records_in_placed : {p : Picture} {k₀ r₀ c₀ κ₀ : ℕ} → PartOfList p k₀ r₀ c₀ κ₀ k r c κ → records_in m κ (list_of p k₀ r₀ c₀ κ₀) ≡ length (list_of p k r c κ)
  records_in_placed {p} {k₀} {r₀} {c₀} {κ₀} a =
      let t = in_interval m κ in
      let all = counted_placed t a in
      let e = records_counted m κ (list_of p k₀ r₀ c₀ κ₀) in
      let f = counted_all t (list_ascends p k r c κ) interval_yes in
      let g = counted_out t a.keys_before (λ x i j. interval_no x (λ w. omega (arith, w.from))) in
      let h = counted_out t a.keys_after (λ x i j. interval_no x (λ w. omega (arith, w.until))) in
      omega arith

-- how many records a list has before the end of a block's interval: those up to the end of the block's list
below_placed : {p : Picture} {k r c κ k' r' c' κ' : ℕ} (a : PartOfList p k r c κ k' r' c' κ') (x : ℕ) → κ' < x → x ≤ κ' + 5 ^ k' → counted (λ y. ltb y x) (list_of p k' r' c' κ') ≡ length (list_of p k' r' c' κ')
    → keys_below x (keys_of (list_of p k r c κ)) ≡ length a.before + length (list_of p k' r' c' κ')
below_placed {p} {k} {r} {c} {κ} a x low high own =
    let t : ℕ → Bool = λ y. ltb y x in
    let all = counted_placed t a in
    let e = below_counted x (list_of p k r c κ) in
    let g = counted_all t a.keys_before (λ y i j. lt-ltb y x (omega arith)) in
    let h = counted_out t a.keys_after (λ y i j. le-ltb y x (omega arith)) in
    omega arith

leaf_below : (p : Picture) (k r c κ x : ℕ) → one_feature p k r c ≡ true → κ < x → counted (λ y. ltb y x) (list_of p k r c κ) ≡ length (list_of p k r c κ)
leaf_below p k r c κ x one h =
    rw (list_one p k r c κ one) (counted_yes (λ y. ltb y x) (record_of κ (2 ^ p r c)) [] (lt-ltb κ x h) ∙ ap suc (counted_none (λ y. ltb y x)))

module _ (p : Picture) {m k r c κ : ℕ} (b : MapBlock m k r c κ) where
  -- the number of records that a listed block and all below it have
  pub records-in : is_listed κ (list_of_picture m p) ≡ true → records_in m κ (list_of_picture m p) ≡ length (list_of p k r c κ)
  records-in e = records_in_placed b (lookup_listed p b e).placed

  part_looked : Looked p m 0 0 root_key k r c κ
      → place_of κ (list_of_picture m p) + part_length m κ (list_of_picture m p) ≡ keys_below (κ + 5 ^ k) (keys_of (list_of_picture m p))
  unfolding part_length
  part_looked (is-listed e a) =
      let n = records_in_placed b a.placed in
      let h = five_pos k in
      let f = below_placed a.placed (κ + 5 ^ k) (omega arith) (omega arith) (counted_all (λ y. ltb y (κ + 5 ^ k)) (list_ascends p k r c κ) (λ x i j. lt-ltb x (κ + 5 ^ k) j)) in
      let g = a.place in
      rw e (omega arith)
  part_looked (is-inside e a) =
      let w = within a.holds in
      let h = five_pos k in
      let j = a.before in
      let one = ap length (list_one p a.height a.row a.column a.at a.one) in
      let f = below_placed a.stands.placed (κ + 5 ^ k) (omega arith) (omega arith) (leaf_below p a.height a.row a.column a.at (κ + 5 ^ k) a.one (omega arith)) in
      let g = a.stands.place in
      rw e (omega arith)

  -- the part starts at the block's place and ends after the last key below the end of the block's interval
  pub part_end : place_of κ (list_of_picture m p) + part_length m κ (list_of_picture m p) ≡ keys_below (κ + 5 ^ k) (keys_of (list_of_picture m p))
  part_end = part_looked (lookup p b)

  some_looked : Looked p m 0 0 root_key k r c κ → 1 ≤ part_length m κ (list_of_picture m p)
  unfolding part_length
  some_looked (is-listed e a) = let n = records_in_placed b a.placed in let h = list_some p k r c κ in rw e (omega arith)
  some_looked (is-inside e a) = rw e (omega arith)

  -- the part has at least one place
  pub part_some : 1 ≤ part_length m κ (list_of_picture m p)
  part_some = some_looked (lookup p b)
