-- What stands where a block stands in a list: the record of the listed block at or around it, whose bitstring is the block's own. If the block is
-- listed, its whole list stands from there on. Rests on Placed and Counted.
use Prim.Native.Nat.{ℕ, suc, ◌+◌, ◌^◌, ◌≤◌, ◌<◌}
use mathlib.Core.Path.{◌≡◌, sym, ◌∙◌, ap, ap₂}
use mathlib.Core.Bool.{Bool, true, false, true≢false}
use mathlib.Core.Logic.{◌⊎◌, inl, inr}
use mathlib.Core.List.{[], ◌++◌}
use native.Mathlib.Omega.{arith}
use lib.ListN.{length, get_or, get_or-map}
use lib.Seq.{get_or-append_seam}
use lib.Dec.{leb, eqb}
use borrow.Author.Tests.{le-leb, lt-leb, eq-eqb, ne_eqb}
use Rattle.keys.specs.Under.{Under}
use Rattle.keys.proofs.Interval.{SameBlock, key_within}
use Rattle.definitions.specs.Picture.{Picture, one_feature}
use Rattle.definitions.specs.Bits.{bits_of}
use Rattle.definitions.specs.List.{record_of, keys_of, values_of, list_of}
use Rattle.definitions.specs.Standing.{up_to, place_of, is_listed}
use Rattle.laws.proofs.Within.{first_within, under_within}
use Rattle.laws.proofs.Features.{one_to, one_under}
use Rattle.laws.proofs.BitsOf.{bits_one}
use Rattle.laws.proofs.Ascending.{ascending_rest}
use Rattle.laws.proofs.ListOf.{list_head_first, list_one, list_ascends}
use Rattle.list.proofs.Counted.{counted, up_to_counted, counted_none, counted_yes, counted-append, counted_all, counted_out}
use Rattle.list.proofs.Placed.{PartOfList, ListedAround, placed_around}

-- the count over a list in which another is placed
pub counted_placed : (test : ℕ → Bool) {p : Picture} {k r c κ k' r' c' κ' : ℕ} (a : PartOfList p k r c κ k' r' c' κ')
    → counted test (list_of p k r c κ) ≡ counted test a.before + (counted test (list_of p k' r' c' κ') + counted test a.after)
counted_placed test {k' = k'} a =
    ap (counted test) a.splits ∙ counted-append test a.before _ ∙ ap (λ x. counted test a.before + x) (counted-append test _ a.after)

-- of the block's own list only the first record is at or before a number that is not past its first child
first_only : (p : Picture) (k r c κ : ℕ) → up_to κ (list_of p k r c κ) ≡ 1
first_only p k r c κ =
    let f = list_head_first p k r c κ in
    up_to_counted κ (list_of p k r c κ)
    ∙ ap (counted (λ x. leb x κ)) f.1
    ∙ counted_yes (λ x. leb x κ) (record_of κ (bits_of p k r c)) f.0 (le-leb κ κ (omega arith))
    ∙ ap suc (counted_out (λ x. leb x κ) (ascending_rest (rw f.1 at (list_ascends p k r c κ))) (λ x i j. lt-leb x κ i))

leaf_only : (p : Picture) (k r c κ x : ℕ) → one_feature p k r c ≡ true → κ ≤ x → up_to x (list_of p k r c κ) ≡ 1
leaf_only p k r c κ x one h =
    up_to_counted x (list_of p k r c κ)
    ∙ ap (counted (λ y. leb y x)) (list_one p k r c κ one)
    ∙ counted_yes (λ y. leb y x) (record_of κ (2 ^ p r c)) [] (le-leb κ x h)
    ∙ ap suc (counted_none (λ y. leb y x))

module _ {p : Picture} {k r c κ k' r' c' κ' : ℕ} (a : ListedAround p k r c κ k' r' c' κ') where
  one_up_to : up_to κ' (list_of p a.height a.row a.column a.at) ≡ 1
  one_up_to = go a.which
    where
      go : SameBlock a.height a.row a.column a.at k' r' c' κ' ⊎ ((one_feature p a.height a.row a.column ≡ true) × (a.at < κ')) → up_to κ' (list_of p a.height a.row a.column a.at) ≡ 1
      go (inl s) = ap (λ x. up_to x (list_of p a.height a.row a.column a.at)) (sym s.keys) ∙ first_only p a.height a.row a.column a.at
      go (inr s) = leaf_only p a.height a.row a.column a.at κ' s.0 (omega arith)

  -- the place is the number of records before the listed block's
  pub around_place : place_of κ' (list_of p k r c κ) ≡ length a.placed.before
  unfolding place_of
  around_place =
      let t : ℕ → Bool = λ x. leb x κ' in
      let w = key_within a.holds in
      let all = counted_placed t a.placed in
      let one = one_up_to in
      let e = up_to_counted κ' (list_of p k r c κ) in
      let f = up_to_counted κ' (list_of p a.height a.row a.column a.at) in
      let g = counted_all t a.placed.keys_before (λ x i j. le-leb x κ' (omega arith)) in
      let h = counted_out t a.placed.keys_after (λ x i j. lt-leb x κ' (omega arith)) in
      omega arith

  -- the record at the place is the listed block's
  pub around_record : get_or (list_of p k r c κ) (place_of κ' (list_of p k r c κ)) (record_of 0 0) ≡ record_of a.at (bits_of p a.height a.row a.column)
  around_record =
      let f = list_head_first p a.height a.row a.column a.at in
      ap₂ (λ l i. get_or l i (record_of 0 0)) (a.placed.splits ∙ ap (λ l. a.placed.before ++ (l ++ a.placed.after)) f.1) around_place
      ∙ get_or-append_seam a.placed.before (record_of a.at (bits_of p a.height a.row a.column)) (f.0 ++ a.placed.after) (record_of 0 0)

  pub around_key : get_or (keys_of (list_of p k r c κ)) (place_of κ' (list_of p k r c κ)) 0 ≡ a.at
  around_key = get_or-map (λ x. x.key) (list_of p k r c κ) (place_of κ' (list_of p k r c κ)) (record_of 0 0) ∙ ap (λ x. x.key) around_record

  -- its bits are those of the block that it is, or of any block in the leaf that it is
  around_bits : bits_of p a.height a.row a.column ≡ bits_of p k' r' c'
  around_bits = go a.which
    where
      go : SameBlock a.height a.row a.column a.at k' r' c' κ' ⊎ ((one_feature p a.height a.row a.column ≡ true) × (a.at < κ')) → bits_of p a.height a.row a.column ≡ bits_of p k' r' c'
      go (inl s) = rw (s.heights, s.rows, s.columns)
      go (inr s) =
          bits_one p a.height a.row a.column s.0
          ∙ ap (λ f. 2 ^ f) (sym (one_to p a.height a.row a.column s.0 r' c' (under_within a.holds (first_within k' r' c'))))
          ∙ sym (bits_one p k' r' c' (one_under p a.holds s.0))

  pub around_value : get_or (values_of (list_of p k r c κ)) (place_of κ' (list_of p k r c κ)) 0 ≡ bits_of p k' r' c'
  around_value =
      get_or-map (λ x. x.value) (list_of p k r c κ) (place_of κ' (list_of p k r c κ)) (record_of 0 0) ∙ ap (λ x. x.value) around_record ∙ around_bits

-- the lookup law: the bitstring at a block's place is the block's own, whether it is listed or lies inside a leaf
pub lookup_value : (p : Picture) {k r c κ k' r' c' κ' : ℕ} → Under k r c κ k' r' c' κ' → get_or (values_of (list_of p k r c κ)) (place_of κ' (list_of p k r c κ)) 0 ≡ bits_of p k' r' c'
lookup_value p u = around_value (placed_around p u)

-- a listed block's list stands in the list from the block's place on
pub record AtPlace (p : Picture) (k r c κ k' r' c' κ' x : ℕ) : Type 0 where
  pub placed : PartOfList p k r c κ k' r' c' κ'
  pub place : place_of x (list_of p k r c κ) ≡ length placed.before

same_place : {p : Picture} {k r c κ k₁ r₁ c₁ κ₁ k' r' c' κ' x : ℕ} → SameBlock k₁ r₁ c₁ κ₁ k' r' c' κ' → AtPlace p k r c κ k₁ r₁ c₁ κ₁ x → AtPlace p k r c κ k' r' c' κ' x
same_place s a = rw (← s.heights, ← s.rows, ← s.columns, ← s.keys) a

-- a block that is not listed lies inside a leaf, whose record is at the block's place
pub record InsideLeaf (p : Picture) (k r c κ k' r' c' κ' : ℕ) : Type 0 where
  pub height : ℕ
  pub row : ℕ
  pub column : ℕ
  pub at : ℕ
  pub stands : AtPlace p k r c κ height row column at κ'
  pub under : Under k r c κ height row column at
  pub holds : Under height row column at k' r' c' κ'
  pub one : one_feature p height row column ≡ true
  pub before : at < κ'

-- a block is listed, or lies inside a leaf
pub data Looked (p : Picture) (k r c κ k' r' c' κ' : ℕ) : Type 0 where
  is-listed : is_listed κ' (list_of p k r c κ) ≡ true → AtPlace p k r c κ k' r' c' κ' κ' → Looked p k r c κ k' r' c' κ'
  is-inside : is_listed κ' (list_of p k r c κ) ≡ false → InsideLeaf p k r c κ k' r' c' κ' → Looked p k r c κ k' r' c' κ'

module _ {p : Picture} {k r c κ k' r' c' κ' : ℕ} (a : ListedAround p k r c κ k' r' c' κ') where
  around_listed : is_listed κ' (list_of p k r c κ) ≡ eqb a.at κ'
  unfolding is_listed
  around_listed = ap (λ x. eqb x κ') (around_key a)

  around_at : AtPlace p k r c κ a.height a.row a.column a.at κ'
  around_at = record { placed = a.placed; place = around_place a }

  around_looked : SameBlock a.height a.row a.column a.at k' r' c' κ' ⊎ ((one_feature p a.height a.row a.column ≡ true) × (a.at < κ')) → Looked p k r c κ k' r' c' κ'
  around_looked (inl s) = is-listed (around_listed ∙ eq-eqb _ _ s.keys) (same_place s around_at)
  around_looked (inr s) =
      is-inside (around_listed ∙ ne_eqb a.at κ' (λ (e : a.at ≡ κ'). omega (arith, s.1)))
      (record { height = a.height; row = a.row; column = a.column; at = a.at; stands = around_at; under = a.under; holds = a.holds; one = s.0; before = s.1 })

pub lookup : (p : Picture) {k r c κ k' r' c' κ' : ℕ} → Under k r c κ k' r' c' κ' → Looked p k r c κ k' r' c' κ'
lookup p u = let a = placed_around p u in around_looked a a.which

listed_case : {p : Picture} {k r c κ k' r' c' κ' : ℕ} → is_listed κ' (list_of p k r c κ) ≡ true → Looked p k r c κ k' r' c' κ' → AtPlace p k r c κ k' r' c' κ' κ'
listed_case e (is-listed f a) = a
listed_case e (is-inside f a) = absurd (true≢false (sym e ∙ f))

inside_case : {p : Picture} {k r c κ k' r' c' κ' : ℕ} → is_listed κ' (list_of p k r c κ) ≡ false → Looked p k r c κ k' r' c' κ' → InsideLeaf p k r c κ k' r' c' κ'
inside_case e (is-listed f a) = absurd (true≢false (sym f ∙ e))
inside_case e (is-inside f a) = a

-- if the block is listed, its whole list stands from its place on
pub lookup_listed : (p : Picture) {k r c κ k' r' c' κ' : ℕ} → Under k r c κ k' r' c' κ' → is_listed κ' (list_of p k r c κ) ≡ true → AtPlace p k r c κ k' r' c' κ' κ'
lookup_listed p u e = listed_case e (lookup p u)

-- if it is not, the record at its place is that of a leaf around it
pub lookup_inside : (p : Picture) {k r c κ k' r' c' κ' : ℕ} → Under k r c κ k' r' c' κ' → is_listed κ' (list_of p k r c κ) ≡ false → InsideLeaf p k r c κ k' r' c' κ'
lookup_inside p u e = inside_case e (lookup p u)
