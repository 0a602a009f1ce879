-- Where a block stands in the list of a picture: it is listed at the number of records before it, or inside a leaf, whose record then stands
-- for it. In both cases the last record at or before its key has its bits. Rests on Context and Between.
use Prim.Native.Nat.{ℕ, suc, ◌^◌, ◌<◌}
use mathlib.Core.Path.{◌≡◌, sym, ◌∙◌, ap}
use mathlib.Core.Bool.{true, false, cond}
use mathlib.Core.List.{◌++◌}
use native.Mathlib.Omega.{arith}
use lib.ListN.{length, get_or}
use borrow.Author.Tests.{eq-eqb, ne_eqb}
use Rattle.keys.specs.Key.{height_of}
use Rattle.keys.proofs.Cases.{decide}
use Rattle.keys.proofs.Powers.{five_pos}
use Rattle.keys.specs.Under.{Quadrant}
use Rattle.keys.proofs.Interval.{key_within}
use Rattle.keys.proofs.Parent.{quadrant_after}
use Rattle.definitions.specs.Picture.{Picture, one_feature}
use Rattle.definitions.specs.Bits.{bits_of}
use Rattle.definitions.specs.List.{list_of, keys_of}
use Rattle.definitions.specs.Standing.{place_of, is_listed, records_in, part_length}
use Rattle.laws.proofs.Within.{first_within, under_within}
use Rattle.laws.proofs.Features.{one_to, one_under, several_above}
use Rattle.laws.proofs.BitsOf.{bits_one}
use Rattle.laws.proofs.ListOf.{list_ascends}
use Rattle.replace.specs.Family.{block_bits}
use Rattle.replace.proofs.Way.{Way, there, up, under_of}
use Rattle.replace.proofs.Context.{before_hole, after_hole, Open, spliced, context, before_ascends, after_ascends}
use Rattle.replace.proofs.Places.{in_cut}
use Rattle.replace.proofs.Between.{place_own, bits_own, key_own, place_leaf, bits_leaf, key_leaf}

-- a leaf of the picture that a block lies in and is not, on the block's way up
pub record LeafAround (p : Picture) {K R C Κ k r c κ : ℕ} (w : Way K R C Κ k r c κ) : Type 0 where
  pub height : ℕ
  pub row : ℕ
  pub column : ℕ
  pub key : ℕ
  pub way : Way K R C Κ height row column key
  pub under : Way height row column key k r c κ
  pub first : key < κ
  pub opens : Open p way
  pub one : one_feature p height row column ≡ true
  pub still : (p' : Picture) → Open p' w → Open p' under

-- the block is listed or lies inside a leaf
pub data ListedOrInside (p : Picture) {K R C Κ k r c κ : ℕ} (w : Way K R C Κ k r c κ) : Type 0 where
  listed : Open p w → ListedOrInside p w
  inside : LeafAround p w → ListedOrInside p w

stands_up : (p : Picture) {K R C Κ k r c κ r' c' κ' : ℕ} (q : Quadrant k r c κ r' c' κ') (w : Way K R C Κ (suc k) r c κ) → ListedOrInside p w → ListedOrInside p (up q w)
stands_up p {k = k} {r} {c} {κ} q w (listed o) =
    let h = quadrant_after q in
    let i = five_pos k in
    decide (one_feature p (suc k) r c)
    (λ one.
    inside (record { height = suc k; row = r; column = c; key = κ; way = w; under = up q there; first = omega arith; opens = o; one = one; still = λ p' e. e }))
    (λ several. listed several)
stands_up p {k = k} q w (inside x) =
    let h = quadrant_after q in
    let i = five_pos k in
    let j = x.first in
    inside (record {
      height = x.height;
      row = x.row;
      column = x.column;
      key = x.key;
      way = x.way;
      under = up q x.under;
      first = omega arith;
      opens = x.opens;
      one = x.one;
      still = λ p' e. e;
    })

-- every block does
pub stands : (p : Picture) {K R C Κ k r c κ : ℕ} (w : Way K R C Κ k r c κ) → ListedOrInside p w
stands p there = listed tt
stands p (up q w) = stands_up p q w (stands p w)

-- a listed block: its place, its bits, and how many records it has
module _ (p : Picture) {K R C Κ k r c κ : ℕ} (w : Way K R C Κ k r c κ) (o : Open p w) where
  shown : list_of p K R C Κ ≡ before_hole p w ++ (list_of p k r c κ ++ after_hole p w)
  unfolding spliced
  shown = context p w o

  -- its place is the number of records before it
  pub place_listed : place_of κ (list_of p K R C Κ) ≡ length (before_hole p w)
  place_listed = rw shown (place_own p k r c κ (before_ascends p w) (after_ascends p w))

  -- the bits there are its own
  pub bits_listed : block_bits κ (list_of p K R C Κ) ≡ bits_of p k r c
  bits_listed = rw shown (bits_own p k r c κ (before_ascends p w) (after_ascends p w))

  -- the key there is its own
  pub key_listed : get_or (keys_of (list_of p K R C Κ)) (place_of κ (list_of p K R C Κ)) 0 ≡ κ
  key_listed = rw shown (key_own p k r c κ (before_ascends p w) (after_ascends p w))

  -- so the standing says that it is listed
  pub is-listed : is_listed κ (list_of p K R C Κ) ≡ true
  unfolding is_listed
  is-listed = eq-eqb _ _ key_listed

  -- its part is its list
  pub part_listed : (m : ℕ) → height_of m κ ≡ k → part_length m κ (list_of p K R C Κ) ≡ length (list_of p k r c κ)
  unfolding part_length
  part_listed m e =
      ap (λ t. cond t (records_in m κ (list_of p K R C Κ)) 1) is-listed
      ∙ ap (records_in m κ) shown
      ∙ in_cut m κ k e (before_ascends p w) (list_ascends p k r c κ) (after_ascends p w)

-- a block inside a leaf: the place, the bits and the key of the leaf
module _ (p : Picture) {K R C Κ k r c κ : ℕ} {w : Way K R C Κ k r c κ} (x : LeafAround p w) where
  around_leaf : list_of p K R C Κ ≡ before_hole p x.way ++ (list_of p x.height x.row x.column x.key ++ after_hole p x.way)
  unfolding spliced
  around_leaf = context p x.way x.opens

  -- the place is that of the leaf
  pub place_inside : place_of κ (list_of p K R C Κ) ≡ length (before_hole p x.way)
  place_inside =
      let i = key_within (under_of x.under) in
      rw around_leaf (place_leaf p x.height x.row x.column x.key (before_ascends p x.way) (after_ascends p x.way) x.one κ i.0 i.1)

  -- the bits there are the leaf's feature
  pub bits_inside : block_bits κ (list_of p K R C Κ) ≡ 2 ^ p x.row x.column
  bits_inside =
      let i = key_within (under_of x.under) in
      rw around_leaf (bits_leaf p x.height x.row x.column x.key (before_ascends p x.way) (after_ascends p x.way) x.one κ i.0 i.1)

  -- the key there is the leaf's
  pub key_inside : get_or (keys_of (list_of p K R C Κ)) (place_of κ (list_of p K R C Κ)) 0 ≡ x.key
  key_inside =
      let i = key_within (under_of x.under) in
      rw around_leaf (key_leaf p x.height x.row x.column x.key (before_ascends p x.way) (after_ascends p x.way) x.one κ i.0 i.1)

  -- so the standing says that it is not listed
  pub not_listed : is_listed κ (list_of p K R C Κ) ≡ false
  unfolding is_listed
  not_listed = let h = x.first in ne_eqb _ _ (λ e. let f = sym key_inside ∙ e in omega arith)

  -- its part is the leaf's one record
  pub part_inside : (m : ℕ) → part_length m κ (list_of p K R C Κ) ≡ 1
  unfolding part_length
  part_inside m = ap (λ t. cond t (records_in m κ (list_of p K R C Κ)) 1) not_listed

-- where the block's parent has several features in another picture, the leaf has too
pub leaf_several : (p p' : Picture) {K R C Κ k r c κ : ℕ} {w : Way K R C Κ k r c κ} (x : LeafAround p w) → Open p' w → one_feature p' x.height x.row x.column ≡ false
leaf_several p p' x o = go p' x.under x.first (x.still p' o)
  where
    go : (p : Picture) {K R C Κ k r c κ : ℕ} (w : Way K R C Κ k r c κ) → Κ < κ → Open p w → one_feature p K R C ≡ false
    go p there h e = absurd (omega arith)
    go p (up q w) h e = several_above p (under_of w) e

-- the last record at or before a block's key has the block's bits
pub standing_bits : (p : Picture) {K R C Κ k r c κ : ℕ} → Way K R C Κ k r c κ → block_bits κ (list_of p K R C Κ) ≡ bits_of p k r c
standing_bits p {k = k} {r} {c} w = go p w (stands p w)
  where
    go : (p : Picture) {K R C Κ k r c κ : ℕ} (w : Way K R C Κ k r c κ) → ListedOrInside p w → block_bits κ (list_of p K R C Κ) ≡ bits_of p k r c
    go p w (listed o) = bits_listed p w o
    go p {k = k} {r} {c} w (inside x) =
        let u = under_of x.under in
        bits_inside p x
        ∙ ap (λ f. 2 ^ f) (sym (one_to p x.height x.row x.column x.one r c (under_within u (first_within k r c))))
        ∙ sym (bits_one p k r c (one_under p u x.one))
