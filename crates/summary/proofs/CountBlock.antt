-- The counts of one block of an accepted list: counters that were all 0 have the block's counts once its leaf or its node was added. Rests on
-- CountTurn and list's Shown.
use Prim.Native.Nat.{ℕ, zero, suc, ◌+◌, ◌^◌, ◌≤◌, ◌<◌}
use mathlib.Core.Path.{◌≡◌, refl, sym, ◌∙◌, ap, ap₂}
use mathlib.Core.Bool.{true, false, true≢false}
use mathlib.Core.List.{List}
use native.Mathlib.Nat.{pow-le-pow_right}
use native.Mathlib.Omega.{arith}
use lib.Dec.{lit<}
use lib.ListN.{length, get_or, take, replicate, length-replicate, get_or-replicate}
use lib.Seq.{ext_get_or}
use Rattle.keys.specs.Key.{valid_key, height_of}
use Rattle.keys.specs.Block.{row_of, column_of}
use Rattle.keys.proofs.Powers.{height_le}
use Rattle.keys.specs.Under.{MapBlock}
use Rattle.keys.proofs.Valid.{valid_block}
use Rattle.definitions.specs.Picture.{Picture, one_feature}
use Rattle.laws.proofs.Features.{one_pixel}
use Rattle.definitions.specs.Bits.{bits_of, feature_of}
use Rattle.definitions.specs.Area.{pixels_with, counts_of}
use Rattle.laws.proofs.SummaryOf.{counts-length, count_of}
use Rattle.list.specs.Check.{one_slot}
use Rattle.list.specs.Own.{OwnList, shown_by}
use Rattle.list.specs.Among.{place_among}
use Rattle.list.specs.Shown.{ShownAt}
use Rattle.list.proofs.Own.{own_place, own_bits}
use Rattle.list.proofs.Shown.{slot_one, slot_several, shown_feature, block_shown, node_several}
use Rattle.summary.specs.Count.{with_pixels, CountersFit, NodeAt, NodeCounted}
use Rattle.summary.proofs.CountTurn.{added-length, leaf_added, shown_node, shown_counted}

-- counters that are all 0 have room for a block of a map
pub room_at_first : (m key area : ℕ) → m ≤ 10 → area ≡ 4 ^ height_of m key → CountersFit (replicate 32 0) area
room_at_first m key area deep e = record {
  long = length-replicate {A = ℕ} 32 0;
  fits = λ f h.
      let z = get_or-replicate {A = ℕ} 32 f 0 0 h in
      let k = height_le m key in
      let b = pow-le-pow_right {n = 4} (lit< tt) {i = height_of m key} {j = 10} (omega arith) in
      omega arith;
}

-- counters that have been raised from 0 by a block's counts are those counts
raised : (p : Picture) (k r c : ℕ) (counts : List ℕ) → length counts ≡ 32
    → ((f : ℕ) → f < 32 → get_or counts f 0 ≡ get_or (replicate 32 0) f 0 + pixels_with p k r c f)
    → counts ≡ counts_of 32 p k r c
raised p k r c counts long h =
    ext_get_or 0 counts (counts_of 32 p k r c) (long ∙ sym (counts-length p k r c 0 32))
    (λ f i.
    let below : f < 32 = omega arith in
    let x = h f below in
    let y = count_of p k r c 32 f below in
    let z = get_or-replicate {A = ℕ} 32 f 0 0 below in
    omega arith)

module _ {m : ℕ} {keys bits : List ℕ} {n : ℕ} (o : OwnList m keys bits n) (key : ℕ) {found : ℕ} (is : found ≡ place_among key (take n keys)) where
  pub place_room : found < length bits
  place_room = let h = own_place o key in let k = o.fits in omega arith

  module _ (valid : valid_key m key ≡ true) {area : ℕ} (pixels : area ≡ 4 ^ height_of m key) where
    block : MapBlock m (height_of m key) (row_of m key) (column_of m key) key
    block = valid_block m key valid

    own_is : get_or bits found 0 ≡ bits_of (shown_by m keys bits n) (height_of m key) (row_of m key) (column_of m key)
    own_is = ap (λ i. get_or bits i 0) is ∙ own_bits o block

    -- the block has one feature
    pub leaf_counts : (counts : List ℕ)
        → one_slot (get_or bits found 0) ≡ true
        → counts ≡ with_pixels (replicate 32 0) (feature_of (get_or bits found 0)) area
        → counts ≡ counts_of 32 (shown_by m keys bits n) (height_of m key) (row_of m key) (column_of m key)
    leaf_counts counts slot e =
        let leaf = ap one_slot (sym own_is) ∙ slot in
        raised (shown_by m keys bits n) (height_of m key) (row_of m key) (column_of m key) counts
        (ap length e ∙ added-length (replicate 32 0) (feature_of (get_or bits found 0)) area)
        (λ f i.
        ap (λ l. get_or l f 0) (e ∙ ap₂ (λ g a. with_pixels (replicate 32 0) g a) (ap feature_of own_is ∙ shown_feature _ (height_of m key) (row_of m key) (column_of m key) leaf) pixels)
        ∙ leaf_added (shown_by m keys bits n) (height_of m key) (row_of m key) (column_of m key) (replicate 32 0) f (slot_one _ (height_of m key) (row_of m key) (column_of m key) leaf) refl i)

    -- the block has several, so it is listed
    module _ (slots : one_slot (get_or bits found 0) ≡ false) where
      shown : ShownAt (shown_by m keys bits n) (height_of m key) (row_of m key) (column_of m key) key bits found
      shown = rw (sym is) at (block_shown o block (slot_several _ (height_of m key) (row_of m key) (column_of m key) (ap one_slot (sym own_is) ∙ slots)))

      pub node_there : NodeAt bits found area
      node_there = shown_node shown slots pixels

      pub node_counts : (counts : List ℕ) (next : ℕ)
          → NodeCounted bits found area (replicate 32 0) counts next
          → counts ≡ counts_of 32 (shown_by m keys bits n) (height_of m key) (row_of m key) (column_of m key)
      node_counts counts next x =
          raised (shown_by m keys bits n) (height_of m key) (row_of m key) (column_of m key) counts (x.long ∙ length-replicate {A = ℕ} 32 0)
          (shown_counted x shown slots pixels).counts

      -- so are counters that are known to have the pixels of whichever node stands there
      module _ (counts : List ℕ) (long : length counts ≡ 32)
          (known : (p : Picture) (k r c κ : ℕ)
          → ShownAt p (suc k) r c κ bits found
          → one_feature p (suc k) r c ≡ false
          → area ≡ 4 ^ suc k
          → (f : ℕ)
          → f < 32
          → get_or counts f 0 ≡ pixels_with p (suc k) r c f) where
        of_node : (p : Picture) (k r c κ : ℕ) → ShownAt p k r c κ bits found → one_feature p k r c ≡ false → area ≡ 4 ^ k → (f : ℕ) → f < 32
            → get_or counts f 0 ≡ pixels_with p k r c f
        of_node p zero r c κ s more e f h = absurd (true≢false (sym (one_pixel p r c) ∙ more))
        of_node p (suc k) r c κ s more e f h = known p k r c κ s more e f h

        pub row_counts : counts ≡ counts_of 32 (shown_by m keys bits n) (height_of m key) (row_of m key) (column_of m key)
        row_counts =
            raised (shown_by m keys bits n) (height_of m key) (row_of m key) (column_of m key) counts long
            (λ f h. let e = of_node _ _ _ _ _ shown (node_several shown slots) pixels f h in
            let z = get_or-replicate {A = ℕ} 32 f 0 0 h in
            omega arith)
