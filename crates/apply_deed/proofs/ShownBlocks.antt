-- The records that stand from a place on: a node's own, and then those of its quadrants one after the other, each with what comes behind it. Rests on the laws
-- of ascending keys and of records in two slices.
use Prim.Native.Nat.{ℕ, zero, suc, ◌+◌, ◌-◌, ◌^◌, ◌<◌}
use mathlib.Core.Path.{◌≡◌, refl, sym, ◌∙◌, ap, ap₂}
use mathlib.Core.Bool.{true, false, true≢false}
use mathlib.Core.List.{List, ◌∷◌, ◌++◌, append_assoc}
use native.Mathlib.Nat.{add-zero, pow-suc}
use native.Mathlib.Omega.{arith}
use lib.ListN.{length, get_or, take, drop, length-append, length-drop}
use lib.Seq.{drop-drop, drop_at, get_or-drop}
use Rattle.keys.specs.Key.{child_key}
use Rattle.slices.proofs.Parts.{drop-take}
use Rattle.definitions.specs.Picture.{Picture, one_feature}
use Rattle.definitions.specs.Bits.{bits_of}
use Rattle.definitions.specs.List.{Record, record_of, list_of, Ascending}
use Rattle.definitions.specs.Read.{paired, records_of}
use Rattle.laws.proofs.Ascending.{ascending-append, widen}
use Rattle.laws.proofs.Records.{drop-paired, records-length, records_at}
use Rattle.laws.proofs.Features.{one_pixel}
use Rattle.laws.proofs.ListOf.{list_node, list_head_first, list_ascends}
use Rattle.list.specs.Check.{one_slot}
use Rattle.list.proofs.OneSlot.{slot_feature}
use Rattle.deeds.specs.Meeting.{block_at}
use Rattle.apply_deed.specs.Passes.{Showing, ShowingBlock, Shown}

pub drop-records : (ks bs : List ℕ) (at n : ℕ) → drop at (records_of ks bs n) ≡ paired (take (n - at) (drop at ks)) (take (n - at) (drop at bs))
drop-records ks bs at n = drop-paired at (take n ks) (take n bs) ∙ ap₂ paired (drop-take at n ks) (drop-take at n bs)

-- what stands from a place on, whatever it is
module _ {past at n : ℕ} {ks bs : List ℕ} where
  pub showing_many : {l : List Record} (s : Showing l past ks bs at n) → length l + length s.rest ≡ n - at
  showing_many {l} s =
      let a = records-length ks bs n s.in_keys s.in-bits in
      let d = length-drop at (records_of ks bs n) in
      let e = ap length s.is in
      let f = length-append l s.rest in
      omega arith

  pub showing_some : {x : Record} {l : List Record} → Showing (x ∷ l) past ks bs at n → at < n
  showing_some s = let m = showing_many s in omega arith

  -- the first record
  first_is : {x : Record} {l : List Record} → Showing (x ∷ l) past ks bs at n → record_of (get_or ks at 0) (get_or bs at 0) ≡ x
  first_is s =
      sym (records_at ks bs n s.in_keys s.in-bits at (showing_some s))
      ∙ ap (λ i. get_or (records_of ks bs n) i (record_of 0 0)) (sym (add-zero at))
      ∙ sym (get_or-drop at (records_of ks bs n) 0 (record_of 0 0))
      ∙ ap (λ z. get_or z 0 (record_of 0 0)) s.is

  pub showing_key : {x : Record} {l : List Record} → Showing (x ∷ l) past ks bs at n → get_or ks at 0 ≡ x.key
  showing_key s = ap (λ x. x.key) (first_is s)

  pub showing_value : {x : Record} {l : List Record} → Showing (x ∷ l) past ks bs at n → get_or bs at 0 ≡ x.value
  showing_value s = ap (λ x. x.value) (first_is s)

  -- behind the first
  pub showing_tail : {x : Record} {l : List Record} → Showing (x ∷ l) past ks bs at n → Showing l past ks bs (at + 1) n
  showing_tail {x} {l} s = record {
    rest = s.rest;
    limit = s.limit;
    in_keys = s.in_keys;
    in-bits = s.in-bits;
    is = sym (drop-drop 1 at (records_of ks bs n)) ∙ ap (drop 1) s.is;
    behind = s.behind;
  }

  -- the first of two parts, the second's keys ascend from a number on
  pub showing_left : {mid : ℕ} (a b : List Record) → Ascending mid past b → Showing (a ++ b) past ks bs at n → Showing a mid ks bs at n
  showing_left a b h s = record {
    rest = b ++ s.rest;
    limit = s.limit;
    in_keys = s.in_keys;
    in-bits = s.in-bits;
    is = s.is ∙ append_assoc a b s.rest;
    behind = ascending-append h s.behind;
  }

  -- the second
  pub showing_right : (a b : List Record) {next : ℕ} → next ≡ at + length a → Showing (a ++ b) past ks bs at n → Showing b past ks bs next n
  showing_right a b e s = record {
    rest = s.rest;
    limit = s.limit;
    in_keys = s.in_keys;
    in-bits = s.in-bits;
    is = ap (λ i. drop i (records_of ks bs n)) e
        ∙ sym (drop-drop (length a) at (records_of ks bs n))
        ∙ ap (drop (length a)) (s.is ∙ append_assoc a b s.rest)
        ∙ drop_at a (b ++ s.rest) (length a) refl;
    behind = s.behind;
  }

  -- in slices that are the same from there on
  pub showing_same : {l : List Record} {ks' bs' : List ℕ} → length ks' ≡ length ks → length bs' ≡ length bs → drop at ks' ≡ drop at ks → drop at bs' ≡ drop at bs
      → Showing l past ks bs at n → Showing l past ks' bs' at n
  showing_same {l} {ks'} {bs'} i j e f s = record {
    rest = s.rest;
    limit = s.limit;
    in_keys = rw i s.in_keys;
    in-bits = rw j s.in-bits;
    is = drop-records ks' bs' at n ∙ ap₂ (λ x y. paired (take (n - at) x) (take (n - at) y)) e f ∙ sym (drop-records ks bs at n) ∙ s.is;
    behind = s.behind;
  }

-- a block's list: its own record is the first
module _ (p : Picture) (k r c κ : ℕ) {ks bs : List ℕ} {at n : ℕ} (s : ShowingBlock p (block_at k r c κ) ks bs at n) where
  first : Showing (record_of κ (bits_of p k r c) ∷ (list_head_first p k r c κ).0) (κ + 5 ^ k) ks bs at n
  first = rw (list_head_first p k r c κ).1 at s

  pub shown_some : at < n
  shown_some = showing_some first

  pub shown_key : get_or ks at 0 ≡ κ
  shown_key = showing_key first

  pub shown_own : get_or bs at 0 ≡ bits_of p k r c
  shown_own = showing_value first

  pub shown_several : one_slot (get_or bs at 0) ≡ false → one_feature p k r c ≡ false
  shown_several e = sym (slot_feature p k r c) ∙ ap one_slot (sym shown_own) ∙ e

  pub shown_one : one_slot (get_or bs at 0) ≡ true → one_feature p k r c ≡ true
  shown_one e = sym (slot_feature p k r c) ∙ ap one_slot (sym shown_own) ∙ e

-- a block that is no leaf is no pixel
pub shown_positive : {m k r c κ at n : ℕ} {ks bs : List ℕ} → Shown m (block_at k r c κ) ks bs at n → one_slot (get_or bs at 0) ≡ false → 0 < k
shown_positive {k = k} {r} {c} {κ} a e = go k r c a (shown_several a.picture k r c κ a.shown e)
  where
    go : {m κ at n : ℕ} {ks bs : List ℕ} (k r c : ℕ) (a : Shown m (block_at k r c κ) ks bs at n) → one_feature a.picture k r c ≡ false → 0 < k
    go zero r c a h = absurd (true≢false (sym (one_pixel a.picture r c) ∙ h))
    go (suc k) r c a h = omega arith

-- a node: its quadrants' lists one after the other, and how their keys ascend
module _ (p : Picture) (k r c κ : ℕ) where
  abbrev pub L₁ : List Record
  L₁ = list_of p k r c (child_key κ k 1)

  abbrev pub L₂ : List Record
  L₂ = list_of p k r (c + 2 ^ k) (child_key κ k 2)

  abbrev pub L₃ : List Record
  L₃ = list_of p k (r + 2 ^ k) c (child_key κ k 3)

  abbrev pub L₄ : List Record
  L₄ = list_of p k (r + 2 ^ k) (c + 2 ^ k) (child_key κ k 4)

  -- the number past a node's keys
  abbrev pub End : ℕ
  End = κ + 5 ^ suc k

  from_four : Ascending (child_key κ k 3 + 5 ^ k) End L₄
  from_four = let e = pow-suc 5 k in widen (omega arith) (omega arith) (list_ascends p k (r + 2 ^ k) (c + 2 ^ k) (child_key κ k 4))

  from_three : Ascending (child_key κ k 2 + 5 ^ k) End (L₃ ++ L₄)
  from_three = ascending-append (widen (omega arith) (omega arith) (list_ascends p k (r + 2 ^ k) c (child_key κ k 3))) from_four

  from_two : Ascending (child_key κ k 1 + 5 ^ k) End (L₂ ++ (L₃ ++ L₄))
  from_two = ascending-append (widen (omega arith) (omega arith) (list_ascends p k r (c + 2 ^ k) (child_key κ k 2))) from_three

  module _ {ks bs : List ℕ} {at n : ℕ} where
    pub node_quadrants : one_feature p (suc k) r c ≡ false → ShowingBlock p (block_at (suc k) r c κ) ks bs at n → Showing (L₁ ++ (L₂ ++ (L₃ ++ L₄))) End ks bs (at + 1) n
    node_quadrants several s = showing_tail (rw (list_node p k r c κ several) at s)

    -- each quadrant, and what comes behind it
    pub quadrant_nw : Showing (L₁ ++ (L₂ ++ (L₃ ++ L₄))) End ks bs at n → ShowingBlock p (block_at k r c (child_key κ k 1)) ks bs at n
    quadrant_nw = showing_left L₁ (L₂ ++ (L₃ ++ L₄)) from_two

    pub behind_nw : {next : ℕ} → next ≡ at + length L₁ → Showing (L₁ ++ (L₂ ++ (L₃ ++ L₄))) End ks bs at n → Showing (L₂ ++ (L₃ ++ L₄)) End ks bs next n
    behind_nw = showing_right L₁ (L₂ ++ (L₃ ++ L₄))

    pub quadrant_ne : Showing (L₂ ++ (L₃ ++ L₄)) End ks bs at n → ShowingBlock p (block_at k r (c + 2 ^ k) (child_key κ k 2)) ks bs at n
    quadrant_ne = showing_left L₂ (L₃ ++ L₄) from_three

    pub behind_ne : {next : ℕ} → next ≡ at + length L₂ → Showing (L₂ ++ (L₃ ++ L₄)) End ks bs at n → Showing (L₃ ++ L₄) End ks bs next n
    behind_ne = showing_right L₂ (L₃ ++ L₄)

    pub quadrant_sw : Showing (L₃ ++ L₄) End ks bs at n → ShowingBlock p (block_at k (r + 2 ^ k) c (child_key κ k 3)) ks bs at n
    quadrant_sw = showing_left L₃ L₄ from_four

    pub behind_sw : {next : ℕ} → next ≡ at + length L₃ → Showing (L₃ ++ L₄) End ks bs at n → Showing L₄ End ks bs next n
    behind_sw = showing_right L₃ L₄

    pub quadrant_se : Showing L₄ End ks bs at n → ShowingBlock p (block_at k (r + 2 ^ k) (c + 2 ^ k) (child_key κ k 4)) ks bs at n
    quadrant_se s = let e = pow-suc 5 k in let f : End ≡ child_key κ k 4 + 5 ^ k = omega arith in rw (← f) s
