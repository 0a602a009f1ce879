-- A block that has shrunk: one that stays as it is, one that becomes a leaf, a leaf, and a node of which the quadrants have shrunk. Rests on Forward and
-- Pruned.
use Prim.Native.Nat.{ℕ, zero, suc, ◌+◌, ◌-◌, ◌^◌, ◌≤◌, ◌<◌}
use mathlib.Core.Path.{◌≡◌, refl, sym, ◌∙◌, ap, subst}
use mathlib.Core.Bool.{true, false, cond, true≢false}
use mathlib.Core.List.{List, [], ◌∷◌, ◌++◌}
use native.Mathlib.Omega.{arith}
use lib.ListN.{length, set, take, drop, length-append, length-drop, length-map}
use lib.Seq.{sets, take_at, length-take-le}
use lib.Dec.{eqb}
use borrow.Author.Tests.{eq-eqb, ne_eqb}
use Rattle.keys.specs.Key.{child_key}
use Rattle.keys.proofs.Cases.{decide}
use Rattle.definitions.specs.Picture.{Picture, one_feature}
use Rattle.definitions.specs.Bits.{bits_of, feature_of, union_of_four}
use Rattle.definitions.specs.List.{Record, record_of, keys_of, values_of, list_of}
use Rattle.definitions.specs.Read.{paired, records_of}
use Rattle.laws.proofs.Pixels.{Agree}
use Rattle.laws.proofs.Features.{one_to, one_from_leaf, one_pixel}
use Rattle.laws.proofs.FeatureOf.{feature_of_power}
use Rattle.laws.proofs.BitsOf.{bits_one}
use Rattle.laws.proofs.ListOf.{list_one, list_some, length-several, length-node}
use Rattle.laws.proofs.Records.{records-length, records_run, paired_keys, paired_values}
use Rattle.list.specs.Check.{one_slot}
use Rattle.list.proofs.OneSlot.{slot_feature, one_slot_power}
use Rattle.build.specs.BuildBlocks.{Tallied, Joined}
use Rattle.build.proofs.CountBlock.{tallied_four}
use Rattle.deeds.specs.Step.{Step, step_over, plain, pruned}
use Rattle.deeds.specs.Meeting.{block_at, Untouched, OneLeaf, Met, is_cut}
use Rattle.deeds.specs.declared.meeting.Meeting.{Meeting}
use Rattle.deeds.specs.declared.meeting.Meeting.TheVariants.{Apart, Leaf, Content, Cut}
use Rattle.deeds.proofs.Pruned.{leaf_before, pruned_one, pruned_leaf, pruned_node, pruned_apart, pruned_same}
use Rattle.apply_deed.specs.Passes.{Showing, ShowingBlock}
use Rattle.apply_deed.specs.Shrink.{Forward, ShrunkAt, KeptForward, LeafShrunk, OwnShrunk, is_decided}
use Rattle.apply_deed.proofs.Known.{untouched_agree}
use Rattle.apply_deed.proofs.FourParts.{four_keys, four_values}
use Rattle.apply_deed.proofs.Forward.{forward_four, forward_own, forward_alone, forward_one, forward_run}

-- the records that are shown lie before n, and are those of the two slices
module _ {l : List Record} {past : ℕ} {ks bs : List ℕ} {at n : ℕ} (s : Showing l past ks bs at n) where
  pub shown_within : 0 < length l → at + length l ≤ n
  shown_within some =
      let d = ap length s.is in
      let e = length-drop at (records_of ks bs n) in
      let f = records-length ks bs n s.in_keys s.in-bits in
      let g = length-append l s.rest in
      omega arith

  shown_run : 0 < length l → paired (take (length l) (drop at ks)) (take (length l) (drop at bs)) ≡ l
  shown_run some = sym (records_run ks bs n at (length l) (shown_within some)) ∙ ap (take (length l)) s.is ∙ take_at l s.rest (length l) refl

  long : (x : List ℕ) → n ≤ length x → 0 < length l → length (take (length l) (drop at x)) ≡ length l
  long x h some = let w = shown_within some in let d = length-drop at x in length-take-le (length l) (drop at x) (omega arith)

  pub shown_keys : 0 < length l → take (length l) (drop at ks) ≡ keys_of l
  shown_keys some = sym (paired_keys _ _ (long ks s.in_keys some ∙ sym (long bs s.in-bits some))) ∙ ap keys_of (shown_run some)

  pub shown_values : 0 < length l → take (length l) (drop at bs) ≡ values_of l
  shown_values some = sym (paired_values _ _ (long ks s.in_keys some ∙ sym (long bs s.in-bits some))) ∙ ap values_of (shown_run some)

-- forward by another name
forward_at : {new new' before after after' : List ℕ} {place next next' : ℕ} → new ≡ new' → next ≡ next' → after ≡ after' → Forward new before place next after → Forward new' before place next' after'
forward_at e f g h = rw (e, f, g) at h

-- one record is left
module _ (t : Step) (p : Picture) (k r c κ : ℕ) {ks bs ks' bs' : List ℕ} {at n place union count next place' value : ℕ}
    (s : ShowingBlock p (block_at k r c κ) ks bs at n) (order : place ≤ at) (left : pruned p (step_over t p) k r c κ ≡ record_of κ value ∷ []) where
  pub one_left : Tallied (step_over t p) k r c union count → next ≡ at + length (list_of p k r c κ) → place' ≡ place + 1 → ks' ≡ set ks place κ → bs' ≡ set bs place value
      → ShrunkAt t p (block_at k r c κ) ks bs at place ks' bs' union count next place'
  one_left told e f g h =
      let some = list_some p k r c κ in
      let w = shown_within s some in
      record {
        tallied = told;
        next-is = e;
        place_is = f ∙ ap (λ l. place + length l) (sym left);
        keys_are = forward_at (sym (ap keys_of left)) refl (sym g) (forward_one κ (omega arith) (omega (arith, s.in_keys)));
        bits_are = forward_at (sym (ap values_of left)) refl (sym h) (forward_one value (omega arith) (omega (arith, s.in-bits)));
      }

-- a block that the step does not touch stays as it is
module _ (t : Step) (p : Picture) (k r c κ : ℕ) {ks bs ks' bs' : List ℕ} {at n place union count next place' : ℕ}
    (s : ShowingBlock p (block_at k r c κ) ks bs at n) (order : place ≤ at) (told : Tallied (step_over t p) k r c union count) (next-is : next ≡ at + length (list_of p k r c κ)) where
  pub apart_left : Untouched t k r c → place' ≡ place + (next - at)
      → ks' ≡ sets ks place (take (next - at) (drop at ks)) → bs' ≡ sets bs place (take (next - at) (drop at bs))
      → ShrunkAt t p (block_at k r c κ) ks bs at place ks' bs' union count next place'
  apart_left apart f g h =
      let is = pruned_apart p (step_over t p) k r c κ (untouched_agree t p k r c apart) in
      let some = list_some p k r c κ in
      let w = shown_within s some in
      let many : next - at ≡ length (list_of p k r c κ) = omega arith in
      record {
        tallied = told;
        next-is = next-is;
        place_is = f ∙ ap (λ x. place + x) many ∙ ap (λ l. place + length l) (sym is);
        keys_are = forward_at (shown_keys s some ∙ ap keys_of (sym is)) (sym next-is) (ap (λ x. sets ks place (take x (drop at ks))) (sym many) ∙ sym g)
            (forward_run ks at (length (list_of p k r c κ)) place order (omega (arith, s.in_keys)));
        bits_are = forward_at (shown_values s some ∙ ap values_of (sym is)) (sym next-is) (ap (λ x. sets bs place (take x (drop at bs))) (sym many) ∙ sym h)
            (forward_run bs at (length (list_of p k r c κ)) place order (omega (arith, s.in-bits)));
      }

  -- one that becomes a leaf is one record
  pub leaf_left : (bits : ℕ) → OneLeaf t k r c bits → place' ≡ place + 1 → ks' ≡ set ks place κ → bs' ≡ set bs place bits
      → ShrunkAt t p (block_at k r c κ) ks bs at place ks' bs' union count next place'
  leaf_left bits one f g h =
      one_left t p k r c κ s order (pruned_one p (step_over t p) k r c κ (single k (one p).count-is)) told next-is f g
      (h ∙ ap (set bs place) (one p).bits_are)
    where
      single : (k : ℕ) → 1 ≡ length (list_of (step_over t p) k r c 0) → one_feature (step_over t p) k r c ≡ true
      single zero h = one_pixel (step_over t p) r c
      single (suc k) h = decide (one_feature (step_over t p) (suc k) r c) (λ one. one) (λ several. let n = length-several (step_over t p) k r c 0 several in absurd (omega arith))

  -- either, by the meeting
  pub whole_left : (meeting : Meeting) {lks lvs : List ℕ} → Met t lks lvs (block_at k r c κ) meeting → is_decided meeting ≡ true
      → KeptForward meeting κ ks bs at next place ks' bs' place'
      → ShrunkAt t p (block_at k r c κ) ks bs at place ks' bs' union count next place'
  whole_left Apart m w x = apart_left m.told x.place_is x.keys_are x.bits_are
  whole_left (Leaf bits) m w x = leaf_left bits m.told x.place_is x.keys_are x.bits_are
  whole_left (Content start count) m w x = absurd (true≢false (sym w))
  whole_left Cut m w x = absurd (true≢false (sym w))

  -- a leaf
  pub single_left : (own : ℕ) → own ≡ bits_of p k r c → one_slot own ≡ true → LeafShrunk t own (block_at k r c κ) ks bs at place ks' bs' union count next place'
      → ShrunkAt t p (block_at k r c κ) ks bs at place ks' bs' union count next place'
  single_left own o one x =
      one_left t p k r c κ s order (pruned_same p (plain (feature_of own)) (step_over t p) (step_over t (plain (feature_of own))) k r c κ plain_is over_is ∙ x.left)
      told
      next-is
      x.place_is
      x.keys_are
      x.bits_are
    where
      uniform : one_feature p k r c ≡ true
      uniform = sym (slot_feature p k r c) ∙ ap one_slot (sym o) ∙ one

      feature : feature_of own ≡ p r c
      feature = ap feature_of (o ∙ bits_one p k r c uniform) ∙ feature_of_power (p r c)

      plain_is : Agree p (plain (feature_of own)) k r c
      plain_is a b w = one_to p k r c uniform a b w ∙ sym feature

      over_is : Agree (step_over t p) (step_over t (plain (feature_of own))) k r c
      over_is a b w = sym (leaf_before t p k r c uniform a b w) ∙ ap (λ g. step_over t (plain g) a b) (sym feature)

-- a meeting that decides has no quadrants to be asked
pub decided_whole : (meeting : Meeting) → is_decided meeting ≡ true → is_cut meeting ≡ false
decided_whole Apart w = refl
decided_whole (Leaf bits) w = refl
decided_whole (Content start count) w = refl
decided_whole Cut w = absurd (true≢false (sym w))

-- what `keep` leaves, by the meeting
pub kept_apart : (meeting : Meeting) {κ : ℕ} {ks bs ks' bs' : List ℕ} {at next place : ℕ} → meeting ≡ Apart
    → ks' ≡ sets ks place (take (next - at) (drop at ks)) → bs' ≡ sets bs place (take (next - at) (drop at bs))
    → KeptForward meeting κ ks bs at next place ks' bs' (place + (next - at))
kept_apart meeting {κ} {ks} {bs} {ks'} {bs'} {at} {next} {place} e g h =
    subst (λ x. KeptForward x κ ks bs at next place ks' bs' (place + (next - at))) (sym e)
    (record { place_is = refl; keys_are = g; bits_are = h })

pub kept_leaf : (meeting : Meeting) {κ bits : ℕ} {ks bs : List ℕ} {at next place : ℕ} → meeting ≡ Leaf bits
    → KeptForward meeting κ ks bs at next place (set ks place κ) (set bs place bits) (place + 1)
kept_leaf meeting {κ} {bits} {ks} {bs} {at} {next} {place} e =
    subst (λ x. KeptForward x κ ks bs at next place (set ks place κ) (set bs place bits) (place + 1)) (sym e)
    (record { place_is = refl; keys_are = refl; bits_are = refl })

-- what `shrink_own` leaves, by the slots of the union
module _ {κ union : ℕ} {ks bs : List ℕ} {place last : ℕ} where
  pub own_one : one_slot union ≡ true → OwnShrunk κ union ks bs place last (set ks place κ) (set bs place union) (place + 1)
  own_one e = record { place_is = rw e refl; keys_are = refl; bits_are = refl }

  pub own_several : one_slot union ≡ false → OwnShrunk κ union ks bs place last (set ks place κ) (set bs place union) last
  own_several e = record { place_is = rw e refl; keys_are = refl; bits_are = refl }

-- what is left of a leaf by itself: the leaf after the step where it stays one record, else the leaf before it
leaf_value : (t : Step) (own : ℕ) {k r c κ bits count : ℕ} → one_slot own ≡ true → Tallied (step_over t (plain (feature_of own))) k r c bits count
    → pruned (plain (feature_of own)) (step_over t (plain (feature_of own))) k r c κ ≡ record_of κ (cond (eqb count 1) bits own) ∷ []
leaf_value t own {k} {r} {c} {κ} {bits} {count} one x = go k x
  where
    go : (k : ℕ) → Tallied (step_over t (plain (feature_of own))) k r c bits count
        → pruned (plain (feature_of own)) (step_over t (plain (feature_of own))) k r c κ ≡ record_of κ (cond (eqb count 1) bits own) ∷ []
    go zero x =
        let e : count ≡ 1 = x.count-is ∙ ap length (list_one (step_over t (plain (feature_of own))) zero r c 0 (one_pixel (step_over t (plain (feature_of own))) r c)) in
        rw (eq-eqb count 1 e) (pruned_one (plain (feature_of own)) (step_over t (plain (feature_of own))) zero r c κ (one_pixel (step_over t (plain (feature_of own))) r c) ∙ ap (λ b. record_of κ b ∷ []) (sym x.bits_are))
    go (suc k) x =
        decide (one_feature (step_over t (plain (feature_of own))) (suc k) r c)
        (λ e.
        let f : count ≡ 1 = x.count-is ∙ ap length (list_one (step_over t (plain (feature_of own))) (suc k) r c 0 e) in
        rw (eq-eqb count 1 f) (pruned_one (plain (feature_of own)) (step_over t (plain (feature_of own))) (suc k) r c κ e ∙ ap (λ b. record_of κ b ∷ []) (sym x.bits_are)))
        (λ e.
        let n = length-several (step_over t (plain (feature_of own))) k r c 0 e in
        let uniform = one_from_leaf (plain (feature_of own)) (feature_of own) (suc k) r c (λ a b w. refl) in
        rw (ne_eqb count 1 (λ z. omega (arith, x.count-is)))
        (pruned_leaf (plain (feature_of own)) (step_over t (plain (feature_of own))) k r c κ e uniform
        ∙ ap (λ b. record_of κ b ∷ []) (bits_one (plain (feature_of own)) (suc k) r c uniform ∙ sym (one_slot_power own one))))

pub leaf_shrunk : (t : Step) (own : ℕ) {k r c κ bits count value : ℕ} {ks bs : List ℕ} {at place : ℕ} → one_slot own ≡ true
    → Tallied (step_over t (plain (feature_of own))) k r c bits count → value ≡ cond (eqb count 1) bits own
    → LeafShrunk t own (block_at k r c κ) ks bs at place (set ks place κ) (set bs place value) bits count (at + 1) (place + 1)
leaf_shrunk t own {κ = κ} {value = value} one x e = record {
  tallied = x;
  next-is = refl;
  place_is = refl;
  value = value;
  left = leaf_value t own one x ∙ ap (λ v. record_of κ v ∷ []) (sym e);
  keys_are = refl;
  bits_are = refl;
}

-- a node: its quadrants have shrunk, and its own record stands before them, or for them
module _ (t : Step) (p : Picture) (k r c κ : ℕ) {ks bs ks₁ bs₁ ks₂ bs₂ ks₃ bs₃ ks₄ bs₄ ks' bs' : List ℕ} {at n place u₁ u₂ u₃ u₄ m₁ m₂ m₃ m₄ n₁ n₂ n₃ n₄ i₁ i₂ i₃ i₄ union count place' : ℕ}
    (s : ShowingBlock p (block_at (suc k) r c κ) ks bs at n) (order : place ≤ at) (several : one_feature p (suc k) r c ≡ false)
    (h₁ : ShrunkAt t p (block_at k r c (child_key κ k 1)) ks bs (at + 1) (place + 1) ks₁ bs₁ u₁ m₁ n₁ i₁)
    (h₂ : ShrunkAt t p (block_at k r (c + 2 ^ k) (child_key κ k 2)) ks₁ bs₁ n₁ i₁ ks₂ bs₂ u₂ m₂ n₂ i₂)
    (h₃ : ShrunkAt t p (block_at k (r + 2 ^ k) c (child_key κ k 3)) ks₂ bs₂ n₂ i₂ ks₃ bs₃ u₃ m₃ n₃ i₃)
    (h₄ : ShrunkAt t p (block_at k (r + 2 ^ k) (c + 2 ^ k) (child_key κ k 4)) ks₃ bs₃ n₃ i₃ ks₄ bs₄ u₄ m₄ n₄ i₄)
    (j : Joined (union_of_four u₁ u₂ u₃ u₄) (m₁ + (m₂ + (m₃ + m₄))) union count)
    (o : OwnShrunk κ union ks₄ bs₄ place i₄ ks' bs' place') where
  P₁ : List Record
  P₁ = pruned p (step_over t p) k r c (child_key κ k 1)

  P₂ : List Record
  P₂ = pruned p (step_over t p) k r (c + 2 ^ k) (child_key κ k 2)

  P₃ : List Record
  P₃ = pruned p (step_over t p) k (r + 2 ^ k) c (child_key κ k 3)

  P₄ : List Record
  P₄ = pruned p (step_over t p) k (r + 2 ^ k) (c + 2 ^ k) (child_key κ k 4)

  told : Tallied (step_over t p) (suc k) r c union count
  told = tallied_four (step_over t p) k (2 ^ k) r c refl h₁.tallied h₂.tallied h₃.tallied h₄.tallied j

  next_place : n₄ ≡ at + length (list_of p (suc k) r c κ)
  next_place = let l = length-node p k r c κ several in omega (arith, h₁.next-is, h₂.next-is, h₃.next-is, h₄.next-is)

  up₁ : n₁ ≤ n₂
  up₁ = omega (arith, h₂.next-is)

  up₂ : n₂ ≤ n₃
  up₂ = omega (arith, h₃.next-is)

  up₃ : n₃ ≤ n₄
  up₃ = omega (arith, h₄.next-is)

  all_keys : Forward (keys_of P₁ ++ (keys_of P₂ ++ (keys_of P₃ ++ keys_of P₄))) ks (place + 1) n₄ ks₄
  unfolding P₁ P₂ P₃ P₄
  all_keys = forward_four (keys_of P₁) (keys_of P₂) (keys_of P₃) (keys_of P₄) h₁.keys_are h₂.keys_are h₃.keys_are h₄.keys_are
      (h₁.place_is ∙ ap (λ x. place + 1 + x) (sym (length-map P₁ (λ x. x.key))))
      (h₂.place_is ∙ ap (λ x. i₁ + x) (sym (length-map P₂ (λ x. x.key))))
      (h₃.place_is ∙ ap (λ x. i₂ + x) (sym (length-map P₃ (λ x. x.key)))) up₁ up₂ up₃

  all_values : Forward (values_of P₁ ++ (values_of P₂ ++ (values_of P₃ ++ values_of P₄))) bs (place + 1) n₄ bs₄
  unfolding P₁ P₂ P₃ P₄
  all_values = forward_four (values_of P₁) (values_of P₂) (values_of P₃) (values_of P₄) h₁.bits_are h₂.bits_are h₃.bits_are h₄.bits_are
      (h₁.place_is ∙ ap (λ x. place + 1 + x) (sym (length-map P₁ (λ x. x.value))))
      (h₂.place_is ∙ ap (λ x. i₁ + x) (sym (length-map P₂ (λ x. x.value))))
      (h₃.place_is ∙ ap (λ x. i₂ + x) (sym (length-map P₃ (λ x. x.value)))) up₁ up₂ up₃

  quadrants : one_feature (step_over t p) (suc k) r c ≡ false → pruned p (step_over t p) (suc k) r c κ ≡ record_of κ (bits_of (step_over t p) (suc k) r c) ∷ (P₁ ++ (P₂ ++ (P₃ ++ P₄)))
  unfolding P₁ P₂ P₃ P₄
  quadrants more = pruned_node p (step_over t p) k r c κ more several

  last : length (pruned p (step_over t p) (suc k) r c κ) ≡ suc (length P₁ + (length P₂ + (length P₃ + length P₄))) → i₄ ≡ place + length (pruned p (step_over t p) (suc k) r c κ)
  unfolding P₁ P₂ P₃ P₄
  last size = omega (arith, size, h₁.place_is, h₂.place_is, h₃.place_is, h₄.place_is)

  pub node_left : ShrunkAt t p (block_at (suc k) r c κ) ks bs at place ks' bs' union count n₄ place'
  node_left = decide (one_feature (step_over t p) (suc k) r c) merged kept
    where
      inside : (place < n₄) × (place < length ks) × (place < length bs)
      inside =
          let some = list_some p (suc k) r c κ in
          let w = shown_within s some in
          let z = next_place in
          omega (arith, s.in_keys, s.in-bits)

      merged : one_feature (step_over t p) (suc k) r c ≡ true → ShrunkAt t p (block_at (suc k) r c κ) ks bs at place ks' bs' union count n₄ place'
      merged one =
          let left = pruned_one p (step_over t p) (suc k) r c κ one in
          record {
            tallied = told;
            next-is = next_place;
            place_is = o.place_is ∙ ap (λ x. cond x (place + 1) i₄) (ap one_slot told.bits_are ∙ slot_feature (step_over t p) (suc k) r c ∙ one) ∙ ap (λ l. place + length l) (sym left);
            keys_are = forward_at (sym (ap keys_of left)) refl (sym o.keys_are) (forward_alone κ _ inside.0 inside.1 all_keys);
            bits_are = forward_at (sym (ap values_of left)) refl (sym (o.bits_are ∙ ap (set bs₄ place) told.bits_are)) (forward_alone (bits_of (step_over t p) (suc k) r c) _ inside.0 inside.2 all_values);
          }

      kept : one_feature (step_over t p) (suc k) r c ≡ false → ShrunkAt t p (block_at (suc k) r c κ) ks bs at place ks' bs' union count n₄ place'
      kept more =
          let left : pruned p (step_over t p) (suc k) r c κ ≡ record_of κ (bits_of (step_over t p) (suc k) r c) ∷ (P₁ ++ (P₂ ++ (P₃ ++ P₄))) = quadrants more in
          let size : length (pruned p (step_over t p) (suc k) r c κ) ≡ suc (length P₁ + (length P₂ + (length P₃ + length P₄))) = ap length left ∙ simp length-append in
          record {
            tallied = told;
            next-is = next_place;
            place_is = o.place_is ∙ ap (λ x. cond x (place + 1) i₄) (ap one_slot told.bits_are ∙ slot_feature (step_over t p) (suc k) r c ∙ more) ∙ last size;
            keys_are = forward_at (sym (ap keys_of left ∙ ap (λ l. κ ∷ l) (four_keys P₁ P₂ P₃ P₄))) refl (sym o.keys_are) (forward_own κ _ inside.0 inside.1 all_keys);
            bits_are = forward_at (sym (ap values_of left ∙ ap (λ l. bits_of (step_over t p) (suc k) r c ∷ l) (four_values P₁ P₂ P₃ P₄))) refl (sym (o.bits_are ∙ ap (set bs₄ place) told.bits_are))
                (forward_own (bits_of (step_over t p) (suc k) r c) _ inside.0 inside.2 all_values);
          }
