-- What the calls of tally_records ask of one another, and what they give together. Rests on ShownBlocks, Known and build's CountBlock.
use Prim.Native.Nat.{ℕ, suc, ◌+◌, ◌-◌, ◌^◌, ◌≤◌}
use mathlib.Core.Path.{◌≡◌, refl, sym, ◌∙◌, ap}
use mathlib.Core.Bool.{true, false}
use mathlib.Core.List.{List, ◌++◌}
use native.Mathlib.Omega.{arith}
use lib.ListN.{length, get_or}
use Rattle.keys.specs.Key.{child_key}
use Rattle.keys.specs.Child.{child_of}
use Rattle.keys.specs.declared.block.TreeBlock.{TreeBlock}
use Rattle.keys.proofs.BlockChild.{one_higher, in_child}
use Rattle.definitions.specs.Picture.{Picture, one_feature}
use Rattle.definitions.specs.Bits.{bits_of, feature_of, union_of_four}
use Rattle.definitions.specs.List.{list_of}
use Rattle.laws.proofs.BitsOf.{bits_one, bits_agree}
use Rattle.laws.proofs.FeatureOf.{feature_of_power}
use Rattle.laws.proofs.ListOf.{list_one, list_agree, length-node}
use Rattle.list.specs.Check.{one_slot}
use Rattle.build.specs.BuildBlocks.{Tallied, Joined}
use Rattle.build.specs.declared.count.Tally.{Tally}
use Rattle.build.proofs.CountBlock.{tallied_four, tallied_small}
use Rattle.deeds.specs.Step.{Step, step_over, plain}
use Rattle.deeds.specs.Meeting.{block_at, Met, is_cut}
use Rattle.deeds.specs.declared.meeting.Meeting.{Meeting}
use Rattle.deeds.specs.Deed.{LeafAsked}
use Rattle.deeds.proofs.Pruned.{leaf_before}
use Rattle.apply_deed.specs.Passes.{Showing, ShowingBlock, Shown, StepCounted, PassedOver}
use Rattle.apply_deed.proofs.ShownBlocks.{L₁, L₂, L₃, L₄, End, shown_own, shown_one, shown_several, shown_positive, node_quadrants, quadrant_nw, quadrant_ne, quadrant_sw, quadrant_se, behind_nw, behind_ne, behind_sw}
use Rattle.apply_deed.proofs.BlockEnds.{end_found}
use Rattle.apply_deed.proofs.Known.{known_tallied}

-- a node of a picture that is shown, by its quadrants
module _ (t : Step) (p : Picture) (k r c κ : ℕ) {ks bs : List ℕ} {at n : ℕ} (s : ShowingBlock p (block_at (suc k) r c κ) ks bs at n) (several : one_feature p (suc k) r c ≡ false) where
  all : Showing (L₁ p k r c κ ++ (L₂ p k r c κ ++ (L₃ p k r c κ ++ L₄ p k r c κ))) (End p k r c κ) ks bs (at + 1) n
  all = node_quadrants p k r c κ several s

  pub count_nw : ShowingBlock p (block_at k r c (child_key κ k 1)) ks bs (at + 1) n
  count_nw = quadrant_nw p k r c κ all

  module _ {u₁ m₁ n₁ : ℕ} (h₁ : StepCounted t (block_at k r c (child_key κ k 1)) ks bs (at + 1) n u₁ m₁ n₁) where
    from_ne : Showing (L₂ p k r c κ ++ (L₃ p k r c κ ++ L₄ p k r c κ)) (End p k r c κ) ks bs n₁ n
    from_ne = behind_nw p k r c κ (h₁.passed p count_nw) all

    pub count_ne : ShowingBlock p (block_at k r (c + 2 ^ k) (child_key κ k 2)) ks bs n₁ n
    count_ne = quadrant_ne p k r c κ from_ne

    module _ {u₂ m₂ n₂ : ℕ} (h₂ : StepCounted t (block_at k r (c + 2 ^ k) (child_key κ k 2)) ks bs n₁ n u₂ m₂ n₂) where
      from_sw : Showing (L₃ p k r c κ ++ L₄ p k r c κ) (End p k r c κ) ks bs n₂ n
      from_sw = behind_ne p k r c κ (h₂.passed p count_ne) from_ne

      pub count_sw : ShowingBlock p (block_at k (r + 2 ^ k) c (child_key κ k 3)) ks bs n₂ n
      count_sw = quadrant_sw p k r c κ from_sw

      module _ {u₃ m₃ n₃ : ℕ} (h₃ : StepCounted t (block_at k (r + 2 ^ k) c (child_key κ k 3)) ks bs n₂ n u₃ m₃ n₃) where
        pub count_se : ShowingBlock p (block_at k (r + 2 ^ k) (c + 2 ^ k) (child_key κ k 4)) ks bs n₃ n
        count_se = quadrant_se p k r c κ (behind_sw p k r c κ (h₃.passed p count_sw) from_sw)

        module _ {u₄ m₄ n₄ : ℕ} (h₄ : StepCounted t (block_at k (r + 2 ^ k) (c + 2 ^ k) (child_key κ k 4)) ks bs n₃ n u₄ m₄ n₄) where
          pub four_tallied : {u count : ℕ} → Joined (union_of_four u₁ u₂ u₃ u₄) (m₁ + (m₂ + (m₃ + m₄))) u count → Tallied (step_over t p) (suc k) r c u count
          four_tallied j = tallied_four (step_over t p) k (2 ^ k) r c refl (h₁.tallied p count_nw) (h₂.tallied p count_ne) (h₃.tallied p count_sw) (h₄.tallied p count_se) j

          pub four_passed : n₄ ≡ at + length (list_of p (suc k) r c κ)
          four_passed =
              let l = length-node p k r c κ several in
              let a₁ = h₁.passed p count_nw in
              let a₂ = h₂.passed p count_ne in
              let a₃ = h₃.passed p count_sw in
              let a₄ = h₄.passed p count_se in
              omega arith

-- a leaf
pub leaf_counted : (t : Step) (k r c κ : ℕ) {ks bs : List ℕ} {at n union count : ℕ} → one_slot (get_or bs at 0) ≡ true
    → Tallied (step_over t (plain (feature_of (get_or bs at 0)))) k r c union count → StepCounted t (block_at k r c κ) ks bs at n union count (at + 1)
leaf_counted t k r c κ {ks} {bs} {at} {n} {union} {count} one told =
    record {
      tallied = λ p s. same p s (shown_one p k r c κ s one);
      passed = λ p s. ap (λ x. at + x) (sym (ap length (list_one p k r c κ (shown_one p k r c κ s one))));
    }
  where
    same : (p : Picture) → ShowingBlock p (block_at k r c κ) ks bs at n → one_feature p k r c ≡ true → Tallied (step_over t p) k r c union count
    same p s u =
        let g : feature_of (get_or bs at 0) ≡ p r c = ap feature_of (shown_own p k r c κ s ∙ bits_one p k r c u) ∙ feature_of_power (p r c) in
        let h = leaf_before t p k r c u in
        record {
          bits_are = told.bits_are ∙ ap (λ f. bits_of (step_over t (plain f)) k r c) g ∙ bits_agree (step_over t (plain (p r c))) (step_over t p) k r c h;
          count-is = told.count-is ∙ ap (λ f. length (list_of (step_over t (plain f)) k r c 0)) g ∙ ap length (list_agree (step_over t (plain (p r c))) (step_over t p) k r c 0 h);
        }

-- a block that is passed over
pub over_counted : {t : Step} {ks vs keys bs : List ℕ} {k r c κ at n own past next : ℕ} {meeting : Meeting} {tally : Tally}
    → Met t ks vs (block_at k r c κ) meeting → is_cut meeting ≡ false → own ≡ get_or bs at 0 → past ≡ κ + 5 ^ k
    → PassedOver meeting own past at keys n vs tally next
    → StepCounted t (block_at k r c κ) keys bs at n tally.bits tally.count next
over_counted {t} {ks} {vs} {keys} {bs} {k} {r} {c} {κ} {at} {n} {own} {past} {next} x cut is e h =
    record {
      tallied = λ p s. known_tallied p (is ∙ shown_own p k r c κ s) (let z = ends p s in omega arith) x cut h.tally_is;
      passed = ends;
    }
  where
    ends : (p : Picture) → ShowingBlock p (block_at k r c κ) keys bs at n → next ≡ at + length (list_of p k r c κ)
    ends p s = h.next-is ∙ ap (λ i. at + i) (end_found p k r c κ s e)

-- the same as the code asks for it, the quadrants told by their digits
module _ (t : Step) {m : ℕ} {b : TreeBlock} {at n : ℕ} {ks bs : List ℕ} (a : Shown m b ks bs at n) (node : one_slot (get_or bs at 0) ≡ false) where
  -- of whichever picture is shown
  module _ (p : Picture) (s : ShowingBlock p b ks bs at n) where
    above : ShowingBlock p (block_at (suc (b.height - 1)) b.row b.column b.key) ks bs at n
    above = let up = one_higher b (shown_positive a node) in rw (← up) s

    several : one_feature p (suc (b.height - 1)) b.row b.column ≡ false
    several = shown_several p (suc (b.height - 1)) b.row b.column b.key above node

  S : ShowingBlock a.picture (block_at (suc (b.height - 1)) b.row b.column b.key) ks bs at n
  S = above a.picture a.shown

  N : one_feature a.picture (suc (b.height - 1)) b.row b.column ≡ false
  N = several a.picture a.shown

  asks : (d : ℕ) {q : TreeBlock} {next : ℕ} → q ≡ child_of b d → 1 ≤ d → d ≤ 4 → ShowingBlock a.picture (child_of b d) ks bs next n → Shown m q ks bs next n
  asks d e low high s = rw e (record { picture = a.picture; deep = a.deep; block = in_child b d a.block (shown_positive a node) low high; shown = s })

  module _ {q₁ : TreeBlock} (e₁ : q₁ ≡ child_of b 1) where
    pub asks_nw : Shown m q₁ ks bs (at + 1) n
    asks_nw = asks 1 e₁ (omega arith) (omega arith) (count_nw t a.picture _ _ _ _ S N)

    module _ {u₁ m₁ n₁ : ℕ} (h₁ : StepCounted t q₁ ks bs (at + 1) n u₁ m₁ n₁) {q₂ : TreeBlock} (e₂ : q₂ ≡ child_of b 2) where
      g₁ : StepCounted t (child_of b 1) ks bs (at + 1) n u₁ m₁ n₁
      g₁ = rw e₁ at h₁

      pub asks_ne : Shown m q₂ ks bs n₁ n
      asks_ne = asks 2 e₂ (omega arith) (omega arith) (count_ne t a.picture _ _ _ _ S N g₁)

      module _ {u₂ m₂ n₂ : ℕ} (h₂ : StepCounted t q₂ ks bs n₁ n u₂ m₂ n₂) {q₃ : TreeBlock} (e₃ : q₃ ≡ child_of b 3) where
        g₂ : StepCounted t (child_of b 2) ks bs n₁ n u₂ m₂ n₂
        g₂ = rw e₂ at h₂

        pub asks_sw : Shown m q₃ ks bs n₂ n
        asks_sw = asks 3 e₃ (omega arith) (omega arith) (count_sw t a.picture _ _ _ _ S N g₁ g₂)

        module _ {u₃ m₃ n₃ : ℕ} (h₃ : StepCounted t q₃ ks bs n₂ n u₃ m₃ n₃) {q₄ : TreeBlock} (e₄ : q₄ ≡ child_of b 4) where
          g₃ : StepCounted t (child_of b 3) ks bs n₂ n u₃ m₃ n₃
          g₃ = rw e₃ at h₃

          pub asks_se : Shown m q₄ ks bs n₃ n
          asks_se = asks 4 e₄ (omega arith) (omega arith) (count_se t a.picture _ _ _ _ S N g₁ g₂ g₃)

          pub gives_node : {u₄ m₄ n₄ u count : ℕ} → StepCounted t q₄ ks bs n₃ n u₄ m₄ n₄ → Joined (union_of_four u₁ u₂ u₃ u₄) (m₁ + (m₂ + (m₃ + m₄))) u count
              → StepCounted t b ks bs at n u count n₄
          gives_node {u₄} {m₄} {n₄} h₄ j =
              let g₄ : StepCounted t (child_of b 4) ks bs n₃ n u₄ m₄ n₄ = rw e₄ at h₄ in
              let up = one_higher b (shown_positive a node) in
              record {
                tallied = λ p s. rw up (four_tallied t p _ _ _ _ (above p s) (several p s) g₁ g₂ g₃ g₄ j);
                passed = λ p s. rw up (four_passed t p _ _ _ _ (above p s) (several p s) g₁ g₂ g₃ g₄);
              }

-- a leaf that the list shows is asked for
pub leaf_shown : {m at n : ℕ} {b : TreeBlock} {ks bs : List ℕ} → Shown m b ks bs at n → (own : ℕ) → one_slot own ≡ true → LeafAsked m own b
leaf_shown a own one = record { deep = a.deep; block = a.block; leaf = one }

-- what a call asks for its tallies: a quadrant has few records
pub counted_small : {t : Step} {m at n u count next : ℕ} (b : TreeBlock) (d : ℕ) {q : TreeBlock} {ks bs : List ℕ} → q ≡ child_of b d → b.height ≤ 10
    → Shown m q ks bs at n → StepCounted t q ks bs at n u count next → count ≤ 5 ^ 9
counted_small b d e deep a h = let low = ap (λ x. x.height) e in tallied_small (h.tallied a.picture a.shown) (omega (arith, low))
