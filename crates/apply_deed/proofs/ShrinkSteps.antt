-- What the calls of `shrink` ask of one another, and what they give together. Rests on ShrinkLaws, ShownBlocks and TallySteps.
use Prim.Native.Nat.{ℕ, suc, ◌+◌, ◌-◌, ◌^◌, ◌≤◌, ◌<◌}
use mathlib.Core.Path.{◌≡◌, refl, ◌∙◌}
use mathlib.Core.Bool.{true, false}
use mathlib.Core.List.{List, ◌++◌}
use native.Mathlib.Omega.{arith}
use lib.ListN.{length, get_or, take, drop}
use Rattle.keys.specs.Key.{child_key}
use Rattle.keys.specs.Child.{child_of}
use Rattle.keys.specs.declared.block.TreeBlock.{TreeBlock}
use Rattle.keys.proofs.BlockChild.{one_higher, in_child}
use Rattle.keys.proofs.Interval.{within}
use Rattle.definitions.specs.Picture.{Picture, one_feature}
use Rattle.definitions.specs.Bits.{union_of_four}
use Rattle.laws.proofs.ListOf.{list_some}
use Rattle.list.specs.Check.{one_slot}
use Rattle.list.specs.Among.{keys_below}
use Rattle.build.specs.BuildBlocks.{Joined}
use Rattle.build.specs.declared.count.Tally.{Tally}
use Rattle.build.proofs.CountBlock.{tallied_small}
use Rattle.deeds.specs.Step.{Step, step_over}
use Rattle.deeds.specs.Meeting.{block_at, Met}
use Rattle.deeds.specs.declared.meeting.Meeting.{Meeting}
use Rattle.deeds.proofs.Pruned.{pruned_before}
use Rattle.apply_deed.specs.Passes.{Showing, ShowingBlock, StepCounted, EndAsked, PassedOver}
use Rattle.apply_deed.specs.Shrink.{ShrinkAsked, ShrunkAt, Shrinks, KeepAsked, KeptForward, OneAsked, LeafShrunk, OwnShrunk, is_decided}
use Rattle.apply_deed.proofs.ShownBlocks.{showing_same, shown_some, shown_own, shown_several, shown_positive, L₁, L₂, L₃, L₄, End, node_quadrants, quadrant_nw, behind_nw, quadrant_ne, behind_ne, quadrant_sw, behind_sw, quadrant_se}
use Rattle.apply_deed.proofs.BlockEnds.{end_asked, end_found}
use Rattle.apply_deed.proofs.TallySteps.{leaf_counted, over_counted}
use Rattle.apply_deed.proofs.ShrinkLaws.{shown_within, single_left, whole_left, node_left, decided_whole}

-- the quadrants of a node that is shown, each once those before it have shrunk
module _ (t : Step) (p : Picture) (k r c κ : ℕ) {ks bs : List ℕ} {at n place : ℕ} (s : ShowingBlock p (block_at (suc k) r c κ) ks bs at n) (order : place ≤ at)
    (several : one_feature p (suc k) r c ≡ false) where
  all : Showing (L₁ p k r c κ ++ (L₂ p k r c κ ++ (L₃ p k r c κ ++ L₄ p k r c κ))) (End p k r c κ) ks bs (at + 1) n
  all = node_quadrants p k r c κ several s

  pub shows_nw : ShowingBlock p (block_at k r c (child_key κ k 1)) ks bs (at + 1) n
  shows_nw = quadrant_nw p k r c κ all

  module _ {ks₁ bs₁ : List ℕ} {u₁ m₁ n₁ i₁ : ℕ} (h₁ : Shrinks t (block_at k r c (child_key κ k 1)) ks bs (at + 1) n (place + 1) ks₁ bs₁ u₁ m₁ n₁ i₁) where
    one : ShrunkAt t p (block_at k r c (child_key κ k 1)) ks bs (at + 1) (place + 1) ks₁ bs₁ u₁ m₁ n₁ i₁
    one = h₁.holds p shows_nw

    rest₁ : Showing (L₂ p k r c κ ++ (L₃ p k r c κ ++ L₄ p k r c κ)) (End p k r c κ) ks₁ bs₁ n₁ n
    rest₁ = let o = one in showing_same o.keys_are.size o.bits_are.size o.keys_are.behind o.bits_are.behind (behind_nw p k r c κ o.next-is all)

    pub order₁ : i₁ ≤ n₁
    order₁ = let o = one in let b = pruned_before p (step_over t p) k r c (child_key κ k 1) in omega (arith, o.place_is, o.next-is)

    pub shows_ne : ShowingBlock p (block_at k r (c + 2 ^ k) (child_key κ k 2)) ks₁ bs₁ n₁ n
    shows_ne = quadrant_ne p k r c κ rest₁

    module _ {ks₂ bs₂ : List ℕ} {u₂ m₂ n₂ i₂ : ℕ} (h₂ : Shrinks t (block_at k r (c + 2 ^ k) (child_key κ k 2)) ks₁ bs₁ n₁ n i₁ ks₂ bs₂ u₂ m₂ n₂ i₂) where
      two : ShrunkAt t p (block_at k r (c + 2 ^ k) (child_key κ k 2)) ks₁ bs₁ n₁ i₁ ks₂ bs₂ u₂ m₂ n₂ i₂
      two = h₂.holds p shows_ne

      rest₂ : Showing (L₃ p k r c κ ++ L₄ p k r c κ) (End p k r c κ) ks₂ bs₂ n₂ n
      rest₂ = let o = two in showing_same o.keys_are.size o.bits_are.size o.keys_are.behind o.bits_are.behind (behind_ne p k r c κ o.next-is rest₁)

      pub order₂ : i₂ ≤ n₂
      order₂ = let o = two in let h = order₁ in let b = pruned_before p (step_over t p) k r (c + 2 ^ k) (child_key κ k 2) in omega (arith, o.place_is, o.next-is)

      pub shows_sw : ShowingBlock p (block_at k (r + 2 ^ k) c (child_key κ k 3)) ks₂ bs₂ n₂ n
      shows_sw = quadrant_sw p k r c κ rest₂

      module _ {ks₃ bs₃ : List ℕ} {u₃ m₃ n₃ i₃ : ℕ} (h₃ : Shrinks t (block_at k (r + 2 ^ k) c (child_key κ k 3)) ks₂ bs₂ n₂ n i₂ ks₃ bs₃ u₃ m₃ n₃ i₃) where
        three : ShrunkAt t p (block_at k (r + 2 ^ k) c (child_key κ k 3)) ks₂ bs₂ n₂ i₂ ks₃ bs₃ u₃ m₃ n₃ i₃
        three = h₃.holds p shows_sw

        pub order₃ : i₃ ≤ n₃
        order₃ = let o = three in let h = order₂ in let b = pruned_before p (step_over t p) k (r + 2 ^ k) c (child_key κ k 3) in omega (arith, o.place_is, o.next-is)

        pub shows_se : ShowingBlock p (block_at k (r + 2 ^ k) (c + 2 ^ k) (child_key κ k 4)) ks₃ bs₃ n₃ n
        shows_se =
            let o = three in
            quadrant_se p k r c κ (showing_same o.keys_are.size o.bits_are.size o.keys_are.behind o.bits_are.behind (behind_sw p k r c κ o.next-is rest₂))

        module _ {ks₄ bs₄ : List ℕ} {u₄ m₄ n₄ i₄ : ℕ} (h₄ : Shrinks t (block_at k (r + 2 ^ k) (c + 2 ^ k) (child_key κ k 4)) ks₃ bs₃ n₃ n i₃ ks₄ bs₄ u₄ m₄ n₄ i₄) where
          four : ShrunkAt t p (block_at k (r + 2 ^ k) (c + 2 ^ k) (child_key κ k 4)) ks₃ bs₃ n₃ i₃ ks₄ bs₄ u₄ m₄ n₄ i₄
          four = h₄.holds p shows_se

          pub own_room : OneAsked ks₄ bs₄ place place
          own_room =
              let some = shown_some p (suc k) r c κ s in
              let a = one in
              let b = two in
              let d = three in
              let f = four in
              record {
                order = omega arith;
                in_keys = omega (arith, s.in_keys, a.keys_are.size, b.keys_are.size, d.keys_are.size, f.keys_are.size);
                in-bits = omega (arith, s.in-bits, a.bits_are.size, b.bits_are.size, d.bits_are.size, f.bits_are.size);
              }

          pub all_four : {ks' bs' : List ℕ} {union count place' : ℕ} → Joined (union_of_four u₁ u₂ u₃ u₄) (m₁ + (m₂ + (m₃ + m₄))) union count
              → OwnShrunk κ union ks₄ bs₄ place i₄ ks' bs' place'
              → ShrunkAt t p (block_at (suc k) r c κ) ks bs at place ks' bs' union count n₄ place'
          all_four j o = node_left t p k r c κ s order several one two three four j o

-- the same as the code asks for it, the quadrants told by their digits
module _ (t : Step) {m : ℕ} {b : TreeBlock} {at n place : ℕ} {ks bs : List ℕ} (a : ShrinkAsked m b ks bs at n place) (node : one_slot (get_or bs at 0) ≡ false) where
  pub positive : 0 < b.height
  positive = shown_positive a.shown node

  -- of whichever picture is shown
  module _ (p : Picture) (s : ShowingBlock p b ks bs at n) where
    above : ShowingBlock p (block_at (suc (b.height - 1)) b.row b.column b.key) ks bs at n
    above = let up = one_higher b positive in rw (← up) s

    several : one_feature p (suc (b.height - 1)) b.row b.column ≡ false
    several = shown_several p (suc (b.height - 1)) b.row b.column b.key above node

  abbrev P : Picture
  P = a.shown.picture

  S : ShowingBlock P (block_at (suc (b.height - 1)) b.row b.column b.key) ks bs at n
  S = above P a.shown.shown

  N : one_feature P (suc (b.height - 1)) b.row b.column ≡ false
  N = several P a.shown.shown

  asks : (d : ℕ) {q : TreeBlock} {next place' : ℕ} {ks' bs' : List ℕ} → q ≡ child_of b d → 1 ≤ d → d ≤ 4 → ShowingBlock P (child_of b d) ks' bs' next n → place' ≤ next
      → ShrinkAsked m q ks' bs' next n place'
  asks d e low high s order = rw e (record {
    shown = record { picture = P; deep = a.shown.deep; block = in_child b d a.shown.block positive low high; shown = s };
    order = order;
  })

  module _ {q₁ : TreeBlock} (e₁ : q₁ ≡ child_of b 1) where
    pub asks_nw : ShrinkAsked m q₁ ks bs (at + 1) n (place + 1)
    asks_nw = asks 1 e₁ (omega arith) (omega arith) (shows_nw t P _ _ _ _ S a.order N) (omega (arith, a.order))

    module _ {ks₁ bs₁ : List ℕ} {u₁ m₁ n₁ i₁ : ℕ} (h₁ : Shrinks t q₁ ks bs (at + 1) n (place + 1) ks₁ bs₁ u₁ m₁ n₁ i₁) {q₂ : TreeBlock} (e₂ : q₂ ≡ child_of b 2) where
      g₁ : Shrinks t (child_of b 1) ks bs (at + 1) n (place + 1) ks₁ bs₁ u₁ m₁ n₁ i₁
      g₁ = rw e₁ at h₁

      pub asks_ne : ShrinkAsked m q₂ ks₁ bs₁ n₁ n i₁
      asks_ne = asks 2 e₂ (omega arith) (omega arith) (shows_ne t P _ _ _ _ S a.order N g₁) (order₁ t P _ _ _ _ S a.order N g₁)

      module _ {ks₂ bs₂ : List ℕ} {u₂ m₂ n₂ i₂ : ℕ} (h₂ : Shrinks t q₂ ks₁ bs₁ n₁ n i₁ ks₂ bs₂ u₂ m₂ n₂ i₂) {q₃ : TreeBlock} (e₃ : q₃ ≡ child_of b 3) where
        g₂ : Shrinks t (child_of b 2) ks₁ bs₁ n₁ n i₁ ks₂ bs₂ u₂ m₂ n₂ i₂
        g₂ = rw e₂ at h₂

        pub asks_sw : ShrinkAsked m q₃ ks₂ bs₂ n₂ n i₂
        asks_sw = asks 3 e₃ (omega arith) (omega arith) (shows_sw t P _ _ _ _ S a.order N g₁ g₂) (order₂ t P _ _ _ _ S a.order N g₁ g₂)

        module _ {ks₃ bs₃ : List ℕ} {u₃ m₃ n₃ i₃ : ℕ} (h₃ : Shrinks t q₃ ks₂ bs₂ n₂ n i₂ ks₃ bs₃ u₃ m₃ n₃ i₃) {q₄ : TreeBlock} (e₄ : q₄ ≡ child_of b 4) where
          g₃ : Shrinks t (child_of b 3) ks₂ bs₂ n₂ n i₂ ks₃ bs₃ u₃ m₃ n₃ i₃
          g₃ = rw e₃ at h₃

          pub asks_se : ShrinkAsked m q₄ ks₃ bs₃ n₃ n i₃
          asks_se = asks 4 e₄ (omega arith) (omega arith) (shows_se t P _ _ _ _ S a.order N g₁ g₂ g₃) (order₃ t P _ _ _ _ S a.order N g₁ g₂ g₃)

          module _ {ks₄ bs₄ : List ℕ} {u₄ m₄ n₄ i₄ : ℕ} (h₄ : Shrinks t q₄ ks₃ bs₃ n₃ n i₃ ks₄ bs₄ u₄ m₄ n₄ i₄) where
            g₄ : Shrinks t (child_of b 4) ks₃ bs₃ n₃ n i₃ ks₄ bs₄ u₄ m₄ n₄ i₄
            g₄ = rw e₄ at h₄

            pub asks_own : OneAsked ks₄ bs₄ place place
            asks_own = own_room t P _ _ _ _ S a.order N g₁ g₂ g₃ g₄

            -- what joining the four asks
            pub asks_joined : (m₁ ≤ 5 ^ 9) × (m₂ ≤ 5 ^ 9) × (m₃ ≤ 5 ^ 9) × (m₄ ≤ 5 ^ 9)
            asks_joined =
                let w = within a.shown.block in
                let low : b.height - 1 ≤ 9 = omega (arith, w.height, a.shown.deep) in (
                  tallied_small (one t P _ _ _ _ S a.order N g₁).tallied low,
                  tallied_small (two t P _ _ _ _ S a.order N g₁ g₂).tallied low,
                  tallied_small (three t P _ _ _ _ S a.order N g₁ g₂ g₃).tallied low,
                  tallied_small (four t P _ _ _ _ S a.order N g₁ g₂ g₃ g₄).tallied low,
                )

            pub gives_node : {ks' bs' : List ℕ} {union count place' : ℕ} → Joined (union_of_four u₁ u₂ u₃ u₄) (m₁ + (m₂ + (m₃ + m₄))) union count
                → OwnShrunk b.key union ks₄ bs₄ place i₄ ks' bs' place'
                → Shrinks t b ks bs at n place ks' bs' union count n₄ place'
            gives_node j o = record {
              holds = λ p s. let up = one_higher b positive in rw up (all_four t p _ _ _ _ (above p s) a.order (several p s) g₁ g₂ g₃ g₄ j o);
            }

-- what is asked for a leaf, and for a block that one look settles
module _ {m k r c κ at n place : ℕ} {ks bs : List ℕ} (a : ShrinkAsked m (block_at k r c κ) ks bs at n place) where
  pub asked_room : (at < length ks) × (at < length bs)
  asked_room = let h = shown_some a.shown.picture k r c κ a.shown.shown in omega (arith, a.shown.shown.in_keys, a.shown.shown.in-bits)

  pub leaf_room : OneAsked ks bs at place
  leaf_room = let h = asked_room in record { order = a.order; in_keys = h.0; in-bits = h.1 }

  module _ {past : ℕ} (e : past ≡ κ + 5 ^ k) where
    pub asks_end : EndAsked ks at n past
    asks_end = end_asked a.shown.picture k r c κ a.shown.shown e

    pub asks_keep : {next : ℕ} → next ≡ at + keys_below past (take (n - at) (drop at ks)) → KeepAsked ks bs at next place
    asks_keep found =
        let p = a.shown.picture in
        let s = a.shown.shown in
        let z = end_found p k r c κ s e in
        let some = list_some p k r c κ in
        let w = shown_within s some in
        record { order = a.order; some = omega arith; in_keys = omega (arith, s.in_keys); in-bits = omega (arith, s.in-bits) }

-- what they give
module _ (t : Step) {m k r c κ at n place : ℕ} {ks bs ks' bs' : List ℕ} {next place' : ℕ} (a : ShrinkAsked m (block_at k r c κ) ks bs at n place) where
  pub gives_leaf : {union count : ℕ} → one_slot (get_or bs at 0) ≡ true → LeafShrunk t (get_or bs at 0) (block_at k r c κ) ks bs at place ks' bs' union count next place'
      → Shrinks t (block_at k r c κ) ks bs at n place ks' bs' union count next place'
  gives_leaf {union} {count} one x =
      let told : StepCounted t (block_at k r c κ) ks bs at n union count (at + 1) = leaf_counted t k r c κ one x.tallied in
      record {
        holds = λ p s. single_left t p k r c κ s a.order (told.tallied p s) (x.next-is ∙ told.passed p s) (get_or bs at 0) (shown_own p k r c κ s) one x;
      }

  pub gives_whole : {past : ℕ} {meeting : Meeting} {tally : Tally} {lks lvs : List ℕ} → past ≡ κ + 5 ^ k
      → Met t lks lvs (block_at k r c κ) meeting → is_decided meeting ≡ true → PassedOver meeting (get_or bs at 0) past at ks n lvs tally next
      → KeptForward meeting κ ks bs at next place ks' bs' place'
      → Shrinks t (block_at k r c κ) ks bs at n place ks' bs' tally.bits tally.count next place'
  gives_whole {meeting = meeting} {tally} e h w over x =
      let told : StepCounted t (block_at k r c κ) ks bs at n tally.bits tally.count next = over_counted h (decided_whole meeting w) refl e over in
      record { holds = λ p s. whole_left t p k r c κ s a.order (told.tallied p s) (told.passed p s) meeting h w x }
