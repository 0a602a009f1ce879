-- The calls for the four quadrants of a block: what each asks, and what the four count together. Rests on BothLists and on build's laws of counting a
-- block.
use Prim.Native.Nat.{ℕ, zero, suc, ◌+◌, ◌-◌, ◌/◌, ◌^◌, ◌≤◌, ◌<◌}
use mathlib.Core.Path.{◌≡◌, refl}
use Rattle.std.specs.Prelude.{None}
use mathlib.Core.List.{List}
use native.Mathlib.Omega.{arith}
use lib.ListN.{length}
use Rattle.keys.specs.Key.{child_key}
use Rattle.keys.proofs.Powers.{five_pos}
use Rattle.definitions.specs.Picture.{Picture}
use Rattle.definitions.specs.Bits.{union_of_four}
use Rattle.definitions.specs.Combine.{combined}
use Rattle.list.proofs.Shown.{shown_room}
use Rattle.list.specs.Quadrants.{quadrant_row, quadrant_column}
use Rattle.build.specs.BuildBlocks.{Tallied, Joined}
use Rattle.build.proofs.CountBlock.{tallied_four, tallied_small}
use Rattle.combine.specs.Combining.{Seen, BothEntered, passed_to, AllPass, CombineAsked, CombinedCounted}
use Rattle.combine.specs.declared.cursor.Pair.{Pair}
use Rattle.combine.proofs.TwoLeaves.{not_both, pair_not_pixel, positive_height}
use Rattle.combine.proofs.BothLists.{BetweenQuadrants, between_all, between_seen, between_next, between_none, numbered_under, seen_at, named_at, named_under}

module _ {bits₁ bits₂ table : List ℕ} {s₂ step : ℕ} {x : Pair} (a : CombineAsked bits₁ bits₂ table s₂ step x) where
  -- a listed block has a record to read
  pub records_there : (x.first.leaf ≡ None → x.first.at < length bits₁) × (x.second.leaf ≡ None → x.second.at < length bits₂)
  records_there = ((λ z. shown_room (a.seen.first_at.listed z)), (λ z. shown_room (a.seen.second_at.listed z)))

  -- the step is more than that of the quadrants
  pub step_falls : step / 5 < step
  step_falls = let h = five_pos a.height in omega (arith, a.seen.step_is)

  -- both lists past the first d quadrants
  abbrev pub Going : Pair → ℕ → Type 0
  Going y d = BetweenQuadrants a.first a.second (a.height - 1) a.row a.column a.key bits₁ bits₂ step x y d

  module _ {y : Pair} (e : BothEntered bits₁ bits₂ x y) (n : not_both y) where
    pub one_higher : a.height ≡ suc (a.height - 1)
    one_higher = let h = positive_height a.height a.seen e n in omega arith

    pub going : Going y 0
    going = between_all (seen_at one_higher a.seen) e

    -- what the call for the next quadrant asks
    unfoldable pub asks : {z : Pair} {d : ℕ} → Going z d → d < 4 → CombineAsked bits₁ bits₂ table s₂ (step / 5) z
    asks {d = d} b h = record {
      first = a.first;
      second = a.second;
      height = a.height - 1;
      row = quadrant_row d a.row (2 ^ (a.height - 1));
      column = quadrant_column d a.column (2 ^ (a.height - 1));
      key = child_key a.key (a.height - 1) (suc d);
      deep = omega (arith, a.deep);
      seen = between_seen b h;
      named = named_under (numbered_under (a.height - 1) a.row a.column a.key d h) (named_at one_higher a.named);
    }

-- how both lists stand at the four, whichever pictures they show
pub record FourSeen (p q : Picture) (k r c κ : ℕ) (bits₁ bits₂ : List ℕ) (step : ℕ) (y₁ y₂ y₃ y₄ : Pair) : Type 0 where
  pub nw : Seen p q k r c (child_key κ k 1) bits₁ bits₂ (step / 5) y₁
  pub ne : Seen p q k r (c + 2 ^ k) (child_key κ k 2) bits₁ bits₂ (step / 5) y₂
  pub sw : Seen p q k (r + 2 ^ k) c (child_key κ k 3) bits₁ bits₂ (step / 5) y₃
  pub se : Seen p q k (r + 2 ^ k) (c + 2 ^ k) (child_key κ k 4) bits₁ bits₂ (step / 5) y₄

module _ {bits₁ bits₂ : List ℕ} {step : ℕ} {x y₁ y₂ y₃ y₄ : Pair} (e : BothEntered bits₁ bits₂ x y₁)
    (h₁ : AllPass bits₁ bits₂ (step / 5) y₁ y₂) (h₂ : AllPass bits₁ bits₂ (step / 5) y₂ y₃) (h₃ : AllPass bits₁ bits₂ (step / 5) y₃ y₄) where
  module _ {p q : Picture} {k r c κ : ℕ} (s : Seen p q (suc k) r c κ bits₁ bits₂ step x) where
    past_1 : BetweenQuadrants p q k r c κ bits₁ bits₂ step x y₂ 1
    past_1 = between_next (between_all s e) (omega arith) h₁

    past_2 : BetweenQuadrants p q k r c κ bits₁ bits₂ step x y₃ 2
    past_2 = between_next past_1 (omega arith) h₂

    past_3 : BetweenQuadrants p q k r c κ bits₁ bits₂ step x y₄ 3
    past_3 = between_next past_2 (omega arith) h₃

    pub four_seen : FourSeen p q k r c κ bits₁ bits₂ step y₁ y₂ y₃ y₄
    unfolding quadrant_row quadrant_column
    four_seen = record {
      nw = between_seen (between_all s e) (omega arith);
      ne = between_seen past_1 (omega arith);
      sw = between_seen past_2 (omega arith);
      se = between_seen past_3 (omega arith);
    }

  -- so the block is passed
  pub all_pass : {y₅ z : Pair} → not_both y₁ → AllPass bits₁ bits₂ (step / 5) y₄ y₅ → z ≡ passed_to x y₅ → AllPass bits₁ bits₂ step x z
  all_pass n h₄ f p q zero r c κ s = absurd (pair_not_pixel s e n)
  all_pass n h₄ f p q (suc k) r c κ s = between_none (between_next (past_3 s) (omega arith) h₄) refl f

-- the four counted
module _ {bits₁ bits₂ table : List ℕ} {s₂ step : ℕ} {x y₁ y₂ y₃ y₄ y₅ : Pair} {u₁ u₂ u₃ u₄ m₁ m₂ m₃ m₄ : ℕ} (e : BothEntered bits₁ bits₂ x y₁) (n : not_both y₁)
    (h₁ : CombinedCounted bits₁ bits₂ table s₂ (step / 5) y₁ u₁ m₁ y₂) (h₂ : CombinedCounted bits₁ bits₂ table s₂ (step / 5) y₂ u₂ m₂ y₃)
    (h₃ : CombinedCounted bits₁ bits₂ table s₂ (step / 5) y₃ u₃ m₃ y₄) (h₄ : CombinedCounted bits₁ bits₂ table s₂ (step / 5) y₄ u₄ m₄ y₅) where
  pub four_small : CombineAsked bits₁ bits₂ table s₂ step x → (m₁ ≤ 5 ^ 9) × (m₂ ≤ 5 ^ 9) × (m₃ ≤ 5 ^ 9) × (m₄ ≤ 5 ^ 9)
  four_small a =
      let s = four_seen e h₁.passes h₂.passes h₃.passes (seen_at (one_higher a e n) a.seen) in
      let low : a.height - 1 ≤ 9 = omega (arith, a.deep) in (
        tallied_small (h₁.tallied _ _ _ _ _ _ s.nw) low,
        tallied_small (h₂.tallied _ _ _ _ _ _ s.ne) low,
        tallied_small (h₃.tallied _ _ _ _ _ _ s.sw) low,
        tallied_small (h₄.tallied _ _ _ _ _ _ s.se) low,
      )

  module _ {u m : ℕ} (j : Joined (union_of_four u₁ u₂ u₃ u₄) (m₁ + (m₂ + (m₃ + m₄))) u m) where
    all_tallied : (p q : Picture) (k r c κ : ℕ) → Seen p q k r c κ bits₁ bits₂ step x → Tallied (combined p q table s₂) k r c u m
    all_tallied p q zero r c κ s = absurd (pair_not_pixel s e n)
    all_tallied p q (suc k) r c κ s =
        let f = four_seen e h₁.passes h₂.passes h₃.passes s in
        tallied_four (combined p q table s₂) k (2 ^ k) r c refl
        (h₁.tallied _ _ _ _ _ _ f.nw)
        (h₂.tallied _ _ _ _ _ _ f.ne)
        (h₃.tallied _ _ _ _ _ _ f.sw)
        (h₄.tallied _ _ _ _ _ _ f.se)
        j

    pub node_counted : {z : Pair} → z ≡ passed_to x y₅ → CombinedCounted bits₁ bits₂ table s₂ step x u m z
    node_counted f = record { passes = all_pass e h₁.passes h₂.passes h₃.passes n h₄.passes f; tallied = all_tallied }
