-- Both lists between the quadrants of a block where not both have a leaf: in each quadrant both stand as they should, whether one goes on or waits.
-- Rests on OneList.
use Prim.Native.Nat.{ℕ, zero, suc, ◌+◌, ◌/◌, ◌^◌, ◌<◌}
use mathlib.Core.Path.{◌≡◌, refl}
use mathlib.Core.List.{List}
use native.Mathlib.Omega.{arith}
use Rattle.keys.specs.Key.{child_key}
use Rattle.keys.specs.Under.{Under, here, nw, ne, sw, se}
use Rattle.keys.proofs.SpanChild.{fifth_of}
use Rattle.definitions.specs.Picture.{Picture}
use Rattle.laws.proofs.Features.{below_under}
use Rattle.list.specs.Quadrants.{quadrant_row, quadrant_column}
use Rattle.combine.specs.Combining.{Seen, BothEntered, Passes, passed_to, AllPass, Named}
use Rattle.combine.specs.declared.cursor.Pair.{Pair}
use Rattle.combine.proofs.OneList.{WaitingQuarters, quarters_all, quarter_at, quarter_next, quarters_none}

-- a quadrant, numbered from 0, lies under its block
pub numbered_under : (k r c κ d : ℕ) → d < 4 → Under (suc k) r c κ k (quadrant_row d r (2 ^ k)) (quadrant_column d c (2 ^ k)) (child_key κ k (suc d))
unfolding quadrant_row quadrant_column
numbered_under k r c κ zero h = nw here
numbered_under k r c κ (suc zero) h = ne here
numbered_under k r c κ (suc (suc zero)) h = sw here
numbered_under k r c κ (suc (suc (suc zero))) h = se here
numbered_under k r c κ (suc (suc (suc (suc d)))) h = absurd (omega arith)

-- both lists stood at x before the block, and stand at y past the first d of its quadrants
pub record BetweenQuadrants (p q : Picture) (k r c κ : ℕ) (bits₁ bits₂ : List ℕ) (step : ℕ) (x y : Pair) (d : ℕ) : Type 0 where
  pub lower : step / 5 ≡ 5 ^ k
  pub first_quarters : WaitingQuarters p k r c κ bits₁ x.first y.first d
  pub second_quarters : WaitingQuarters q k r c κ bits₂ x.second y.second d

pub between_all : {p q : Picture} {k r c κ : ℕ} {bits₁ bits₂ : List ℕ} {step : ℕ} {x y : Pair} → Seen p q (suc k) r c κ bits₁ bits₂ step x → BothEntered bits₁ bits₂ x y
    → BetweenQuadrants p q k r c κ bits₁ bits₂ step x y 0
between_all {k = k} s e = record {
  lower = fifth_of k s.step_is;
  first_quarters = quarters_all s.first_at e.first_in;
  second_quarters = quarters_all s.second_at e.second_in;
}

module _ {p q : Picture} {k r c κ : ℕ} {bits₁ bits₂ : List ℕ} {step : ℕ} {x y : Pair} {d : ℕ} (b : BetweenQuadrants p q k r c κ bits₁ bits₂ step x y d) where
  -- both stand at the next quadrant
  pub between_seen : d < 4 → Seen p q k (quadrant_row d r (2 ^ k)) (quadrant_column d c (2 ^ k)) (child_key κ k (suc d)) bits₁ bits₂ (step / 5) y
  between_seen h =
      let u = numbered_under k r c κ d h in
      record { step_is = b.lower; first_at = quarter_at b.first_quarters h u; second_at = quarter_at b.second_quarters h u }

  -- and once it is passed at the one after it
  pub between_next : d < 4 → {z : Pair} → AllPass bits₁ bits₂ (step / 5) y z → BetweenQuadrants p q k r c κ bits₁ bits₂ step x z (d + 1)
  between_next h a =
      let n = a _ _ _ _ _ _ (between_seen h) in
      record { lower = b.lower; first_quarters = quarter_next b.first_quarters h n.first_next; second_quarters = quarter_next b.second_quarters h n.second_next }

  -- after all four the block is passed
  pub between_none : d ≡ 4 → {z : Pair} → z ≡ passed_to x y → Passes p q (suc k) r c κ x z
  between_none h e =
      rw e (record {
        first_next = record { same_leaf = refl; at_is = quarters_none b.first_quarters h };
        second_next = record { same_leaf = refl; at_is = quarters_none b.second_quarters h };
      })

-- the same block, its height known
pub seen_at : {p q : Picture} {k k' r c κ : ℕ} {bits₁ bits₂ : List ℕ} {step : ℕ} {x : Pair} → k ≡ k' → Seen p q k r c κ bits₁ bits₂ step x → Seen p q k' r c κ bits₁ bits₂ step x
seen_at e s = rw e at s

pub named_at : {p q : Picture} {k k' r c : ℕ} {table : List ℕ} {s₂ : ℕ} → k ≡ k' → Named p q k r c table s₂ → Named p q k' r c table s₂
named_at e n = rw e at n

-- the table has entries for the pairs of classes in each part
pub named_under : {p q : Picture} {k r c k' r' c' κ κ' : ℕ} {table : List ℕ} {s₂ : ℕ} → Under k r c κ k' r' c' κ' → Named p q k r c table s₂ → Named p q k' r' c' table s₂
named_under {p} {q} {s₂ = s₂} u n = record {
  slots = n.slots;
  few = n.few;
  few_second = n.few_second;
  long = n.long;
  classes = n.classes;
  firsts = below_under n.slots p u n.firsts;
  seconds = below_under s₂ q u n.seconds;
}
