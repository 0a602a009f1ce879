-- Bounds for the loops: the blocks around a key stay below 5 ^ m, climbing goes up by at most the levels there are, and the digit of a block in
-- its parent is 1 to 4. Rests on Family and Plant.
use Prim.Native.Nat.{ℕ, zero, suc, ◌+◌, ◌^◌, ◌≤◌, ◌<◌}
use mathlib.Core.Path.{◌≡◌, ◌∙◌, ap, subst}
use mathlib.Core.Bool.{true}
use mathlib.Core.List.{List}
use native.Mathlib.Omega.{arith}
use lib.Dec.{eqb}
use Rattle.keys.specs.Key.{valid_key, height_of}
use Rattle.keys.proofs.Cases.{decide, equal}
use Rattle.keys.proofs.Under.{quadrant_under}
use Rattle.keys.proofs.Interval.{within}
use Rattle.keys.proofs.Pixel.{InKeys}
use Rattle.keys.proofs.Valid.{valid_block, block_valid}
use Rattle.definitions.specs.List.{Record}
use Rattle.replace.specs.Family.{around, parent_bits}
use Rattle.replace.specs.Climb.{climb}
use Rattle.replace.specs.Plant.{digit_at}
use Rattle.replace.proofs.Way.{Way, there, up, way_of, under_of}
use Rattle.replace.proofs.Family.{around_is, keys_up}
use Rattle.replace.proofs.Climb.{climb_zero, climb_on, climb_ends}
use Rattle.replace.proofs.Plant.{digit_at_block}
use Rattle.replace.proofs.Field.{digit_bounds}
use Rattle.replace.proofs.Choice.{own_key}

-- climbing ends at the height where it began or above it, by at most so many levels
pub climb_bounds : (l : List Record) (κ b n h : ℕ) → (h ≤ climb l κ b n h) × (climb l κ b n h ≤ n + h)
climb_bounds l κ b zero h = let e = climb_zero l κ b h in omega arith
climb_bounds l κ b (suc n) h =
    let i = climb_bounds l κ b n (suc h) in
    decide (eqb (parent_bits l κ b h) b) (λ t. let e = climb_on l κ b n h t in omega arith) (λ t. let e = climb_ends l κ b n h t in omega arith)

-- the block of height h around a key is one of the map
pub record Level (m κ h : ℕ) : Type 0 where
  pub row : ℕ
  pub column : ℕ
  pub key : ℕ
  pub way : Way m 0 0 0 h row column key
  pub holds : InKeys h key κ

level_here : {m k r c κ x : ℕ} → Way m 0 0 0 k r c κ → InKeys k κ x → Level m x k
level_here {r = r} {c} {κ} w i = record { row = r; column = c; key = κ; way = w; holds = i }

level_from : {m k r c κ x : ℕ} → Way m 0 0 0 k r c κ → (h : ℕ) → k ≤ h → h ≤ m → InKeys k κ x → Level m x h
level_from {m} {x = x} there h low high i = let e : m ≡ h = omega arith in subst (Level m x) e (level_here there i)
level_from {m} {k} {x = x} (up q w) h low high i =
    equal k h (λ e. subst (Level m x) e (level_here (up q w) i)) (λ n. level_from w h (omega arith) high (keys_up (quadrant_under q) i))

-- so it is at every height from a valid key's own to the root's
pub level : (m κ h : ℕ) → valid_key m κ ≡ true → height_of m κ ≤ h → h ≤ m → Level m κ h
level m κ h valid low high = level_from (way_of (valid_block m κ valid)) h low high (own_key (height_of m κ) κ)

module _ {m κ h : ℕ} (y : Level m κ h) where
  -- its key is valid
  pub level_valid : valid_key m (around h κ) ≡ true
  level_valid = ap (valid_key m) (around_is (under_of y.way) y.holds) ∙ (block_valid (under_of y.way)).valid

  -- its height is h
  pub level_height : height_of m (around h κ) ≡ h
  level_height = ap (height_of m) (around_is (under_of y.way) y.holds) ∙ (block_valid (under_of y.way)).height

  -- its end is at most the map's
  pub level_until : around h κ + 5 ^ h ≤ 5 ^ m
  level_until = let e = around_is (under_of y.way) y.holds in let f = within (under_of y.way) in omega arith

-- below the root its digit is 1 to 4
pub level_digit : {m κ h : ℕ} → Level m κ h → h < m → (1 ≤ digit_at h κ) × (digit_at h κ ≤ 4)
level_digit {m} {κ} {h} y low = go y.way y.holds low
  where
    go : {k r c x : ℕ} → Way m 0 0 0 k r c x → InKeys k x κ → k < m → (1 ≤ digit_at k κ) × (digit_at k κ ≤ 4)
    go there i low = absurd (omega arith)
    go (up q w) i low = let e = digit_at_block (under_of w) q i in let d = digit_bounds q in omega arith
