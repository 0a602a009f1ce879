-- The way up from a block to one around it, a level a step: loops that go from a block to the root are inductions on this type. Rests on Under.
use Prim.Native.Nat.{ℕ, zero, suc, ◌+◌}
use mathlib.Core.Path.{◌≡◌, refl}
use native.Mathlib.Omega.{arith}
use Rattle.keys.specs.Under.{Under, here, nw, ne, sw, se, Quadrant, is_nw, is_ne, is_sw, is_se}
use Rattle.keys.proofs.Under.{under_trans, quadrant_under}

-- Way K R C Κ k r c κ: from the block (k r c κ) up to the block (K R C Κ), which it is or lies in
pub data Way (K R C Κ : ℕ) : ℕ → ℕ → ℕ → ℕ → Type 0 where
  there : Way K R C Κ K R C Κ
  up : {k r c κ r' c' κ' : ℕ} → Quadrant k r c κ r' c' κ' → Way K R C Κ (suc k) r c κ → Way K R C Κ k r' c' κ'

-- the way to a quadrant is one to its block
further : {k r c κ r' c' κ' k₂ r₂ c₂ κ₂ : ℕ} → Quadrant k r c κ r' c' κ' → Way k r' c' κ' k₂ r₂ c₂ κ₂ → Way (suc k) r c κ k₂ r₂ c₂ κ₂
further q there = up q there
further q (up q' w) = up q' (further q w)

-- what lies under a block has a way up to it
pub way_of : {k r c κ k' r' c' κ' : ℕ} → Under k r c κ k' r' c' κ' → Way k r c κ k' r' c' κ'
way_of here = there
way_of (nw u) = further is_nw (way_of u)
way_of (ne u) = further is_ne (way_of u)
way_of (sw u) = further is_sw (way_of u)
way_of (se u) = further is_se (way_of u)

-- and what has a way up to a block lies under it
pub under_of : {k r c κ k' r' c' κ' : ℕ} → Way k r c κ k' r' c' κ' → Under k r c κ k' r' c' κ'
under_of there = here
under_of (up q w) = under_trans (under_of w) (quadrant_under q)

-- how many levels the way goes up
unfoldable pub steps : {K R C Κ k r c κ : ℕ} → Way K R C Κ k r c κ → ℕ
steps there = zero
steps (up q w) = suc (steps w)

-- a step more
pub steps_up : {K R C Κ k r c κ r' c' κ' : ℕ} (q : Quadrant k r c κ r' c' κ') (w : Way K R C Κ (suc k) r c κ) → steps (up q w) ≡ suc (steps w)
unfolding steps
steps_up q w = refl

-- no step
pub steps_there : (K R C Κ : ℕ) → (let w : Way K R C Κ K R C Κ = there in steps w) ≡ zero
unfolding steps
steps_there K R C Κ = refl

-- the levels and the block's height make the outer block's
pub steps_height : {K R C Κ k r c κ : ℕ} (w : Way K R C Κ k r c κ) → steps w + k ≡ K
unfolding steps
steps_height there = omega arith
steps_height (up q w) = let e = steps_height w in omega arith
