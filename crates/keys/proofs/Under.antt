-- Blocks at or under others: under is transitive, and a quadrant lies under its parent. Rests on the definitions alone.
use Prim.Native.Nat.{ℕ, suc}
use Rattle.keys.specs.Under.{Under, here, nw, ne, sw, se, Quadrant, is_nw, is_ne, is_sw, is_se}

-- what is under a block that is under a third is under the third
pub under_trans : {k r c κ k₁ r₁ c₁ κ₁ k₂ r₂ c₂ κ₂ : ℕ} → Under k r c κ k₁ r₁ c₁ κ₁ → Under k₁ r₁ c₁ κ₁ k₂ r₂ c₂ κ₂ → Under k r c κ k₂ r₂ c₂ κ₂
under_trans here v = v
under_trans (nw u) v = nw (under_trans u v)
under_trans (ne u) v = ne (under_trans u v)
under_trans (sw u) v = sw (under_trans u v)
under_trans (se u) v = se (under_trans u v)

-- a quadrant lies under its parent
pub quadrant_under : {k r c κ r' c' κ' : ℕ} → Quadrant k r c κ r' c' κ' → Under (suc k) r c κ k r' c' κ'
quadrant_under is_nw = nw here
quadrant_under is_ne = ne here
quadrant_under is_sw = sw here
quadrant_under is_se = se here
