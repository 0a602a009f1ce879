-- Every block but the root is a quadrant of a block one level up, and every quadrant of a block is a block. Inductions on Under.
use Prim.Native.Nat.{ℕ, suc, ◌+◌, ◌^◌, ◌≤◌}
use native.Mathlib.Omega.{arith}
use Rattle.keys.specs.Key.{child_key}
use Rattle.keys.specs.Under.{Under, here, nw, ne, sw, se, Quadrant, is_nw, is_ne, is_sw, is_se}
use Rattle.keys.proofs.Under.{under_trans, quadrant_under}
use Rattle.keys.proofs.Interval.{SameBlock}

-- the second block is the first, or is a quadrant of a block under the first
pub data RootOrChild : ℕ → ℕ → ℕ → ℕ → ℕ → ℕ → ℕ → ℕ → Type 0 where
  root : {k r c κ : ℕ} → RootOrChild k r c κ k r c κ
  child : {k r c κ k' r₁ c₁ κ₁ r' c' κ' : ℕ}
      → Under k r c κ (suc k') r₁ c₁ κ₁
      → Quadrant k' r₁ c₁ κ₁ r' c' κ'
      → RootOrChild k r c κ k' r' c' κ'

child_nw : {k r c κ k' r' c' κ' : ℕ} → RootOrChild k r c (child_key κ k 1) k' r' c' κ' → RootOrChild (suc k) r c κ k' r' c' κ'
child_nw root = child here is_nw
child_nw (child u q) = child (nw u) q

child_ne : {k r c κ k' r' c' κ' : ℕ} → RootOrChild k r (c + 2 ^ k) (child_key κ k 2) k' r' c' κ' → RootOrChild (suc k) r c κ k' r' c' κ'
child_ne root = child here is_ne
child_ne (child u q) = child (ne u) q

child_sw : {k r c κ k' r' c' κ' : ℕ} → RootOrChild k (r + 2 ^ k) c (child_key κ k 3) k' r' c' κ' → RootOrChild (suc k) r c κ k' r' c' κ'
child_sw root = child here is_sw
child_sw (child u q) = child (sw u) q

child_se : {k r c κ k' r' c' κ' : ℕ} → RootOrChild k (r + 2 ^ k) (c + 2 ^ k) (child_key κ k 4) k' r' c' κ' → RootOrChild (suc k) r c κ k' r' c' κ'
child_se root = child here is_se
child_se (child u q) = child (se u) q

-- a block under another is that one, or has a parent under it
pub parent_of : {k r c κ k' r' c' κ' : ℕ} → Under k r c κ k' r' c' κ' → RootOrChild k r c κ k' r' c' κ'
parent_of here = root
parent_of (nw u) = child_nw (parent_of u)
parent_of (ne u) = child_ne (parent_of u)
parent_of (sw u) = child_sw (parent_of u)
parent_of (se u) = child_se (parent_of u)

by-case {ℓ} : {C : Type ℓ} {k r c κ k' r' c' κ' : ℕ}
    → RootOrChild k r c κ k' r' c' κ'
    → (SameBlock k r c κ k' r' c' κ' → C)
    → ((r₁ c₁ κ₁ : ℕ) → Under k r c κ (suc k') r₁ c₁ κ₁ → Quadrant k' r₁ c₁ κ₁ r' c' κ' → C)
    → C
by-case root first other = first (omega arith)
by-case (child {r₁} {c₁} {κ₁} u q) first other = other r₁ c₁ κ₁ u q

-- the same by cases: the four numbers are equal, or there is a parent
pub parent-cases {ℓ} : {C : Type ℓ} {k r c κ k' r' c' κ' : ℕ}
    → Under k r c κ k' r' c' κ'
    → (SameBlock k r c κ k' r' c' κ' → C)
    → ((r₁ c₁ κ₁ : ℕ) → Under k r c κ (suc k') r₁ c₁ κ₁ → Quadrant k' r₁ c₁ κ₁ r' c' κ' → C)
    → C
parent-cases u first other = by-case (parent_of u) first other

-- a quadrant of a block is a block
pub quadrant_of : {k r c κ k' r₁ c₁ κ₁ r' c' κ' : ℕ}
    → Under k r c κ (suc k') r₁ c₁ κ₁
    → Quadrant k' r₁ c₁ κ₁ r' c' κ'
    → Under k r c κ k' r' c' κ'
quadrant_of u q = under_trans u (quadrant_under q)

-- a quadrant's key comes after its parent's
pub quadrant_after : {k r c κ r' c' κ' : ℕ} → Quadrant k r c κ r' c' κ' → κ + 5 ^ k ≤ κ'
quadrant_after is_nw = omega arith
quadrant_after is_ne = omega arith
quadrant_after is_sw = omega arith
quadrant_after is_se = omega arith
