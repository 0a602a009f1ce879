-- The parent's key: it is that of the block of which a block is a quadrant, the one ancestor that is a level up. Rests on Parent and Ancestor.
use Prim.Native.Nat.{ℕ, zero, suc, ◌+◌, ◌-◌, ◌*◌, ◌/◌, ◌^◌, ◌≤◌, ◌<◌}
use native.Mathlib.Nat.{add-mul, mul_assoc, pow-suc}
use native.Mathlib.Omega.{arith}
use mathlib.Core.Path.{◌≡◌, refl, sym, ap, ◌∙◌}
use mathlib.Core.Bool.{true}
use mathlib.Core.Logic.{◌≢◌}
use lib.Pow.{pow-add}
use lib.Arith.{digits_div}
use Rattle.keys.specs.Key.{level_of, height_of, valid_key, child_key, parent_key}
use Rattle.keys.specs.Block.{is_ancestor}
use Rattle.keys.specs.Under.{Under, MapBlock, here, nw, ne, sw, se, Quadrant, is_nw, is_ne, is_sw, is_se}
use Rattle.keys.proofs.Under.{quadrant_under}
use Rattle.keys.proofs.Interval.{within, under_height, key_within, intervals-apart}
use Rattle.keys.proofs.Powers.{five_pos}
use Rattle.keys.proofs.Parent.{quadrant_of, quadrant_after, parent-cases}
use Rattle.keys.proofs.Valid.{valid_block, block_valid, block_level}
use Rattle.keys.proofs.Ancestor.{ancestor_iff}

-- counted from the first key, the second is a multiple of 5 ^ k'
pub record Multiple (k' κ κ' : ℕ) : Type 0 where
  pub times : ℕ
  pub key : κ' ≡ κ + times * 5 ^ k'

under_digit : {k k' κ κ' : ℕ} (d : ℕ) → k' ≤ k → Multiple k' (child_key κ k d) κ' → Multiple k' κ κ'
under_digit {k} {k'} d low n =
    let e : 5 ^ k ≡ 5 ^ (k - k') * 5 ^ k' = ap (λ x. 5 ^ x) (omega arith) ∙ pow-add 5 (k - k') k' in
    let f : (d * 5 ^ (k - k') + n.times) * 5 ^ k' ≡ d * 5 ^ k + n.times * 5 ^ k' = rw (add-mul, mul_assoc, ← e) in
    let g = n.key in
    record { times = d * 5 ^ (k - k') + n.times; key = omega arith }

-- counted from an outer block, a block's key is a multiple of its own step
pub multiple : {k r c κ k' r' c' κ' : ℕ} → Under k r c κ k' r' c' κ' → Multiple k' κ κ'
multiple here = record { times = 0; key = omega arith }
multiple (nw u) = under_digit 1 (under_height u) (multiple u)
multiple (ne u) = under_digit 2 (under_height u) (multiple u)
multiple (sw u) = under_digit 3 (under_height u) (multiple u)
multiple (se u) = under_digit 4 (under_height u) (multiple u)

-- the quotient by a step, times the step, forgets what lies in the interval
pub cleared : (s q y : ℕ) → q * s ≤ y → y < q * s + s → y / s * s ≡ q * s
cleared s q y from until =
    let e : y ≡ q * s + (y - q * s) = omega arith in
    ap (λ x. x / s * s) e ∙ ap (λ x. x * s) (digits_div q (omega arith))

-- the parent's key of a quadrant is that of its block
pub parent-key : {m k r c κ r' c' κ' : ℕ} → MapBlock m (suc k) r c κ → Quadrant k r c κ r' c' κ' → parent_key m κ' ≡ κ
unfolding parent_key
parent-key {k} {κ} {κ'} b q =
    let w = key_within (quadrant_under q) in
    let n = multiple b in
    let e = n.key in
    rw (block_valid (quadrant_of b q)).height (cleared (5 ^ suc k) n.times κ' (omega arith) (omega arith) ∙ omega arith)

-- p is the parent of κ: valid, an ancestor, one level up
pub record IsParent (m p κ : ℕ) : Type 0 where
  pub valid : valid_key m p ≡ true
  pub ancestor : is_ancestor m p κ ≡ true
  pub level : level_of m κ ≡ suc (level_of m p)

-- a block is the parent of its quadrants
pub quadrant_parent : {m k r c κ r' c' κ' : ℕ} → MapBlock m (suc k) r c κ → Quadrant k r c κ r' c' κ' → IsParent m κ κ'
quadrant_parent {k} b q =
    let after = quadrant_after q in
    let p = five_pos k in
    let l = block_level b in
    let l' = block_level (quadrant_of b q) in
    record {
      valid = (block_valid b).valid;
      ancestor = (ancestor_iff b (quadrant_of b q)).1 (quadrant_under q, omega arith);
      level = omega arith;
    }

-- the parent's key of any valid key but the root's is its parent
pub parent_is : (m κ : ℕ) → valid_key m κ ≡ true → κ ≢ 0 → IsParent m (parent_key m κ) κ
parent_is m κ valid other =
    parent-cases (valid_block m κ valid) (λ same. absurd (other (sym same.keys)))
    (λ r₁ c₁ κ₁ b q. rw (parent-key b q) (quadrant_parent b q))

-- two blocks of one height that a third lies under have one key
one_above : {m k₁ r₁ c₁ κ₁ k₂ r₂ c₂ κ₂ k' r' c' κ' : ℕ}
    → k₁ ≡ k₂
    → MapBlock m k₁ r₁ c₁ κ₁
    → MapBlock m k₂ r₂ c₂ κ₂
    → Under k₁ r₁ c₁ κ₁ k' r' c' κ'
    → Under k₂ r₂ c₂ κ₂ k' r' c' κ'
    → κ₁ ≡ κ₂
one_above e a b u v =
    let i = key_within u in
    let j = key_within v in
    let f = ap (λ k. 5 ^ k) e in
    intervals-apart a b (λ w. let x = within w in omega arith) (λ w. let x = within w in omega arith) (λ before. omega arith) (λ after. omega arith)

-- the parent is the only ancestor one level up
pub parent_only : (m a κ : ℕ)
    → valid_key m a ≡ true
    → valid_key m κ ≡ true
    → is_ancestor m a κ ≡ true
    → level_of m κ ≡ suc (level_of m a)
    → a ≡ parent_key m κ
parent_only m a κ valid-a valid-κ ancestor level =
    let u = valid_block m a valid-a in
    let v = valid_block m κ valid-κ in
    let l = block_level u in
    let l' = block_level v in
    parent-cases v (λ same. let h = same.heights in omega arith)
    (λ r₁ c₁ κ₁ b q. one_above (omega arith) u b ((ancestor_iff u v).0 ancestor).0 (quadrant_under q) ∙ sym (parent-key b q))

-- d is the digit of a quadrant
pub data ChildOf (k r c κ d : ℕ) : Type 0 where
  is_child : {r' c' : ℕ} → Quadrant k r c κ r' c' (child_key κ k d) → ChildOf k r c κ d

-- each digit from 1 to 4 is
pub some_child_of : (k r c κ d : ℕ) → 1 ≤ d → d ≤ 4 → ChildOf k r c κ d
some_child_of k r c κ zero least most = absurd (omega arith)
some_child_of k r c κ (suc zero) least most = is_child is_nw
some_child_of k r c κ (suc (suc zero)) least most = is_child is_ne
some_child_of k r c κ (suc (suc (suc zero))) least most = is_child is_sw
some_child_of k r c κ (suc (suc (suc (suc zero)))) least most = is_child is_se
some_child_of k r c κ (suc (suc (suc (suc (suc d))))) least most = absurd (omega arith)

from_child : {m k r c κ d : ℕ} → MapBlock m (suc k) r c κ → ChildOf k r c κ d → (valid_key m (child_key κ k d) ≡ true) × (parent_key m (child_key κ k d) ≡ κ)
from_child b (is_child q) = ((block_valid (quadrant_of b q)).valid, parent-key b q)

-- a child's key by a digit from 1 to 4 is valid, and its parent's key leads back
pub child_valid : {m k r c κ : ℕ} (d : ℕ)
    → MapBlock m (suc k) r c κ
    → 1 ≤ d
    → d ≤ 4
    → (valid_key m (child_key κ k d) ≡ true) × (parent_key m (child_key κ k d) ≡ κ)
child_valid {k} {r} {c} {κ} d b least most = from_child b (some_child_of k r c κ d least most)

-- as the code has them, by the step: what the digit of a block is worth in its key
pub child_by_step : (κ k digit : ℕ) → κ + digit * 5 ^ k ≡ child_key κ k digit
child_by_step κ k digit = refl

pub parent_by_step : (m κ : ℕ) → κ / (5 ^ height_of m κ * 5) * (5 ^ height_of m κ * 5) ≡ parent_key m κ
unfolding parent_key
parent_by_step m κ =
    let wide : 5 ^ height_of m κ * 5 ≡ 5 ^ suc (height_of m κ) = let e = pow-suc 5 (height_of m κ) in omega arith in
    ap (λ (x : ℕ). κ / x * x) wide
