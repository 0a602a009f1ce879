-- A block is an interval of keys and a square: what lies under it lies in both, two blocks are nested or apart, and the key after a block's
-- interval is again a block's or the end. Inductions on Under.
use Prim.Native.Nat.{ℕ, suc, ◌+◌, ◌^◌, ◌≤◌, ◌<◌}
use native.Mathlib.Nat.{pow-suc}
use native.Mathlib.Omega.{arith}
use mathlib.Core.Path.{◌≡◌, refl}
use Rattle.keys.specs.Key.{child_key}
use Rattle.keys.proofs.Cases.{split}
use Rattle.keys.proofs.Powers.{five_pos}
use Rattle.keys.specs.Under.{Under, here, nw, ne, sw, se, Quadrant, is_nw, is_ne, is_sw, is_se}

-- the numbers of two blocks are the same
pub record SameBlock (k r c κ k' r' c' κ' : ℕ) : Type 0 where
  pub heights : k ≡ k'
  pub rows : r ≡ r'
  pub columns : c ≡ c'
  pub keys : κ ≡ κ'

-- a block is under another by any names of its four numbers
pub same_block : {k r c κ k₁ r₁ c₁ κ₁ k₂ r₂ c₂ κ₂ : ℕ} → Under k r c κ k₁ r₁ c₁ κ₁ → SameBlock k₁ r₁ c₁ κ₁ k₂ r₂ c₂ κ₂ → Under k r c κ k₂ r₂ c₂ κ₂
same_block u e = rw (← e.heights, ← e.rows, ← e.columns, ← e.keys) u

-- and by any name of its key alone
pub same_key : {k r c κ k₁ r₁ c₁ κ₁ κ₂ : ℕ} → Under k r c κ k₁ r₁ c₁ κ₁ → κ₁ ≡ κ₂ → Under k r c κ k₁ r₁ c₁ κ₂
same_key u e = rw (← e) u

-- the second block's height, keys and square lie within the first's
pub record LiesWithin (k r c κ k' r' c' κ' : ℕ) : Type 0 where
  pub height : k' ≤ k
  pub from : κ ≤ κ'
  pub until : κ' + 5 ^ k' ≤ κ + 5 ^ k
  pub top : r ≤ r'
  pub bottom : r' + 2 ^ k' ≤ r + 2 ^ k
  pub left : c ≤ c'
  pub right : c' + 2 ^ k' ≤ c + 2 ^ k

-- a block under another lies within it
pub within : {k r c κ k' r' c' κ' : ℕ} → Under k r c κ k' r' c' κ' → LiesWithin k r c κ k' r' c' κ'
within here = omega arith
within (nw {k} u) = let w = within u in let e = pow-suc 5 k in let f = pow-suc 2 k in omega arith
within (ne {k} u) = let w = within u in let e = pow-suc 5 k in let f = pow-suc 2 k in omega arith
within (sw {k} u) = let w = within u in let e = pow-suc 5 k in let f = pow-suc 2 k in omega arith
within (se {k} u) = let w = within u in let e = pow-suc 5 k in let f = pow-suc 2 k in omega arith

-- a block under another is at most as high
pub under_height : {k r c κ k' r' c' κ' : ℕ} → Under k r c κ k' r' c' κ' → k' ≤ k
under_height u = (within u).height

-- its key is among the other's
pub key_within : {k r c κ k' r' c' κ' : ℕ} → Under k r c κ k' r' c' κ' → (κ ≤ κ') × (κ' < κ + 5 ^ k)
key_within {k'} u = let w = within u in let e = five_pos k' in omega arith

-- a block other than the first has its key at or past the first child's
pub past_first_child : {k r c κ k₂ r₂ c₂ κ₂ : ℕ} → Under (suc k) r c κ k₂ r₂ c₂ κ₂ → κ < κ₂ → child_key κ k 1 ≤ κ₂
past_first_child here after = omega arith
past_first_child (nw v) after = let w = key_within v in omega arith
past_first_child (ne v) after = let w = key_within v in omega arith
past_first_child (sw v) after = let w = key_within v in omega arith
past_first_child (se v) after = let w = key_within v in omega arith

-- under a block, what has its key in a quadrant's interval lies under that quadrant
pub nest_quadrant : {k r c κ r₁ c₁ κ₁ k₂ r₂ c₂ κ₂ : ℕ}
    → Quadrant k r c κ r₁ c₁ κ₁
    → Under (suc k) r c κ k₂ r₂ c₂ κ₂
    → κ₁ ≤ κ₂
    → κ₂ < κ₁ + 5 ^ k
    → Under k r₁ c₁ κ₁ k₂ r₂ c₂ κ₂
nest_quadrant (is_nw {k}) here from until = let p = five_pos k in absurd (omega arith)
nest_quadrant is_nw (nw v) from until = v
nest_quadrant is_nw (ne v) from until = let w = key_within v in absurd (omega arith)
nest_quadrant is_nw (sw v) from until = let w = key_within v in absurd (omega arith)
nest_quadrant is_nw (se v) from until = let w = key_within v in absurd (omega arith)
nest_quadrant (is_ne {k}) here from until = let p = five_pos k in absurd (omega arith)
nest_quadrant is_ne (nw v) from until = let w = key_within v in absurd (omega arith)
nest_quadrant is_ne (ne v) from until = v
nest_quadrant is_ne (sw v) from until = let w = key_within v in absurd (omega arith)
nest_quadrant is_ne (se v) from until = let w = key_within v in absurd (omega arith)
nest_quadrant (is_sw {k}) here from until = let p = five_pos k in absurd (omega arith)
nest_quadrant is_sw (nw v) from until = let w = key_within v in absurd (omega arith)
nest_quadrant is_sw (ne v) from until = let w = key_within v in absurd (omega arith)
nest_quadrant is_sw (sw v) from until = v
nest_quadrant is_sw (se v) from until = let w = key_within v in absurd (omega arith)
nest_quadrant (is_se {k}) here from until = let p = five_pos k in absurd (omega arith)
nest_quadrant is_se (nw v) from until = let w = key_within v in absurd (omega arith)
nest_quadrant is_se (ne v) from until = let w = key_within v in absurd (omega arith)
nest_quadrant is_se (sw v) from until = let w = key_within v in absurd (omega arith)
nest_quadrant is_se (se v) from until = v

-- two blocks under one: if the second's key lies in the first's interval, the second lies under the first
pub nest : {k r c κ k₁ r₁ c₁ κ₁ k₂ r₂ c₂ κ₂ : ℕ}
    → Under k r c κ k₁ r₁ c₁ κ₁
    → Under k r c κ k₂ r₂ c₂ κ₂
    → κ₁ ≤ κ₂
    → κ₂ < κ₁ + 5 ^ k₁
    → Under k₁ r₁ c₁ κ₁ k₂ r₂ c₂ κ₂
nest here v from until = v
nest (nw u) v from until = let w = within u in nest u (nest_quadrant is_nw v (omega arith) (omega arith)) from until
nest (ne u) v from until = let w = within u in nest u (nest_quadrant is_ne v (omega arith) (omega arith)) from until
nest (sw u) v from until = let w = within u in nest u (nest_quadrant is_sw v (omega arith) (omega arith)) from until
nest (se u) v from until = let w = within u in nest u (nest_quadrant is_se v (omega arith) (omega arith)) from until

-- two blocks that lie under each other are one
pub both_ways : {k₁ r₁ c₁ κ₁ k₂ r₂ c₂ κ₂ : ℕ}
    → Under k₁ r₁ c₁ κ₁ k₂ r₂ c₂ κ₂
    → Under k₂ r₂ c₂ κ₂ k₁ r₁ c₁ κ₁
    → SameBlock k₁ r₁ c₁ κ₁ k₂ r₂ c₂ κ₂
both_ways u v = let a = within u in let b = within v in omega arith

-- two blocks under one that have the same key are one
pub one_block : {k r c κ k₁ r₁ c₁ κ₁ k₂ r₂ c₂ κ₂ : ℕ}
    → Under k r c κ k₁ r₁ c₁ κ₁
    → Under k r c κ k₂ r₂ c₂ κ₂
    → κ₁ ≡ κ₂
    → SameBlock k₁ r₁ c₁ κ₁ k₂ r₂ c₂ κ₂
one_block {k₁} {k₂} u v e =
    let p = five_pos k₁ in
    let q = five_pos k₂ in
    both_ways (nest u v (omega arith) (omega arith)) (nest v u (omega arith) (omega arith))

-- two blocks under one are nested, or one's keys come before the other's
pub intervals-apart {ℓ} : {C : Type ℓ} {k r c κ k₁ r₁ c₁ κ₁ k₂ r₂ c₂ κ₂ : ℕ}
    → Under k r c κ k₁ r₁ c₁ κ₁
    → Under k r c κ k₂ r₂ c₂ κ₂
    → (Under k₁ r₁ c₁ κ₁ k₂ r₂ c₂ κ₂ → C)
    → (Under k₂ r₂ c₂ κ₂ k₁ r₁ c₁ κ₁ → C)
    → (κ₁ + 5 ^ k₁ ≤ κ₂ → C)
    → (κ₂ + 5 ^ k₂ ≤ κ₁ → C)
    → C
intervals-apart {k₁} {κ₁} {k₂} {κ₂} u v holds lies before after =
    split κ₂ κ₁ (λ lt. split κ₁ (κ₂ + 5 ^ k₂) (λ inside. lies (nest v u (omega arith) inside)) after)
    (λ ge. split κ₂ (κ₁ + 5 ^ k₁) (λ inside. holds (nest u v ge inside)) before)

-- x is the end of the block, or the key of a block under it that is at least k' high
pub data Next (k r c κ k' x : ℕ) : Type 0 where
  at_end : x ≡ κ + 5 ^ k → Next k r c κ k' x
  at_block : {k₁ r₁ c₁ : ℕ} → Under k r c κ k₁ r₁ c₁ x → k' ≤ k₁ → Next k r c κ k' x

-- the end of a quadrant is the key of the next, and that of the last is the parent's
next_nw : {k r c κ k' x : ℕ} → k' ≤ k → Next k r c (child_key κ k 1) k' x → Next (suc k) r c κ k' x
next_nw low (at_end e) = at_block (same_key (ne here) (omega arith)) low
next_nw low (at_block v high) = at_block (nw v) high

next_ne : {k r c κ k' x : ℕ} → k' ≤ k → Next k r (c + 2 ^ k) (child_key κ k 2) k' x → Next (suc k) r c κ k' x
next_ne low (at_end e) = at_block (same_key (sw here) (omega arith)) low
next_ne low (at_block v high) = at_block (ne v) high

next_sw : {k r c κ k' x : ℕ} → k' ≤ k → Next k (r + 2 ^ k) c (child_key κ k 3) k' x → Next (suc k) r c κ k' x
next_sw low (at_end e) = at_block (same_key (se here) (omega arith)) low
next_sw low (at_block v high) = at_block (sw v) high

next_se : {k r c κ k' x : ℕ} → Next k (r + 2 ^ k) (c + 2 ^ k) (child_key κ k 4) k' x → Next (suc k) r c κ k' x
next_se {k} (at_end e) = let f = pow-suc 5 k in at_end (omega arith)
next_se (at_block v high) = at_block (se v) high

-- after the keys of a block comes the end of the outer block, or another block under it, at least as high
pub next_block : {k r c κ k' r' c' κ' : ℕ} → Under k r c κ k' r' c' κ' → Next k r c κ k' (κ' + 5 ^ k')
next_block here = at_end refl
next_block (nw u) = next_nw (under_height u) (next_block u)
next_block (ne u) = next_ne (under_height u) (next_block u)
next_block (sw u) = next_sw (under_height u) (next_block u)
next_block (se u) = next_se (next_block u)

-- no block has its key strictly between a block's and that of the block's first child
pub no_key_between : {k r c κ k₁ r₁ c₁ κ₁ k₂ r₂ c₂ κ₂ : ℕ}
    → Under k r c κ (suc k₁) r₁ c₁ κ₁
    → Under k r c κ k₂ r₂ c₂ κ₂
    → κ₁ < κ₂
    → κ₂ < child_key κ₁ k₁ 1
    → ⊥
no_key_between {k₁} u v after before =
    let e = pow-suc 5 k₁ in
    let w = past_first_child (nest u v (omega arith) (omega arith)) after in
    omega arith
