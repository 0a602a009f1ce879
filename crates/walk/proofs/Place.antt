-- The quadrant that a block is, read off its row and column: the bit of its side is set in the column in the east and in the row in the south. So
-- the block that comes next is found without its parent's key. Rests on the laws of blocks and bits.
use Prim.Native.Nat.{ℕ, suc, ◌+◌, ◌-◌, ◌*◌, ◌^◌, ◌≤◌, ◌<◌}
use mathlib.Core.Path.{◌≡◌, sym, ap, ◌∙◌}
use native.Mathlib.Nat.{pow-suc, mul_assoc, mul_comm, add-mul, one-mul, zero-mul}
use native.Mathlib.Omega.{arith}
use lib.Bits.{bit_and, and_shifted, and_block, and_self, and_zero_r}
use lib.Pow.{pow_pos, pow-lt}
use Rattle.keys.specs.Under.{Under, MapBlock, here, nw, ne, sw, se, Quadrant, is_nw, is_ne, is_sw, is_se}
use Rattle.keys.proofs.Interval.{same_block, within}
use Rattle.keys.proofs.Parent.{parent-cases, quadrant_of}

-- a row or a column is a multiple of a side
abbrev pub Aligned : ℕ → ℕ → Type 0
Aligned k x = (a : ℕ) × (x ≡ a * 2 ^ k)

twice : (a k : ℕ) → a * 2 ^ suc k ≡ a * 2 * 2 ^ k
twice a k = ap (λ x. a * x) (pow-suc 2 k ∙ mul_comm (2 ^ k) 2) ∙ sym (mul_assoc a 2 (2 ^ k))

-- a multiple of a side is a multiple of half the side
pub aligned_half : (k x : ℕ) → Aligned (suc k) x → Aligned k x
aligned_half k x (a, e) = (a * 2, e ∙ twice a k)

-- and so it is with half the side more
pub aligned_more : (k x : ℕ) → Aligned (suc k) x → Aligned k (x + 2 ^ k)
aligned_more k x h =
    (h.0 * 2 + 1, ap (λ y. y + 2 ^ k) (h.1 ∙ twice h.0 k) ∙ ap (λ y. h.0 * 2 * 2 ^ k + y) (sym (one-mul (2 ^ k))) ∙ sym (add-mul (h.0 * 2) 1 (2 ^ k)))

-- what lies under a block whose row is a multiple of its side has such a row too
aligned_row : {k r c κ k' r' c' κ' : ℕ} → Under k r c κ k' r' c' κ' → Aligned k r → Aligned k' r'
aligned_row here h = h
aligned_row (nw u) h = aligned_row u (aligned_half _ _ h)
aligned_row (ne u) h = aligned_row u (aligned_half _ _ h)
aligned_row (sw u) h = aligned_row u (aligned_more _ _ h)
aligned_row (se u) h = aligned_row u (aligned_more _ _ h)

aligned_column : {k r c κ k' r' c' κ' : ℕ} → Under k r c κ k' r' c' κ' → Aligned k c → Aligned k' c'
aligned_column here h = h
aligned_column (nw u) h = aligned_column u (aligned_half _ _ h)
aligned_column (ne u) h = aligned_column u (aligned_more _ _ h)
aligned_column (sw u) h = aligned_column u (aligned_half _ _ h)
aligned_column (se u) h = aligned_column u (aligned_more _ _ h)

-- the row and the column of a block of the map are multiples of its side
pub block_row : {m k r c κ : ℕ} → MapBlock m k r c κ → Aligned k r
block_row b = aligned_row b (0, sym (zero-mul _))

pub block_column : {m k r c κ : ℕ} → MapBlock m k r c κ → Aligned k c
block_column b = aligned_column b (0, sym (zero-mul _))

-- in a multiple of twice the side the bit of the side is not set
pub bit_clear : (k x : ℕ) → Aligned (suc k) x → bit_and x (2 ^ k) ≡ 0
bit_clear k x h = ap (λ y. bit_and y (2 ^ k)) h.1 ∙ and_shifted h.0 (suc k) (2 ^ k) (pow-lt (omega arith))

-- with the side more, it is
pub bit-set : (k x : ℕ) → Aligned (suc k) x → bit_and (x + 2 ^ k) (2 ^ k) ≡ 2 ^ k
bit-set k x h =
    let small : 2 ^ k < 2 ^ suc k = pow-lt (omega arith) in
    let whole : 2 ^ k ≡ 0 * 2 ^ suc k + 2 ^ k = omega arith in
    ap (λ y. bit_and (y + 2 ^ k) (2 ^ k)) h.1
    ∙ ap (bit_and (h.0 * 2 ^ suc k + 2 ^ k)) whole
    ∙ and_block (suc k) h.0 0 (2 ^ k) (2 ^ k) small small
    ∙ ap (λ y. y * 2 ^ suc k + bit_and (2 ^ k) (2 ^ k)) (and_zero_r h.0)
    ∙ ap (λ y. 0 * 2 ^ suc k + y) (and_self (2 ^ k))
    ∙ sym whole

not_clear : (k x : ℕ) → Aligned (suc k) x → bit_and (x + 2 ^ k) (2 ^ k) ≡ 0 → ⊥
not_clear k x h e = let p = pow_pos k in let q = bit-set k x h in omega arith

-- the block after one in the west: to the east of it
east_of : {m k r₁ c₁ κ₁ r c κ : ℕ} → MapBlock m (suc k) r₁ c₁ κ₁ → Quadrant k r₁ c₁ κ₁ r c κ → bit_and c (2 ^ k) ≡ 0 → MapBlock m k r (c + 2 ^ k) (κ + 5 ^ k)
east_of b is_nw e = same_block (quadrant_of b is_ne) (omega arith)
east_of b (is_ne {k} {c = c}) e = absurd (not_clear k c (block_column b) e)
east_of b is_sw e = same_block (quadrant_of b is_se) (omega arith)
east_of b (is_se {k} {c = c}) e = absurd (not_clear k c (block_column b) e)

-- the block after one in the north-east: the one in the south_west
pub record SouthWest (m k r c κ : ℕ) : Type 0 where
  pub room : 2 ^ k ≤ c
  pub block : MapBlock m k (r + 2 ^ k) (c - 2 ^ k) (κ + 5 ^ k)

south_west_of : {m k r₁ c₁ κ₁ r c κ : ℕ} → MapBlock m (suc k) r₁ c₁ κ₁ → Quadrant k r₁ c₁ κ₁ r c κ
    → (bit_and c (2 ^ k) ≡ 0 → ⊥)
    → bit_and r (2 ^ k) ≡ 0
    → SouthWest m k r c κ
south_west_of b (is_nw {k} {c = c}) e f = absurd (e (bit_clear k c (block_column b)))
south_west_of b is_ne e f = record { room = omega arith; block = same_block (quadrant_of b is_sw) (omega arith) }
south_west_of b (is_sw {k} {r = r}) e f = absurd (not_clear k r (block_row b) f)
south_west_of b (is_se {k} {r = r}) e f = absurd (not_clear k r (block_row b) f)

-- a block in the south-east ends with its parent
pub record SouthEast (m k r c κ : ℕ) : Type 0 where
  pub rows : 2 ^ k ≤ r
  pub columns : 2 ^ k ≤ c
  pub parent : ℕ
  pub ends : parent + 5 ^ suc k ≡ κ + 5 ^ k
  pub block : MapBlock m (suc k) (r - 2 ^ k) (c - 2 ^ k) parent

south_east_of : {m k r₁ c₁ κ₁ r c κ : ℕ} → MapBlock m (suc k) r₁ c₁ κ₁ → Quadrant k r₁ c₁ κ₁ r c κ
    → (bit_and c (2 ^ k) ≡ 0 → ⊥)
    → (bit_and r (2 ^ k) ≡ 0 → ⊥)
    → SouthEast m k r c κ
south_east_of b (is_nw {k} {c = c}) e f = absurd (e (bit_clear k c (block_column b)))
south_east_of b (is_ne {k} {r = r}) e f = absurd (f (bit_clear k r (block_row b)))
south_east_of b (is_sw {k} {c = c}) e f = absurd (e (bit_clear k c (block_column b)))
south_east_of b (is_se {k} {κ = κ}) e f =
    let p = pow-suc 5 k in
    record { rows = omega arith; columns = omega arith; parent = κ; ends = omega arith; block = same_block b (omega arith) }

module _ {m k r c κ : ℕ} (b : MapBlock m k r c κ) (low : k < m) where
  -- a block in the west is followed by the one to its east
  pub goes_east : bit_and c (2 ^ k) ≡ 0 → MapBlock m k r (c + 2 ^ k) (κ + 5 ^ k)
  goes_east e = parent-cases b (λ s. absurd (omega arith)) (λ r₁ c₁ κ₁ u q. east_of u q e)

  -- one in the north-east by that in the south_west
  pub goes_south_west : (bit_and c (2 ^ k) ≡ 0 → ⊥) → bit_and r (2 ^ k) ≡ 0 → SouthWest m k r c κ
  goes_south_west e f = parent-cases b (λ s. absurd (omega arith)) (λ r₁ c₁ κ₁ u q. south_west_of u q e f)

  -- and one in the south-east by what follows its parent
  pub goes_up : (bit_and c (2 ^ k) ≡ 0 → ⊥) → (bit_and r (2 ^ k) ≡ 0 → ⊥) → SouthEast m k r c κ
  goes_up e f = parent-cases b (λ s. absurd (omega arith)) (λ r₁ c₁ κ₁ u q. south_east_of u q e f)

-- a block as high as the map is the root
pub as_high : {m k r c κ : ℕ} → MapBlock m k r c κ → m ≤ k → (k ≡ m) × (κ ≡ 0)
as_high b high = let w = within b in parent-cases b (λ s. (omega arith, omega arith)) (λ r₁ c₁ κ₁ u q. let v = within u in absurd (omega arith))
