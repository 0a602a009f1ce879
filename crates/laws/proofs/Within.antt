-- The pixels of a block: those whose row and column lie in its square. A pixel of a block lies in one of its quadrants, and what holds at
-- every pixel of the four quadrants holds at every pixel of the block. Rests on keys' Under.
use Prim.Native.Nat.{ℕ, zero, suc, ◌+◌, ◌^◌, ◌<◌}
use mathlib.Core.Path.{◌≡◌}
use native.Mathlib.Nat.{pow-suc}
use native.Mathlib.Omega.{arith}
use lib.Pow.{pow_pos}
use Rattle.keys.proofs.Cases.{split}
use Rattle.keys.specs.Under.{Under, here, nw, ne, sw, se, InSquare, Every}

-- the first pixel is in the block
pub first_within : (k r c : ℕ) → InSquare k r c r c
first_within k r c = let h = pow_pos k in omega arith

-- a block of height 0 has one pixel: its row is the block's
pub pixel_row : {r c r' c' : ℕ} → InSquare zero r c r' c' → r' ≡ r
pixel_row w = omega arith

-- and its column is the block's
pub pixel_column : {r c r' c' : ℕ} → InSquare zero r c r' c' → c' ≡ c
pixel_column w = omega arith

-- a pixel at offsets below the side is in the block
pub at_offset : {k r c a b : ℕ} → a < 2 ^ k → b < 2 ^ k → InSquare k r c (r + a) (c + b)
at_offset {k} {r} {c} {a} {b} h j = omega arith

-- the pixels of a quadrant are pixels of the block
module _ {k r c r' c' : ℕ} where
  pub within_nw : InSquare k r c r' c' → InSquare (suc k) r c r' c'
  within_nw w = let e = pow-suc 2 k in omega arith

  pub within_ne : InSquare k r (c + 2 ^ k) r' c' → InSquare (suc k) r c r' c'
  within_ne w = let e = pow-suc 2 k in omega arith

  pub within_sw : InSquare k (r + 2 ^ k) c r' c' → InSquare (suc k) r c r' c'
  within_sw w = let e = pow-suc 2 k in omega arith

  pub within_se : InSquare k (r + 2 ^ k) (c + 2 ^ k) r' c' → InSquare (suc k) r c r' c'
  within_se w = let e = pow-suc 2 k in omega arith

-- a pixel of the block lies in one of the quadrants
pub within-cases {ℓ} : {C : Type ℓ} {k r c r' c' : ℕ}
    → InSquare (suc k) r c r' c'
    → (InSquare k r c r' c' → C)
    → (InSquare k r (c + 2 ^ k) r' c' → C)
    → (InSquare k (r + 2 ^ k) c r' c' → C)
    → (InSquare k (r + 2 ^ k) (c + 2 ^ k) r' c' → C)
    → C
within-cases {k} {r} {c} {r'} {c'} w in-nw in-ne in-sw in-se =
    let e = pow-suc 2 k in
    split r' (r + 2 ^ k)
    (λ h. split c' (c + 2 ^ k) (λ j. in-nw (omega arith)) (λ j. in-ne (omega arith)))
    (λ h. split c' (c + 2 ^ k) (λ j. in-sw (omega arith)) (λ j. in-se (omega arith)))

-- what holds in the block holds in each quadrant
module _ {P : ℕ → ℕ → Type 0} {k r c : ℕ} where
  pub every_nw : Every P (suc k) r c → Every P k r c
  every_nw h r' c' w = h r' c' (within_nw w)

  pub every_ne : Every P (suc k) r c → Every P k r (c + 2 ^ k)
  every_ne h r' c' w = h r' c' (within_ne w)

  pub every_sw : Every P (suc k) r c → Every P k (r + 2 ^ k) c
  every_sw h r' c' w = h r' c' (within_sw w)

  pub every_se : Every P (suc k) r c → Every P k (r + 2 ^ k) (c + 2 ^ k)
  every_se h r' c' w = h r' c' (within_se w)

  -- what holds in the four quadrants holds in the block
  pub every_join : Every P k r c
      → Every P k r (c + 2 ^ k)
      → Every P k (r + 2 ^ k) c
      → Every P k (r + 2 ^ k) (c + 2 ^ k)
      → Every P (suc k) r c
  every_join in-nw in-ne in-sw in-se r' c' w = within-cases w (in-nw r' c') (in-ne r' c') (in-sw r' c') (in-se r' c')

-- some pixel of the block, and what holds there
pub record Somewhere (P : ℕ → ℕ → Type 0) (k r c : ℕ) : Type 0 where
  pub row : ℕ
  pub column : ℕ
  pub within : InSquare k r c row column
  pub holds : P row column

-- a pixel of a quadrant is a pixel of the block
module _ {P : ℕ → ℕ → Type 0} {k r c : ℕ} where
  pub some_nw : Somewhere P k r c → Somewhere P (suc k) r c
  some_nw x = record { row = x.row; column = x.column; within = within_nw x.within; holds = x.holds }

  pub some_ne : Somewhere P k r (c + 2 ^ k) → Somewhere P (suc k) r c
  some_ne x = record { row = x.row; column = x.column; within = within_ne x.within; holds = x.holds }

  pub some_sw : Somewhere P k (r + 2 ^ k) c → Somewhere P (suc k) r c
  some_sw x = record { row = x.row; column = x.column; within = within_sw x.within; holds = x.holds }

  pub some_se : Somewhere P k (r + 2 ^ k) (c + 2 ^ k) → Somewhere P (suc k) r c
  some_se x = record { row = x.row; column = x.column; within = within_se x.within; holds = x.holds }

-- the pixels of a block under another are pixels of the other
pub under_within : {k r c κ k₁ r₁ c₁ κ₁ r' c' : ℕ} → Under k r c κ k₁ r₁ c₁ κ₁ → InSquare k₁ r₁ c₁ r' c' → InSquare k r c r' c'
under_within here w = w
under_within (nw u) w = within_nw (under_within u w)
under_within (ne u) w = within_ne (under_within u w)
under_within (sw u) w = within_sw (under_within u w)
under_within (se u) w = within_se (under_within u w)
