-- The block of a level around a pixel: there is one, its key is the pixel's with the digits below that level made zeros, and no other block of that
-- level has the pixel. Rests on Pixel, InBlock and ParentKey.
use Prim.Native.Nat.{ℕ, suc, ◌+◌, ◌-◌, ◌^◌, ◌≤◌, ◌<◌}
use native.Mathlib.Omega.{arith}
use mathlib.Core.Path.{◌≡◌, ◌∙◌}
use mathlib.Core.Bool.{true}
use Rattle.keys.specs.Key.{valid_key, level_of, child_key}
use Rattle.keys.specs.Block.{in_block, pixel_key, key_around}
use Rattle.keys.proofs.Cases.{split}
use Rattle.keys.specs.Under.{Under, MapBlock, here, nw, ne, sw, se}
use Rattle.keys.proofs.Interval.{within}
use Rattle.keys.proofs.Valid.{valid_block, block_valid, block_level}
use Rattle.keys.proofs.Pixel.{InKeys, pixel_block, inside}
use Rattle.keys.proofs.InBlock.{in_block_iff}
use Rattle.keys.proofs.ParentKey.{multiple, cleared}

-- a block of height h under the first, which the second lies under
pub data BetweenBlocks (k r c κ h k' r' c' κ' : ℕ) : Type 0 where
  between : {r₁ c₁ κ₁ : ℕ} → Under k r c κ h r₁ c₁ κ₁ → Under h r₁ c₁ κ₁ k' r' c' κ' → BetweenBlocks k r c κ h k' r' c' κ'

-- the outer block itself, where it has the height
outer : {k r c κ k' r' c' κ' : ℕ} (h : ℕ) → h ≡ k → Under k r c κ k' r' c' κ' → BetweenBlocks k r c κ h k' r' c' κ'
outer {k} {r} {c} {κ} {k'} {r'} {c'} {κ'} h e u = rw e (between here u)

between_nw : {k r c κ h k' r' c' κ' : ℕ} → BetweenBlocks k r c (child_key κ k 1) h k' r' c' κ' → BetweenBlocks (suc k) r c κ h k' r' c' κ'
between_nw (between u v) = between (nw u) v

between_ne : {k r c κ h k' r' c' κ' : ℕ} → BetweenBlocks k r (c + 2 ^ k) (child_key κ k 2) h k' r' c' κ' → BetweenBlocks (suc k) r c κ h k' r' c' κ'
between_ne (between u v) = between (ne u) v

between_sw : {k r c κ h k' r' c' κ' : ℕ} → BetweenBlocks k (r + 2 ^ k) c (child_key κ k 3) h k' r' c' κ' → BetweenBlocks (suc k) r c κ h k' r' c' κ'
between_sw (between u v) = between (sw u) v

between_se : {k r c κ h k' r' c' κ' : ℕ} → BetweenBlocks k (r + 2 ^ k) (c + 2 ^ k) (child_key κ k 4) h k' r' c' κ' → BetweenBlocks (suc k) r c κ h k' r' c' κ'
between_se (between u v) = between (se u) v

-- at every height from the inner block's to the outer's there is one
at_height : {k r c κ k' r' c' κ' : ℕ} (h : ℕ) → Under k r c κ k' r' c' κ' → k' ≤ h → h ≤ k → BetweenBlocks k r c κ h k' r' c' κ'
at_height {k} h here low high = outer h (omega arith) here
at_height h (nw {k} u) low high = split k h (λ top. outer h (omega arith) (nw u)) (λ down. between_nw (at_height h u low down))
at_height h (ne {k} u) low high = split k h (λ top. outer h (omega arith) (ne u)) (λ down. between_ne (at_height h u low down))
at_height h (sw {k} u) low high = split k h (λ top. outer h (omega arith) (sw u)) (λ down. between_sw (at_height h u low down))
at_height h (se {k} u) low high = split k h (λ top. outer h (omega arith) (se u)) (λ down. between_se (at_height h u low down))

-- the key of a block around a pixel is the pixel's, its digits below the block's level made zeros
around_is : {m k r c κ : ℕ} (level row column : ℕ)
    → MapBlock m k r c κ
    → m - level ≡ k
    → InKeys k κ (pixel_key m row column)
    → key_around m level row column ≡ κ
unfolding key_around
around_is {m} {k} {κ = κ} level row column b e i =
    let n = multiple b in
    let f = n.key in
    rw e (cleared (5 ^ k) n.times (pixel_key m row column) (omega arith) (omega arith) ∙ omega arith)

-- what specification S3.15 asks for: a valid key, of that level, whose block has the pixel
pub record Around (m level row column κ : ℕ) : Type 0 where
  pub valid : valid_key m κ ≡ true
  pub level_is : level_of m κ ≡ level
  pub has : in_block m κ row column ≡ true

around_between : {m level row column : ℕ} → level ≤ m → BetweenBlocks m 0 0 0 (m - level) 0 row column (pixel_key m row column)
    → Around m level row column (key_around m level row column)
around_between {m} {level} {row} {column} low (between {r₁} {c₁} {κ₁} b u) =
    let w = within u in
    let l = block_level b in
    rw (around_is level row column b (omega arith) (record { from = omega arith; until = omega arith }))
    (record {
      valid = (block_valid b).valid;
      level_is = omega arith;
      has = (in_block_iff row column b).1 (record { top = omega arith; bottom = omega arith; left = omega arith; right = omega arith });
    })

-- the key is that of such a block
pub around_contains : (m level row column : ℕ) → level ≤ m → row < 2 ^ m → column < 2 ^ m → Around m level row column (key_around m level row column)
around_contains m level row column low rows columns =
    around_between low (at_height (m - level) (pixel_block m row column rows columns) (omega arith) (omega arith))

-- and no other is
pub around_only : (m level row column κ : ℕ) → level ≤ m → Around m level row column κ → key_around m level row column ≡ κ
around_only m level row column κ low h =
    let b = valid_block m κ h.valid in
    let l = block_level b in
    let e = h.level_is in
    around_is level row column b (omega arith) (inside b ((in_block_iff row column b).0 h.has))
