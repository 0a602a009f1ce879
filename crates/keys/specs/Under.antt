-- Blocks as the tree has them: a block of height k at a row and a column, with its key, lies at or under another, and the
-- pixels that it has. Laws about blocks are inductions on this type. Rests on Key.
use Rattle.std.specs.Prelude.{ℕ, suc, ◌+◌, ◌^◌, ◌≤◌, ◌<◌}
use Rattle.keys.specs.Key.{child_key}

-- the second block (k' r' c' κ') is the first (k r c κ), or lies at or under one of its quadrants
pub data Under : ℕ → ℕ → ℕ → ℕ → ℕ → ℕ → ℕ → ℕ → Type 0 where
  here : {k r c κ : ℕ} → Under k r c κ k r c κ
  nw : {k r c κ k' r' c' κ' : ℕ} → Under k r c (child_key κ k 1) k' r' c' κ' → Under (suc k) r c κ k' r' c' κ'
  ne : {k r c κ k' r' c' κ' : ℕ} → Under k r (c + 2 ^ k) (child_key κ k 2) k' r' c' κ' → Under (suc k) r c κ k' r' c' κ'
  sw : {k r c κ k' r' c' κ' : ℕ} → Under k (r + 2 ^ k) c (child_key κ k 3) k' r' c' κ' → Under (suc k) r c κ k' r' c' κ'
  se : {k r c κ k' r' c' κ' : ℕ} → Under k (r + 2 ^ k) (c + 2 ^ k) (child_key κ k 4) k' r' c' κ' → Under (suc k) r c κ k' r' c' κ'

-- a block of the map: it lies under the root
abbrev pub MapBlock : ℕ → ℕ → ℕ → ℕ → ℕ → Type 0
MapBlock m k r c κ = Under m 0 0 0 k r c κ

-- Quadrant k r c κ r' c' κ': the block (k r' c' κ') is a quadrant of (suc k r c κ), its parent
pub data Quadrant : ℕ → ℕ → ℕ → ℕ → ℕ → ℕ → ℕ → Type 0 where
  is_nw : {k r c κ : ℕ} → Quadrant k r c κ r c (child_key κ k 1)
  is_ne : {k r c κ : ℕ} → Quadrant k r c κ r (c + 2 ^ k) (child_key κ k 2)
  is_sw : {k r c κ : ℕ} → Quadrant k r c κ (r + 2 ^ k) c (child_key κ k 3)
  is_se : {k r c κ : ℕ} → Quadrant k r c κ (r + 2 ^ k) (c + 2 ^ k) (child_key κ k 4)

-- a pixel lies in the square of height k at a row and a column
pub record InSquare (k r c row column : ℕ) : Type 0 where
  pub top : r ≤ row
  pub bottom : row < r + 2 ^ k
  pub left : c ≤ column
  pub right : column < c + 2 ^ k

-- what holds at every pixel of the block
abbrev pub Every : (ℕ → ℕ → Type 0) → ℕ → ℕ → ℕ → Type 0
Every P k r c = (r' c' : ℕ) → InSquare k r c r' c' → P r' c'
