-- Two pictures that are equal outside a block: they are equal outside every block around it, and on every block that does not meet it, with
-- the same bits and list there. Rests on the keys' squares and intervals.
use Prim.Native.Nat.{ℕ, suc, ◌+◌, ◌^◌, ◌≤◌}
use mathlib.Core.Path.{◌≡◌}
use mathlib.Core.Logic.{◌⊎◌, inl, inr}
use native.Mathlib.Omega.{arith}
use Rattle.keys.specs.Under.{Under, MapBlock, Quadrant, InSquare}
use Rattle.keys.proofs.Under.{quadrant_under}
use Rattle.keys.proofs.Interval.{within, intervals-apart}
use Rattle.keys.proofs.Pixel.{InKeys, inside}
use Rattle.keys.proofs.Parent.{quadrant_of}
use Rattle.definitions.specs.Picture.{Picture}
use Rattle.laws.proofs.Within.{under_within}
use Rattle.laws.proofs.Pixels.{Agree}

-- the pictures are equal at every pixel that does not lie in the block
abbrev pub Outside : Picture → Picture → ℕ → ℕ → ℕ → Type 0
Outside p q k r c = (a b : ℕ) → (InSquare k r c a b → ⊥) → p a b ≡ q a b

-- what is outside a block is outside every block under it
pub outside_up : {p q : Picture} {k r c κ k' r' c' κ' : ℕ} → Under k r c κ k' r' c' κ' → Outside p q k' r' c' → Outside p q k r c
outside_up u h a b w = h a b (λ v. w (under_within u v))

-- the keys of two blocks do not meet
abbrev Apart : ℕ → ℕ → ℕ → ℕ → Type 0
Apart k κ k' κ' = (κ + 5 ^ k ≤ κ') ⊎ (κ' + 5 ^ k' ≤ κ)

-- blocks whose keys do not meet have no pixel in common
pub apart_pixels : {m k r c κ k' r' c' κ' a b : ℕ}
    → MapBlock m k r c κ
    → MapBlock m k' r' c' κ'
    → Apart k κ k' κ'
    → InSquare k r c a b
    → InSquare k' r' c' a b
    → ⊥
apart_pixels u v d w w' = go d (inside u w) (inside v w')
  where
    go : {k κ k' κ' x : ℕ} → Apart k κ k' κ' → InKeys k κ x → InKeys k' κ' x → ⊥
    go (inl h) i j = omega arith
    go (inr h) i j = omega arith

-- pictures that are equal outside a block agree on every block that does not meet it
pub agree_apart : {p q : Picture} {m k r c κ k' r' c' κ' : ℕ}
    → MapBlock m k r c κ
    → MapBlock m k' r' c' κ'
    → Apart k κ k' κ'
    → Outside p q k r c
    → Agree p q k' r' c'
agree_apart u v d h a b w = h a b (λ w'. apart_pixels u v d w' w)

-- two quadrants of one block with different keys do not meet
pub quadrants_apart : {k r c κ r₁ c₁ κ₁ r₂ c₂ κ₂ : ℕ}
    → Quadrant k r c κ r₁ c₁ κ₁
    → Quadrant k r c κ r₂ c₂ κ₂
    → (κ₂ ≡ κ₁ → ⊥)
    → Apart k κ₁ k κ₂
quadrants_apart q q' other =
    intervals-apart (quadrant_under q) (quadrant_under q')
    (λ u. absurd (other (let w = within u in omega arith)))
    (λ u. absurd (other (let w = within u in omega arith)))
    inl
    inr

-- a quadrant and its siblings: pictures that are equal outside a quadrant agree on every other quadrant of its block
pub agree_sibling : {p p' : Picture} {m k r c κ r₁ c₁ κ₁ r₂ c₂ κ₂ : ℕ}
    → MapBlock m (suc k) r c κ
    → Quadrant k r c κ r₁ c₁ κ₁
    → Quadrant k r c κ r₂ c₂ κ₂
    → (κ₂ ≡ κ₁ → ⊥)
    → Outside p p' k r₁ c₁
    → Agree p p' k r₂ c₂
agree_sibling b q q' other h = agree_apart (quadrant_of b q) (quadrant_of b q') (quadrants_apart q q' other) h
