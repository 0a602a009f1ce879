-- Blocks whose pixels are alike, by their places in the raster: a block has one feature where each pixel that lies some rows and columns further
-- than its first has that feature. Rests on laws' Features.
use Prim.Native.Nat.{ℕ, zero, suc, ◌+◌, ◌-◌, ◌*◌, ◌^◌, ◌<◌}
use mathlib.Core.Path.{◌≡◌, refl, sym, ap, ap₂, ◌∙◌}
use mathlib.Core.Bool.{true, ◌&&◌}
use mathlib.Core.List.{List}
use native.Mathlib.Omega.{arith}
use native.Mathlib.Nat.{add-mul, add-zero}
use lib.Dec.{eqb}
use lib.ListN.{length, get_or}
use borrow.Author.Tests.{eqb-true}
use Rattle.keys.specs.Key.{slot_limit}
use Rattle.keys.proofs.Cases.{and_left, and_right}
use Rattle.definitions.specs.Picture.{one_feature}
use Rattle.laws.proofs.Features.{one_from_leaf}
use Rattle.build.specs.BuildBlocks.{picture_of_rows, word_at, Inside}
use Rattle.build.proofs.BuildInside.{inside_place, inside_pixel}

-- the place of a pixel that lies some rows and columns further
further : (row side column a b : ℕ) → (row + a) * side + (column + b) ≡ row * side + column + a * side + b
further row side column a b = let e = add-mul row a side in omega arith

-- it is a place of the raster where the pixel is of the block
pub further_inside : {raster : List ℕ} {side h r c : ℕ} → Inside raster side h r c → (a b : ℕ) → a < 2 ^ h → b < 2 ^ h → r * side + c + a * side + b < length raster
further_inside {side = side} {r = r} {c = c} i a b down right =
    let e = further r side c a b in
    let h = inside_place (inside_pixel i (r + a) (c + b) (omega arith) (omega arith)) in
    omega arith

-- what holds of 0 and 1 holds below 2
below_two : (P : ℕ → Type 0) → P 0 → P 1 → (a : ℕ) → a < 2 → P a
below_two P p₀ p₁ zero h = p₀
below_two P p₀ p₁ (suc zero) h = p₁
below_two P p₀ p₁ (suc (suc a)) h = absurd (omega arith)

-- and so below 4
below_four : (P : ℕ → Type 0) → P 0 → P 1 → P 2 → P 3 → (a : ℕ) → a < 4 → P a
below_four P p₀ p₁ p₂ p₃ zero h = p₀
below_four P p₀ p₁ p₂ p₃ (suc zero) h = p₁
below_four P p₀ p₁ p₂ p₃ (suc (suc zero)) h = p₂
below_four P p₀ p₁ p₂ p₃ (suc (suc (suc zero))) h = p₃
below_four P p₀ p₁ p₂ p₃ (suc (suc (suc (suc a)))) h = absurd (omega arith)

-- a number equals three others
three_equal : (a b c d : ℕ) → eqb a b && eqb a c && eqb a d ≡ true → (a ≡ b) × (a ≡ c) × (a ≡ d)
three_equal a b c d t =
    let u = and_left (eqb a b && eqb a c) (eqb a d) t in
    (eqb-true a b (and_left (eqb a b) (eqb a c) u), eqb-true a c (and_right (eqb a b) (eqb a c) u), eqb-true a d (and_right (eqb a b && eqb a c) (eqb a d) t))

-- four numbers equal another
pub all_four_equal : (a b c d f : ℕ) → eqb a f && eqb b f && eqb c f && eqb d f ≡ true → (a ≡ f) × (b ≡ f) × (c ≡ f) × (d ≡ f)
all_four_equal a b c d f t =
    let u = and_left (eqb a f && eqb b f && eqb c f) (eqb d f) t in
    let v = and_left (eqb a f && eqb b f) (eqb c f) u in (
      eqb-true a f (and_left (eqb a f) (eqb b f) v),
      eqb-true b f (and_right (eqb a f) (eqb b f) v),
      eqb-true c f (and_right (eqb a f && eqb b f) (eqb c f) u),
      eqb-true d f (and_right (eqb a f && eqb b f && eqb c f) (eqb d f) t),
    )

-- equal numbers have equal digits
digit : (a f x y : ℕ) → a < 256 → f < 256 → a + 256 * x ≡ f + 256 * y → (a ≡ f) × (x ≡ y)
digit a f x y ha hf e = let h : x ≡ y = omega arith in (omega arith, h)

-- a word whose digits are all f
module _ (raster : List ℕ) (features : (i : ℕ) → get_or raster i 0 < slot_limit) (f : ℕ) (small : f < slot_limit) (i : ℕ) (w : word_at raster i ≡ f * 16843009) where
  row_alike : (b : ℕ) → b < 4 → get_or raster (i + b) 0 ≡ f
  row_alike =
      let h₀ = features i in
      let h₁ = features (i + 1) in
      let h₂ = features (i + 2) in
      let u = digit (get_or raster i 0) f (get_or raster (i + 1) 0 + 256 * (get_or raster (i + 2) 0 + 256 * get_or raster (i + 3) 0)) (f + 256 * (f + 256 * f)) (omega arith) (omega arith) (omega arith) in
      let v = digit (get_or raster (i + 1) 0) f (get_or raster (i + 2) 0 + 256 * get_or raster (i + 3) 0) (f + 256 * f) (omega arith) (omega arith) u.1 in
      let x = digit (get_or raster (i + 2) 0) f (get_or raster (i + 3) 0) f (omega arith) (omega arith) v.1 in
      below_four (λ b. get_or raster (i + b) 0 ≡ f) (ap (λ n. get_or raster n 0) (add-zero i) ∙ u.0) v.0 x.0 x.1

module _ (side : ℕ) (raster : List ℕ) (row column : ℕ) where
  -- a block of any height
  pub block_alike : (k f : ℕ) → ((a b : ℕ) → a < 2 ^ k → b < 2 ^ k → get_or raster (row * side + column + a * side + b) 0 ≡ f)
      → one_feature (picture_of_rows side raster) k row column ≡ true
  block_alike k f same =
      one_from_leaf (picture_of_rows side raster) f k row column
      (λ r' c' w.
      let down : r' ≡ row + (r' - row) = omega arith in
      let right : c' ≡ column + (c' - column) = omega arith in
      ap (λ i. get_or raster i 0) (ap₂ (λ x y. x * side + y) down right ∙ further row side column (r' - row) (c' - column))
      ∙ same (r' - row) (c' - column) (omega arith) (omega arith))

  -- a block of 2 by 2, by the test that the code makes
  module _ (t : eqb (get_or raster (row * side + column) 0) (get_or raster (row * side + column + 1) 0)
      && eqb (get_or raster (row * side + column) 0) (get_or raster (row * side + column + side) 0)
      && eqb (get_or raster (row * side + column) 0) (get_or raster (row * side + column + side + 1) 0) ≡ true) where
    -- a place whose pixel equals the first
    same_at : (i j : ℕ) → i ≡ j → get_or raster (row * side + column) 0 ≡ get_or raster j 0 → get_or raster i 0 ≡ get_or raster (row * side + column) 0
    same_at i j e h = ap (λ x. get_or raster x 0) e ∙ sym h

    pub quad_one : one_feature (picture_of_rows side raster) 1 row column ≡ true
    quad_one =
        let h = three_equal (get_or raster (row * side + column) 0) (get_or raster (row * side + column + 1) 0) (get_or raster (row * side + column + side) 0) (get_or raster (row * side + column + side + 1) 0) t in
        block_alike 1 (get_or raster (row * side + column) 0)
        (λ a b down right.
        below_two (λ a. get_or raster (row * side + column + a * side + b) 0 ≡ get_or raster (row * side + column) 0)
        (below_two (λ b. get_or raster (row * side + column + 0 * side + b) 0 ≡ get_or raster (row * side + column) 0)
        (same_at _ (row * side + column) (omega arith) refl)
        (same_at _ (row * side + column + 1) (omega arith) h.0)
        b right)
        (below_two (λ b. get_or raster (row * side + column + 1 * side + b) 0 ≡ get_or raster (row * side + column) 0)
        (same_at _ (row * side + column + side) (omega arith) h.1)
        (same_at _ (row * side + column + side + 1) (omega arith) h.2)
        b right)
        a down)

  -- a block of 4 by 4 whose rows are the same word
  pub sixteen_one : ((i : ℕ) → get_or raster i 0 < slot_limit) → (f : ℕ) → f < slot_limit
      → word_at raster (row * side + column) ≡ f * 16843009
      → word_at raster (row * side + column + side) ≡ f * 16843009
      → word_at raster (row * side + column + side + side) ≡ f * 16843009
      → word_at raster (row * side + column + side + side + side) ≡ f * 16843009
      → one_feature (picture_of_rows side raster) 2 row column ≡ true
  sixteen_one features f small w₀ w₁ w₂ w₃ =
      block_alike 2 f
      (λ a b down right.
      below_four (λ a. get_or raster (row * side + column + a * side + b) 0 ≡ f)
      (ap (λ n. get_or raster n 0) (omega arith) ∙ row_alike raster features f small (row * side + column) w₀ b right)
      (ap (λ n. get_or raster n 0) (omega arith) ∙ row_alike raster features f small (row * side + column + side) w₁ b right)
      (ap (λ n. get_or raster n 0) (omega arith) ∙ row_alike raster features f small (row * side + column + side + side) w₂ b right)
      (ap (λ n. get_or raster n 0) (omega arith) ∙ row_alike raster features f small (row * side + column + side + side + side) w₃ b right)
      a
      down)
