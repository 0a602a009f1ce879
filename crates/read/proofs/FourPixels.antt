-- Four turns of the filling of a node of side 2, each a pixel, and what the code may read and write at each of them. Rests on FillTurn.
use Prim.Native.Nat.{ℕ, ◌+◌, ◌*◌, ◌/◌, ◌%◌, ◌≤◌, ◌<◌}
use mathlib.Core.Path.{◌≡◌, refl}
use mathlib.Core.Bool.{true}
use mathlib.Core.List.{List}
use native.Mathlib.Omega.{arith}
use lib.ListN.{length, get_or}
use Rattle.definitions.specs.Bits.{feature_of}
use Rattle.list.specs.Check.{one_slot}
use Rattle.read.specs.Fill.{rectangle_painted, corner_of, ShowsNode, NodeFilled}
use Rattle.read.proofs.FillTurn.{FillReached, fill_reached_none, reached_all, next_room, pixel_leaf, leaf_asked, leaf_turn}

-- a pixel at a place gets a feature
abbrev pub with_pixel : ℕ → ℕ → ℕ → List ℕ → List ℕ
with_pixel wide f place raster = rectangle_painted wide (λ a b. f) (place / wide) (place % wide) 1 1 raster

-- before pixel d is filled: its record is at the place next, its corner in the raster
pub record PixelTurn (bits raster₀ : List ℕ) (at wide place : ℕ) (raster : List ℕ) (next d corner : ℕ) : Type 0 where
  pub reached : FillReached bits raster₀ at wide place 2 raster next d
  pub there : next < length bits
  pub leaf : one_slot (get_or bits next 0) ≡ true
  pub asked : (corner % wide + 1 ≤ wide) × ((corner / wide + 1) * wide ≤ length raster) × (0 < wide)
  pub is : corner ≡ corner_of d place 1 (1 * wide)

-- the corners of the four
module _ (place wide : ℕ) where
  corner_nw : place ≡ corner_of 0 place 1 (1 * wide)
  unfolding corner_of
  corner_nw = refl

  corner_ne : place + 1 ≡ corner_of 1 place 1 (1 * wide)
  unfolding corner_of
  corner_ne = refl

  corner_sw : place + wide ≡ corner_of 2 place 1 (1 * wide)
  unfolding corner_of
  corner_sw = omega arith

  corner_se : place + wide + 1 ≡ corner_of 3 place 1 (1 * wide)
  unfolding corner_of
  corner_se = omega arith

module _ {bits : List ℕ} (raster₀ : List ℕ) {at wide place : ℕ} (node : ShowsNode bits at wide place 2 (length raster₀)) where
  turn : {raster : List ℕ} {next d : ℕ} (corner : ℕ) → FillReached bits raster₀ at wide place 2 raster next d → d < 4 → corner ≡ corner_of d place 1 (1 * wide) → PixelTurn bits raster₀ at wide place raster next d corner
  turn corner x h e = record { reached = x; there = next_room x node h; leaf = pixel_leaf x node h refl; asked = leaf_asked x node h corner e; is = e }

  filled : {raster after : List ℕ} {next d corner : ℕ} (next' : ℕ)
      → PixelTurn bits raster₀ at wide place raster next d corner
      → d < 4
      → {f : ℕ}
      → f ≡ feature_of (get_or bits next 0)
      → after ≡ with_pixel wide f corner raster
      → next' ≡ next + 1
      → FillReached bits raster₀ at wide place 2 after next' (d + 1)
  filled {corner = corner} next' x h {f} feature e one = leaf_turn x.reached corner f _ next' h x.is x.leaf feature e one

  pub turn_nw : PixelTurn bits raster₀ at wide place raster₀ (at + 1) 0 place
  turn_nw = turn place (fill_reached_none bits raster₀ at wide place 2) (omega arith) (corner_nw place wide)

  module _ {one : List ℕ} {f₁ : ℕ} (is₁ : f₁ ≡ feature_of (get_or bits (at + 1) 0)) (nw : one ≡ with_pixel wide f₁ place raster₀) where
    pub turn_ne : PixelTurn bits raster₀ at wide place one (at + 2) 1 (place + 1)
    turn_ne = turn (place + 1) (filled (at + 2) turn_nw (omega arith) is₁ nw (omega arith)) (omega arith) (corner_ne place wide)

    module _ {two : List ℕ} {f₂ : ℕ} (is₂ : f₂ ≡ feature_of (get_or bits (at + 2) 0)) (ne : two ≡ with_pixel wide f₂ (place + 1) one) where
      pub turn_sw : PixelTurn bits raster₀ at wide place two (at + 3) 2 (place + wide)
      turn_sw = turn (place + wide) (filled (at + 3) turn_ne (omega arith) is₂ ne (omega arith)) (omega arith) (corner_sw place wide)

      module _ {three : List ℕ} {f₃ : ℕ} (is₃ : f₃ ≡ feature_of (get_or bits (at + 3) 0)) (sw : three ≡ with_pixel wide f₃ (place + wide) two) where
        pub turn_se : PixelTurn bits raster₀ at wide place three (at + 4) 3 (place + wide + 1)
        turn_se = turn (place + wide + 1) (filled (at + 4) turn_sw (omega arith) is₃ sw (omega arith)) (omega arith) (corner_se place wide)

        pub four_filled : {four : List ℕ} {f₄ : ℕ} → f₄ ≡ feature_of (get_or bits (at + 4) 0) → four ≡ with_pixel wide f₄ (place + wide + 1) three → NodeFilled bits at wide place 2 raster₀ four (at + 5)
        four_filled is₄ se = reached_all (filled (at + 5) turn_se (omega arith) is₄ se (omega arith)) (omega arith)

  -- what stands there can be read before any of it is filled
  abbrev one' : List ℕ
  one' = with_pixel wide (feature_of (get_or bits (at + 1) 0)) place raster₀

  abbrev two' : List ℕ
  two' = with_pixel wide (feature_of (get_or bits (at + 2) 0)) (place + 1) one'

  abbrev three' : List ℕ
  three' = with_pixel wide (feature_of (get_or bits (at + 3) 0)) (place + wide) two'

  pub leaf_ne : one_slot (get_or bits (at + 2) 0) ≡ true
  leaf_ne = (turn_ne {one = one'} refl refl).leaf

  pub leaf_sw : one_slot (get_or bits (at + 3) 0) ≡ true
  leaf_sw = (turn_sw {one = one'} refl refl {two = two'} refl refl).leaf

  pub leaf_se : one_slot (get_or bits (at + 4) 0) ≡ true
  leaf_se = (turn_se {one = one'} refl refl {two = two'} refl refl {three = three'} refl refl).leaf

  pub four_there : at + 4 < length bits
  four_there = (turn_se {one = one'} refl refl {two = two'} refl refl {three = three'} refl refl).there
