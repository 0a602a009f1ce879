-- A turn of the walk over a node's quadrants: where it begins, the quadrant that the bitstrings show next, and what is left after it was filled.
-- Rests on Quadrants and Shown.
use Prim.Native.Nat.{ℕ, zero, suc, ◌+◌, ◌*◌, ◌/◌, ◌%◌, ◌^◌, ◌≤◌, ◌<◌}
use mathlib.Core.Path.{◌≡◌, refl, sym, ◌∙◌, ap, ap₂}
use mathlib.Core.Bool.{true, false}
use mathlib.Core.List.{List, ◌++◌}
use native.Mathlib.Nat.{pow-suc, add-mul, mul-le-mul_right, add_assoc}
use native.Mathlib.Numerals.{add-one}
use native.Mathlib.Omega.{arith}
use lib.ListN.{length, get_or, drop, length-map}
use lib.Seq.{drop-drop, drop_at}
use lib.Pow.{pow_pos}
use Rattle.keys.specs.Key.{child_key}
use Rattle.keys.proofs.Cases.{decide}
use Rattle.definitions.specs.Picture.{Picture, one_feature}
use Rattle.definitions.specs.Bits.{feature_of}
use Rattle.definitions.specs.List.{values_of, list_of}
use Rattle.list.specs.Check.{one_slot}
use Rattle.list.specs.Quadrants.{quadrant_row, quadrant_column}
use Rattle.list.proofs.ShownQuadrants.{quadrant_list, lists_from, lists_all}
use Rattle.read.specs.Fill.{rectangle_painted, corner_of, Shows, ShowsNode, BlockFilled, NodeFilled}
use Rattle.read.proofs.Rectangle.{rectangle-length}
use Rattle.read.proofs.Quadrants.{quadrant_painted, paints_from, paints_all, QuadrantsPassed, Opened, open_next}
use Rattle.read.proofs.Shown.{shows_room, shows_slots, shows_square, leaf-length, leaf_painted, node_asked, node_filled}

-- the corner of a quadrant, by its row and column
corner_is : (d r c wide half : ℕ) → corner_of d (r * wide + c) half (half * wide) ≡ quadrant_row d r half * wide + quadrant_column d c half
unfolding corner_of quadrant_row quadrant_column
corner_is zero r c wide half = refl
corner_is (suc zero) r c wide half = add_assoc (r * wide) c half
corner_is (suc (suc zero)) r c wide half = let e = add-mul r half wide in omega arith
corner_is (suc (suc (suc d))) r c wide half = let e = add-mul r half wide in omega arith

row_most : (d r half : ℕ) → quadrant_row d r half ≤ r + half
unfolding quadrant_row
row_most zero r half = omega arith
row_most (suc zero) r half = omega arith
row_most (suc (suc d)) r half = omega arith

column_most : (d c half : ℕ) → quadrant_column d c half ≤ c + half
unfolding quadrant_column
column_most zero c half = omega arith
column_most (suc zero) c half = omega arith
column_most (suc (suc zero)) c half = omega arith
column_most (suc (suc (suc d))) c half = omega arith

module _ {p : Picture} {k r c κ : ℕ} {bits : List ℕ} {at wide place side long : ℕ} (s : Shows p (suc k) r c κ bits at wide place side long) where
  pub half_is : side / 2 ≡ 2 ^ k
  half_is = let e = s.sides in let f = pow-suc 2 k in omega arith

  pub begins : (raster : List ℕ) → one_feature p (suc k) r c ≡ false → QuadrantsPassed p k r c κ bits at wide side raster raster (at + 1) 0
  begins raster several =
      let all = lists_all p k r c κ several in
      let e = ap length all in
      let f = s.sides in
      let g = pow-suc 2 k in
      record {
        left = 4;
        count = refl;
        rest = s.rest;
        values = sym (drop-drop 1 at bits) ∙ ap (drop 1) (s.values ∙ ap (λ l. values_of l ++ s.rest) all);
        ends = omega arith;
        paints = paints_all wide p (2 ^ k) side r c raster (omega arith);
        long = refl;
      }

  module _ {raster₀ raster : List ℕ} {next d : ℕ} (o : Opened p k r c κ bits at wide side raster₀ raster next d) where
    -- the bitstrings go on with the next quadrant
    pub child_shows : Shows p k (quadrant_row d r (2 ^ k)) (quadrant_column d c (2 ^ k)) (child_key κ k (suc d)) bits next wide (corner_of d place (side / 2) (side / 2 * wide)) (side / 2) long
    child_shows =
        let half = half_is in
        let row = row_most d r (2 ^ k) in
        let column = column_most d c (2 ^ k) in
        let h = s.columns in
        let i = s.rows in
        let j = s.sides in
        let l = pow-suc 2 k in
        let m = mul-le-mul_right {m = quadrant_row d r (2 ^ k) + side / 2} {n = r + side} wide (omega arith) in
        record {
          rest = values_of (lists_from p k r c κ (suc d) o.left) ++ o.rest;
          values = o.values;
          sides = half;
          corner = ap₂ (λ x y. corner_of d x y (y * wide)) s.corner half ∙ corner_is d r c wide (2 ^ k);
          columns = omega arith;
          rows = omega arith;
        }

    -- after the quadrant was painted and its list passed
    pub turn : (after : List ℕ) (next' : ℕ)
        → after ≡ quadrant_painted wide p (2 ^ k) r c d raster
        → next' ≡ next + length (quadrant_list p k r c κ d)
        → QuadrantsPassed p k r c κ bits at wide side raster₀ after next' (d + 1)
    turn after next' e f =
        let n = o.ends in
        let q = o.count in
        let lengths = length-map (quadrant_list p k r c κ d) (λ x. x.value) in
        rw (add-one d)
        (record {
          left = o.left;
          count = omega arith;
          rest = o.rest;
          values = ap (λ i. drop i bits) f ∙ sym (drop-drop (length (quadrant_list p k r c κ d)) next bits) ∙ ap (drop (length (quadrant_list p k r c κ d))) o.values ∙ drop_at (values_of (quadrant_list p k r c κ d)) _ _ lengths;
          ends = omega arith;
          paints = ap (paints_from wide p (2 ^ k) r c (suc d) o.left) e ∙ o.paints;
          long = ap length e ∙ rectangle-length wide p _ _ _ _ raster ∙ o.long;
        })

shows_long : {p : Picture} {k r c κ : ℕ} {bits : List ℕ} {at wide place side long long' : ℕ} → long' ≡ long → Shows p k r c κ bits at wide place side long → Shows p k r c κ bits at wide place side long'
shows_long e s = rw e s

-- where no quadrant is left, the node is filled
all_left : {p : Picture} {k r c κ : ℕ} {at wide side : ℕ} {raster₀ raster : List ℕ} {next : ℕ} (d left : ℕ)
    → d + left ≡ 4
    → d ≡ 4
    → next + length (lists_from p k r c κ d left) ≡ at + length (list_of p (suc k) r c κ)
    → paints_from wide p (2 ^ k) r c d left raster ≡ rectangle_painted wide p r c side side raster₀
    → BlockFilled p (suc k) r c κ at wide side raster₀ raster next
unfolding lists_from paints_from
all_left d zero count h ends paints = record { pixels = paints; ends = omega arith }
all_left d (suc left) count h ends paints = absurd (omega arith)

all_passed : {p : Picture} {k r c κ : ℕ} {bits : List ℕ} {at wide side : ℕ} {raster₀ raster : List ℕ} {next d : ℕ}
    → QuadrantsPassed p k r c κ bits at wide side raster₀ raster next d
    → d ≡ 4
    → BlockFilled p (suc k) r c κ at wide side raster₀ raster next
all_passed {d = d} x h = all_left d x.left x.count h x.ends x.paints

-- after some turns, whichever node the bitstrings show
pub record FillReached (bits raster₀ : List ℕ) (at wide place side : ℕ) (raster : List ℕ) (next d : ℕ) : Type 0 where
  pub most : d ≤ 4
  pub passed : (p : Picture) (k r c κ : ℕ)
      → Shows p (suc k) r c κ bits at wide place side (length raster₀)
      → one_feature p (suc k) r c ≡ false
      → QuadrantsPassed p k r c κ bits at wide side raster₀ raster next d

pub fill_reached_none : (bits raster : List ℕ) (at wide place side : ℕ) → FillReached bits raster at wide place side raster (at + 1) 0
fill_reached_none bits raster at wide place side = record { most = omega arith; passed = λ p k r c κ s several. begins s raster several }

-- a turn that paints the quadrant and passes its list, whichever node the bitstrings show
module _ {bits raster₀ : List ℕ} {at wide place side : ℕ} {raster : List ℕ} {next d : ℕ} (x : FillReached bits raster₀ at wide place side raster next d) where
  -- the quadrant that follows
  module _ (h : d < 4) {p : Picture} {k r c κ : ℕ} (s : Shows p (suc k) r c κ bits at wide place side (length raster₀)) (several : one_feature p (suc k) r c ≡ false) where
    opened : Opened p k r c κ bits at wide side raster₀ raster next d
    opened = open_next (x.passed p k r c κ s several) h

    child : Shows p k (quadrant_row d r (2 ^ k)) (quadrant_column d c (2 ^ k)) (child_key κ k (suc d)) bits next wide (corner_of d place (side / 2) (side / 2 * wide)) (side / 2) (length raster)
    child = shows_long opened.long (child_shows s opened)

    turn_painted : (after : List ℕ) (next' : ℕ)
        → after ≡ rectangle_painted wide p (quadrant_row d r (2 ^ k)) (quadrant_column d c (2 ^ k)) (side / 2) (side / 2) raster
        → next' ≡ next + length (quadrant_list p k r c κ d)
        → QuadrantsPassed p k r c κ bits at wide side raster₀ after next' (d + 1)
    turn_painted after next' e f =
        turn s opened after next'
        (e ∙ ap (λ y. rectangle_painted wide p (quadrant_row d r (2 ^ k)) (quadrant_column d c (2 ^ k)) y y raster) (half_is s)) f

  pub leaf_turn : (corner f : ℕ) (after : List ℕ) (next' : ℕ)
      → d < 4
      → corner ≡ corner_of d place (side / 2) (side / 2 * wide)
      → one_slot (get_or bits next 0) ≡ true
      → f ≡ feature_of (get_or bits next 0)
      → after ≡ rectangle_painted wide (λ a b. f) (corner / wide) (corner % wide) (side / 2) (side / 2) raster
      → next' ≡ next + 1
      → FillReached bits raster₀ at wide place side after next' (d + 1)
  leaf_turn corner f after next' h is leaf feature e one =
      record {
        most = omega arith;
        passed = λ p k r c κ s several.
            let q = child h s several in
            turn_painted h s several after next'
            (e
            ∙ ap₂ (λ g y. rectangle_painted wide (λ a b. g) (y / wide) (y % wide) (side / 2) (side / 2) raster) feature is
            ∙ leaf_painted q leaf raster)
            (one ∙ ap (λ n. next + n) (sym (leaf-length q leaf)));
      }

  -- the node's side may be known by another number
  pub node_turn : (corner half : ℕ) (after after' : List ℕ) (next' next'' : ℕ)
      → d < 4
      → corner ≡ corner_of d place (side / 2) (side / 2 * wide)
      → side / 2 ≡ half
      → one_slot (get_or bits next 0) ≡ false
      → NodeFilled bits next wide corner half raster after next'
      → after' ≡ after
      → next'' ≡ next'
      → FillReached bits raster₀ at wide place side after' next'' (d + 1)
  node_turn corner half after after' next' next'' h is half-known node f same same' =
      record {
        most = omega arith;
        passed = λ p k r c κ s several.
            let g : NodeFilled bits next wide (corner_of d place (side / 2) (side / 2 * wide)) (side / 2) raster after next' = rw (← is, half-known) f in
            let b = node_filled g (child h s several) node in
            turn_painted h s several after' next'' (same ∙ b.pixels) (same' ∙ b.ends);
      }

  -- after four turns the node is filled
  pub reached_all : 4 ≤ d → NodeFilled bits at wide place side raster₀ raster next
  reached_all h = record { holds = λ p k r c κ s several. all_passed (x.passed p k r c κ s several) (omega (arith, x.most)) }

  -- what the code may do at a turn, since the bitstrings show some node
  module _ (e : ShowsNode bits at wide place side (length raster₀)) where
    module _ (h : d < 4) where
      pub next_room : next < length bits
      next_room = shows_room (child h e.shows e.several)

      pub next_slots : 0 < get_or bits next 0
      next_slots = shows_slots (child h e.shows e.several)

      -- a quadrant of side 1 is a leaf: a node has a longer side
      pub pixel_leaf : side ≡ 2 → one_slot (get_or bits next 0) ≡ true
      pixel_leaf is =
          decide (one_slot (get_or bits next 0)) (λ t. t)
          (λ f. let n = node_asked (child h e.shows e.several) f in
          let long = n.shows.sides in
          let g = pow-suc 2 n.height in
          let i = pow_pos n.height in
          absurd (omega arith))

      pub leaf_asked : (corner : ℕ) → corner ≡ corner_of d place (side / 2) (side / 2 * wide) → (corner % wide + side / 2 ≤ wide) × ((corner / wide + side / 2) * wide ≤ length raster) × (0 < wide)
      leaf_asked corner is = rw is (shows_square (child h e.shows e.several))

      pub child_asked : (corner : ℕ) → corner ≡ corner_of d place (side / 2) (side / 2 * wide) → one_slot (get_or bits next 0) ≡ false → ShowsNode bits next wide corner (side / 2) (length raster)
      child_asked corner is node = rw is (node_asked (child h e.shows e.several) node)

-- the same with half the side as the code has it
module _ {bits raster₀ : List ℕ} {at wide place side half : ℕ} {raster : List ℕ} {next d : ℕ} (known : side / 2 ≡ half)
    (x : FillReached bits raster₀ at wide place side raster next d) (h : d < 4) (corner : ℕ) (is : corner ≡ corner_of d place half (half * wide)) where
  same_corner : corner ≡ corner_of d place (side / 2) (side / 2 * wide)
  same_corner = rw known is

  pub leaf_half : (f : ℕ) (after : List ℕ) (next' : ℕ)
      → one_slot (get_or bits next 0) ≡ true
      → f ≡ feature_of (get_or bits next 0)
      → after ≡ rectangle_painted wide (λ a b. f) (corner / wide) (corner % wide) half half raster
      → next' ≡ next + 1
      → FillReached bits raster₀ at wide place side after next' (d + 1)
  leaf_half f after next' leaf feature e one = leaf_turn x corner f after next' h same_corner leaf feature (rw known e) one

  pub node_half : (after after' : List ℕ) (next' next'' : ℕ)
      → one_slot (get_or bits next 0) ≡ false
      → NodeFilled bits next wide corner half raster after next'
      → after' ≡ after
      → next'' ≡ next'
      → FillReached bits raster₀ at wide place side after' next'' (d + 1)
  node_half after after' next' next'' = node_turn x corner half after after' next' next'' h same_corner known

  pub leaf_fits : ShowsNode bits at wide place side (length raster₀) → (corner % wide + half ≤ wide) × ((corner / wide + half) * wide ≤ length raster) × (0 < wide)
  leaf_fits e = rw (← known) (leaf_asked x e h corner same_corner)

  pub child_fits : ShowsNode bits at wide place side (length raster₀) → one_slot (get_or bits next 0) ≡ false → ShowsNode bits next wide corner half (length raster)
  child_fits e node = rw (← known) (child_asked x e h corner same_corner node)
