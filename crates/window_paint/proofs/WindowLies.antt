-- How a block lies to a window, as it is told: by the walk's tests of a block. Rests on LargestBlocks.
use Prim.Native.Nat.{ℕ, zero, suc, ◌+◌, ◌-◌, ◌^◌, ◌≤◌, ◌<◌}
use mathlib.Core.Path.{◌≡◌, refl, sym, ◌∙◌}
use mathlib.Core.Bool.{true, false, true≢false}
use native.Mathlib.Omega.{arith}
use Rattle.keys.proofs.Cases.{decide}
use Rattle.keys.proofs.Interval.{within}
use Rattle.keys.proofs.Powers.{two_le, two_pos}
use Rattle.keys.specs.Child.{InMap, block_square}
use Rattle.keys.specs.declared.block.TreeBlock.{TreeBlock}
use Rattle.definitions.specs.Window.{in_window, is_inside}
use Rattle.definitions.specs.declared.Window.{Window}
use Rattle.laws.proofs.Pixels.{every_to, every_from}
use Rattle.laws.proofs.WindowScan.{inside_window}
use Rattle.walk.specs.Walk.{Small, is_within, is_apart, square_spot, lie_of}
use Rattle.walk.specs.declared.lying.Lie.{Lie}
use Rattle.keys.specs.declared.Square.{Square}
use Rattle.walk.specs.declared.Spot.{Spot}
use Rattle.walk.proofs.Lies.{apart_pixel, within_pixel, not_apart, inside_within}
use Rattle.window_paint.specs.WindowLogging.{Placed, Lying}
use Rattle.window_paint.specs.Searching.{SmallWindow}
use Rattle.walk.specs.declared.lying.Lie.TheVariants.{Apart, Within, Cut}
use Rattle.laws.proofs.LargestBlocks.{covered_one}
use Rattle.window_paint.proofs.WindowEntries.{largest_none}

-- a block's place as the walk has it
abbrev spot_of : (b : TreeBlock) (side : ℕ) → Spot
spot_of b side = record { key = 0; row = b.row; column = b.column; side = side; step = 0 }

-- a block and a window of the map have small numbers
pub placed : {m : ℕ} {w : Window} {b : TreeBlock} → m ≤ 10 → SmallWindow w → InMap m b → Placed w b
placed deep a b =
    let i = within b in
    let two = two_le 10 deep in
    record {
      deep = omega (arith, i.height);
      rows = omega (arith, i.bottom);
      columns = omega (arith, i.right);
      low = a.low;
      narrow = a.narrow;
    }

module _ {w : Window} {b : TreeBlock} {side : ℕ} (a : Placed w b) (e : side ≡ 2 ^ b.height) where
  -- the sums that compare the block with the window are small
  pub small : Small (spot_of b side) w
  small = record { rows = omega (arith, a.rows, e); columns = omega (arith, a.columns, e); height = a.low; width = a.narrow }

  pub lies_apart : is_apart (spot_of b side) w ≡ true → Lying w b Apart
  lies_apart h =
      largest_none w b.height b.row b.column b.key
      (λ row column i. decide (in_window w row column) (λ j. absurd (apart_pixel (spot_of b side) w row column h (omega arith) j)) (λ j. j))

  pub lies_within : is_within (spot_of b side) w ≡ true → Lying w b Within
  unfolding is_inside
  lies_within h =
      covered_one w b.height b.row b.column b.key
      (every_from (in_window w) b.height b.row b.column (λ row column i. within_pixel (spot_of b side) w row column h (omega arith)))

  -- a covered block has its rows and columns in the window: those of its first and of its last pixel
  covered_within : is_inside w b.height b.row b.column ≡ true → is_within (spot_of b side) w ≡ true
  unfolding is_inside
  covered_within h =
      let some = two_pos b.height in
      let first = inside_window w b.row b.column (every_to (in_window w) b.height b.row b.column h b.row b.column (omega arith)) in
      let last = inside_window w (b.row + side - 1) (b.column + side - 1) (every_to (in_window w) b.height b.row b.column h (b.row + side - 1) (b.column + side - 1) (omega arith)) in
      inside_within (spot_of b side) w (omega arith)

  pub lies_cut : is_apart (spot_of b side) w ≡ false → is_within (spot_of b side) w ≡ false → Lying w b Cut
  lies_cut h i = (higher b.height e, decide (is_inside w b.height b.row b.column) (λ j. absurd (true≢false (sym (covered_within j) ∙ i))) (λ j. j))
    where
      higher : (k : ℕ) → side ≡ 2 ^ k → 0 < k
      higher zero e = let j = not_apart (spot_of b side) w h in absurd (true≢false (sym (inside_within (spot_of b side) w (omega arith)) ∙ i))
      higher (suc k) e = omega arith

-- as the walk tells it of the block's pixels
module _ {w : Window} {b : TreeBlock} (a : Placed w b) {q : Square} (e : q ≡ block_square b) where
  pub small_told : Small (square_spot q) w
  small_told = rw e (small a refl)

  pub lies_told : {lie : Lie} → lie ≡ lie_of q w → Lying w b lie
  unfolding lie_of
  lies_told f =
      rw (f, e)
      (decide (is_apart (square_spot (block_square b)) w)
      (λ t. rw t (lies_apart a refl t))
      (λ t. rw t
      (decide (is_within (square_spot (block_square b)) w) (λ i. rw i (lies_within a refl i)) (λ i. rw i (lies_cut a refl t i)))))
