-- `after` meets its contract: at each turn the block ends where the given one does, so what follows it is what is sought. It climbs while it
-- is in the south-east, and a block as high as the map is the root.
use Prim.Native.Nat.{ℕ, suc, ◌+◌, ◌-◌, ◌*◌, ◌^◌, ◌≤◌, ◌<◌}
use mathlib.Core.Path.{◌≡◌, refl, sym, ap, ◌∙◌}
use native.Mathlib.Nat.{pow-suc}
use native.Mathlib.Omega.{arith}
use lib.Bits.{bit_and}
use lib.Pow.{pow_mono, pow-lt}
use Rattle.keys.proofs.Cases.{split}
use Rattle.keys.proofs.Powers.{five_le, two_le}
use Rattle.keys.proofs.Interval.{within, same_block}
use Rattle.walk.specs.declared.Spot.{Spot}
use Rattle.walk.specs.Walk.{BlockSpot}
use Rattle.walk.proofs.Place.{goes_east, goes_south_west, goes_up, as_high, SouthWest, SouthEast}
use Rattle.walk.proofs.after.Invariants.{Climb}
use Rattle.walk.proofs.after.Goals as goal
use Rattle.walk.proofs.after.Goals.{In-loop-side}

begins : (m : ℕ) (s : Spot) → BlockSpot m s → Climb m (s.key + s.step) s.row s.column s.side s.step
begins m s h =
    record { height = h.height; own = s.key; block = h.block; ends = omega (arith, h.step); sides = h.side; steps = h.step }

-- a block lies in the map, whose powers are small
record Bounds (row column side step : ℕ) : Type 0 where
  rows : row + side ≤ 1024
  columns : column + side ≤ 1024
  high : step ≤ 9765625

bounds : {m key row column side step : ℕ} → m ≤ 10 → Climb m key row column side step → Bounds row column side step
bounds {m} small p =
    let w = within p.block in
    let five = five_le 10 small in
    let two = two_le 10 small in
    omega (arith, p.sides, p.steps)

-- and so do its keys
small_key : {m key row column side step : ℕ} → m ≤ 10 → Climb m key row column side step → key ≤ 9765625
small_key {m} small p = let w = within p.block in let five = five_le 10 small in omega (arith, p.ends)

-- the block is lower than the map where its side is smaller
lower : {m key row column side step whole : ℕ} → (p : Climb m key row column side step) → whole ≡ 2 ^ m → side < whole → p.height < m
lower {m} p e h = split p.height m (λ low. low) (λ high. let q = pow_mono high in absurd (omega (arith, p.sides)))

module _ {m key row column side step : ℕ} (p : Climb m key row column side step) (low : p.height < m) where
  clear : (x : ℕ) → bit_and x side ≡ 0 → bit_and x (2 ^ p.height) ≡ 0
  clear x e = ap (bit_and x) (sym p.sides) ∙ e

  set : (x : ℕ) → (bit_and x side ≡ 0 → ⊥) → bit_and x (2 ^ p.height) ≡ 0 → ⊥
  set x n e = n (ap (bit_and x) p.sides ∙ e)

  -- in the west: the block to the east follows
  east : bit_and column side ≡ 0 → BlockSpot m (record { key = key; row = row; column = column + side; side = side; step = step })
  east e =
      record {
        height = p.height;
        block = same_block (goes_east p.block low (clear column e)) (omega (arith, p.ends, p.sides));
        side = p.sides;
        step = p.steps;
      }

  module _ (e : bit_and column side ≡ 0 → ⊥) where
    -- in the north-east: the block in the south_west follows
    south_west : bit_and row side ≡ 0 → SouthWest m p.height row column p.own
    south_west f = goes_south_west p.block low (set column e) (clear row f)

    west : bit_and row side ≡ 0 → BlockSpot m (record { key = key; row = row + side; column = column - side; side = side; step = step })
    west f =
        record {
          height = p.height;
          block = same_block (south_west f).block (omega (arith, p.ends, p.sides));
          side = p.sides;
          step = p.steps;
        }

    -- in the south-east: the parent ends at the same key
    up : (bit_and row side ≡ 0 → ⊥) → SouthEast m p.height row column p.own
    up f = goes_up p.block low (set column e) (set row f)

    climbs : (bit_and row side ≡ 0 → ⊥) → Climb m key (row - side) (column - side) (side * 2) (step * 5)
    climbs f =
        let q = up f in
        record {
          height = suc p.height;
          own = q.parent;
          block = same_block q.block (omega (arith, p.sides));
          ends = q.ends ∙ p.ends;
          sides = ap (λ (x : ℕ). x * 2) p.sides ∙ sym (pow-suc 2 p.height);
          steps = ap (λ (x : ℕ). x * 5) p.steps ∙ sym (pow-suc 5 p.height);
        }

-- the root ends where the map does
at_end : {m key row column side step whole : ℕ} → Climb m key row column side step → whole ≡ 2 ^ m → whole ≤ side → key ≡ 5 ^ m
at_end {m} {key} p e h =
    let high : m ≤ p.height = split p.height m (λ low. let q = pow-lt low in absurd (omega (arith, p.sides))) (λ q. q) in
    let r = as_high p.block high in
    let f : 5 ^ p.height ≡ 5 ^ m = ap (λ (k : ℕ). 5 ^ k) r.0 in
    omega (arith, p.ends)

pub overflow_add-key : goal.overflow_add-key
overflow_add-key c = let b = small_key c.requires.0 (begins _ c.args.spot c.requires.1) in omega arith

-- in a turn the block is lower than the map
low : (c : In-loop-side) → c.loop-side.invariant.height < c.args.m
low c = lower c.loop-side.invariant c.power_of_two-whole.ensures c.loop-side-test.true

-- and lies in it
room : (c : In-loop-side) → Bounds c.loop-side.row c.loop-side.column c.loop-side.side c.loop-side.step
room c = bounds c.requires.0 c.loop-side.invariant

pub overflow_add-result : goal.overflow_add-result
overflow_add-result c = let b = room c.before in omega arith

pub returns-then-column-side-eq0 : goal.returns-then-column-side-eq0
returns-then-column-side-eq0 c = (east c.loop-side.invariant (low c.before) c.if-column-side-eq0.true, refl)

pub overflow_add-result-then-row-side-eq0 : goal.overflow_add-result-then-row-side-eq0
overflow_add-result-then-row-side-eq0 c = let b = room c.before.before in omega arith

pub overflow_sub-result : goal.overflow_sub-result
overflow_sub-result c =
    let p = c.loop-side.invariant in
    omega (arith, (south_west p (low c.before.before) c.if-column-side-eq0.false c.if-row-side-eq0.true).room, p.sides)

pub returns-then-row-side-eq0 : goal.returns-then-row-side-eq0
returns-then-row-side-eq0 c = (west c.loop-side.invariant (low c.before.before) c.if-column-side-eq0.false c.if-row-side-eq0.true, refl)

pub overflow_sub-row : goal.overflow_sub-row
overflow_sub-row c =
    let p = c.loop-side.invariant in
    omega (arith, (up p (low c.before.before) c.if-column-side-eq0.false c.if-row-side-eq0.false).rows, p.sides)

pub overflow_sub-column : goal.overflow_sub-column
overflow_sub-column c =
    let p = c.loop-side.invariant in
    omega (arith, (up p (low c.before.before) c.if-column-side-eq0.false c.if-row-side-eq0.false).columns, p.sides)

pub overflow_mul-step : goal.overflow_mul-step
overflow_mul-step c = let b = room c.before.before in omega arith

pub loop-side-preserved : goal.loop-side-preserved
loop-side-preserved c = climbs c.loop-side.invariant (low c.before.before) c.if-column-side-eq0.false c.if-row-side-eq0.false

pub returns : goal.returns
returns c = at_end c.loop-side.invariant c.power_of_two-whole.ensures c.loop-side-test.false
