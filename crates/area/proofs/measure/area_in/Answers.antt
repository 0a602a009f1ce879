-- `measure::area_in` meets its contract: a block that can be counted at once adds its pixels, and another is entered by its first quadrant. Rests on Measured.
use Prim.Native.Nat.{ℕ, ◌+◌, ◌≤◌, ◌<◌}
use mathlib.Core.Path.{◌≡◌, sym, ◌∙◌, subst}
use mathlib.Core.Bool.{true}
use mathlib.Core.List.{List}
use native.Mathlib.Omega.{arith}
use lib.ListN.{length, take}
use mir.Val.{Fits}
use mir.Syntax.{w32}
use Rattle.definitions.specs.Picture.{Picture}
use Rattle.definitions.specs.Window.{is_window}
use Rattle.definitions.specs.declared.Window.{Window}
use Rattle.list.specs.Among.{place_among}
use Rattle.list.specs.Own.{OwnList}
use Rattle.list.specs.Taken.{picture_listed}
use Rattle.list.specs.Sorted.{Near}
use Rattle.walk.specs.declared.Spot.{Spot}
use Rattle.walk.specs.Walk.{BlockSpot, first_quadrant}
use Rattle.walk.proofs.Lies.{small}
use Rattle.walk.proofs.Steps.{Parent, some_keys, few_keys, first_stands, first_less, rises}
use Rattle.list.proofs.Fuller.{near_root}
use Rattle.walk.proofs.Asked.{asked_place, near_later, near_place}
use Rattle.walk.proofs.Shows.{place_no}
use Rattle.area.proofs.WholeBlock.{mixed_at}
use Rattle.area.proofs.Looked.{place_alone}
use Rattle.area.proofs.Measured.{MeasuredSoFar, measured_none, measured_end, measured_most, measured_enter, measured_apart, measured_lacking, measured_overlap, measured_whole, mixed_parent}
use Rattle.area.proofs.measure.area_in.Invariants.{Going}
use Rattle.area.proofs.measure.area_in.Goals as goal
use Rattle.area.proofs.measure.area_in.Goals.{After-after, then-apart, else-apart+then-found-bit-eq0, else-apart+else-found-bit-eq0+then-found-bit, else-apart+else-found-bit-eq0+else-found-bit+then-is_whole}

module _ {m : ℕ} (p : Picture) (w : Window) (f pixels : ℕ) (keys : List ℕ) (n : ℕ) where
  -- into a block, from its own place on
  enters : {from x : ℕ} {s : Spot} → is_window m w ≡ true → Going m p w f pixels keys n from x s → (place : ℕ) → Near keys n place s.key → Parent m s
      → Going m p w f pixels keys n place x (first_quadrant s)
  enters good g place near q =
      record {
        stands = first_stands q;
        rise = omega (arith, g.rise);
        near = near_later near _ (omega arith);
        measured = measured_enter m p w f pixels good q g.measured;
      }

  -- on to the block that follows
  goes_on : (from before x : ℕ) (t : Spot) → Near keys n from before → before ≤ x → BlockSpot m t → t.key ≡ x → MeasuredSoFar m p w f pixels x → Going m p w f pixels keys n from t.key t
  goes_on from before x t near later h e u =
      record { stands = h; rise = omega arith; near = near_later near _ (omega arith); measured = subst (λ (y : ℕ). MeasuredSoFar m p w f pixels y) (sym e) u }

-- what was counted, by its name in the code
named : {m : ℕ} {p : Picture} {w : Window} {f x pixels : ℕ} (u : ℕ) → u ≡ pixels → MeasuredSoFar m p w f pixels x → MeasuredSoFar m p w f u x
named u e g = record { adds_up = omega (arith, g.adds_up) }

-- no count passes what a number of the code holds
fits : {m : ℕ} {p : Picture} {w : Window} {f pixels x : ℕ} → m ≤ 10 → is_window m w ≡ true → MeasuredSoFar m p w f pixels x → Fits w32 pixels
fits deep good t = let h = measured_most _ _ _ _ _ _ deep good t in omega arith

-- the place where a block was looked up is in the list
in_bits : {m : ℕ} {keys bits : List ℕ} {n : ℕ} (o : OwnList m keys bits n) {s : Spot} (h : BlockSpot m s) (place : ℕ) → place ≡ place_among s.key (take n keys)
    → place < length bits
in_bits o h place e = omega (arith, (asked_place o h.block place e).room, o.fits)

pub loop-from-init : goal.loop-from-init
loop-from-init c =
    record {
      stands = c.start-spot.ensures.0;
      rise = omega arith;
      near = near_root c.args.list.now.own _;
      measured = measured_none _ _ _ _ _ c.start-spot.ensures.1 c.requires.asked.2;
    }

pub apart-requires : goal.apart-requires
apart-requires c = small _ _ _ c.args.list.now.deepest c.requires.asked.2 c.loop-from-2.invariant.stands

pub offset_bounds-list-from : goal.offset_bounds-list-from
offset_bounds-list-from c = omega (arith, in_bits c.args.list.now.own c.loop-from-2.invariant.stands _ c.place_from-from.ensures, c.well_formed)

pub bounds-list-from : goal.bounds-list-from
bounds-list-from c = in_bits c.args.list.now.own c.loop-from-2.invariant.stands _ c.place_from-from.ensures

pub overlap-pixels-requires : goal.overlap-pixels-requires
overlap-pixels-requires c = (small _ _ _ c.args.list.now.deepest c.requires.asked.2 c.loop-from-2.invariant.stands, sym c.apart.ensures ∙ c.if-apart.false)

pub overflow_add-pixels : goal.overflow_add-pixels
overflow_add-pixels c =
    let g = c.loop-from-2.invariant in
    let alone = place_alone c.args.list.now.own g.stands _ _ c.power_of_two-bit.ensures _ c.place_from-from.ensures c.if-found-bit.true in
    fits c.args.list.now.deepest c.requires.asked.2
    (measured_overlap _ _ _ _ g.stands _ g.measured (sym c.apart.ensures ∙ c.if-apart.false) alone _ c.overlap-pixels.ensures)

pub is_whole-requires : goal.is_whole-requires
is_whole-requires c = small _ _ _ c.args.list.now.deepest c.requires.asked.2 c.loop-from-2.invariant.stands

pub block_pixels-pixels-requires : goal.block_pixels-pixels-requires
block_pixels-pixels-requires c =
    let g = c.loop-from-2.invariant in
    let mixed = mixed_at c.args.list.now.own g.stands _ _ c.power_of_two-bit.ensures _ c.place_from-from.ensures c.if-found-bit-eq0.false c.if-found-bit.false in
    (c.requires.asked.0, c.requires.asked.1, g.stands, record { picture = _; mixed = mixed; summary_is = c.requires.summary_value })

pub overflow_add-pixels-then-is_whole : goal.overflow_add-pixels-then-is_whole
overflow_add-pixels-then-is_whole c =
    let g = c.loop-from-2.invariant in
    let mixed = mixed_at c.args.list.now.own g.stands _ _ c.power_of_two-bit.ensures _ c.place_from-from.ensures c.if-found-bit-eq0.false c.if-found-bit.false in
    fits c.args.list.now.deepest c.requires.asked.2
    (measured_whole _ _ _ _ g.stands _ g.measured _ (sym c.is_whole.ensures ∙ c.if-is_whole.true) _ (c.block_pixels-pixels.ensures.holds _ mixed c.requires.summary_value))

pub first-spot-requires : goal.first-spot-requires
first-spot-requires c = few_keys c.args.list.now.deepest c.loop-from-2.invariant.stands

pub loop-from-2-smaller : goal.loop-from-2-smaller
loop-from-2-smaller c = rw c.first-spot.ensures (first_less c.loop-from-2.invariant.stands)

pub loop-from-2-preserved : goal.loop-from-2-preserved
loop-from-2-preserved c =
    let own = c.args.list.now.own in
    let g = c.loop-from-2.invariant in
    let mixed = mixed_at own g.stands _ _ c.power_of_two-bit.ensures _ c.place_from-from.ensures c.if-found-bit-eq0.false c.if-found-bit.false in
    rw c.first-spot.ensures (enters _ _ _ _ _ _ c.requires.asked.2 g _ (near_place own _ _ c.place_from-from.ensures) (mixed_parent g.stands mixed))

-- whichever way a turn ended, what the block adds is counted
passed : (c : After-after)
    → MeasuredSoFar c.args.list.now.m (picture_listed c.args.list.now) c.args.window c.args.feature c.if-apart.pixels (c.loop-from-2.spot.key + c.loop-from-2.spot.step)
passed c =
    let g = c.loop-from-2.invariant in
    let own = c.args.list.now.own in
    let bit = c.power_of_two-bit.ensures in
    let apart = c.apart.ensures in
    elim c.if-apart.branch [
      | then-apart w ↦ named _ w.pixels-is (measured_apart _ _ _ _ g.stands _ g.measured (sym apart ∙ w.if-apart.true))
      | else-apart+then-found-bit-eq0 w ↦ named _ w.pixels-is (measured_lacking _ _ _ _ g.stands _ g.measured (place_no own g.stands _ _ bit _ w.place_from-from.ensures w.if-found-bit-eq0.true))
      | else-apart+else-found-bit-eq0+then-found-bit w ↦
          let alone = place_alone own g.stands _ _ bit _ w.place_from-from.ensures w.if-found-bit.true in
          named _ w.pixels-is (measured_overlap _ _ _ _ g.stands _ g.measured (sym apart ∙ w.if-apart.false) alone _ w.overlap-pixels.ensures)
      | else-apart+else-found-bit-eq0+else-found-bit+then-is_whole w ↦
          let mixed = mixed_at own g.stands _ _ bit _ w.place_from-from.ensures w.if-found-bit-eq0.false w.if-found-bit.false in
          let counted = w.block_pixels-pixels.ensures.holds _ mixed c.requires.summary_value in
          named _ w.pixels-is (measured_whole _ _ _ _ g.stands _ g.measured _ (sym w.is_whole.ensures ∙ w.if-is_whole.true) _ counted)
    ]

-- and the next search can begin where the last one ended
kept : (c : After-after) → Near c.args.list.now.keys.now (length c.args.list.now.keys.now) c.if-apart.from c.loop-from-2.spot.key
kept c =
    let own = c.args.list.now.own in
    elim c.if-apart.branch [
      | then-apart w ↦ rw w.from-is c.loop-from-2.invariant.near
      | else-apart+then-found-bit-eq0 w ↦ rw w.from-is (near_place own _ _ w.place_from-from.ensures)
      | else-apart+else-found-bit-eq0+then-found-bit w ↦ rw w.from-is (near_place own _ _ w.place_from-from.ensures)
      | else-apart+else-found-bit-eq0+else-found-bit+then-is_whole w ↦ rw w.from-is (near_place own _ _ w.place_from-from.ensures)
    ]

pub returns-in_default : goal.returns-in_default
returns-in_default c = measured_end _ _ _ _ _ _ c.in_default.ensures (passed (goal.at.returns-in_default c).After-after)

pub loop-from-smaller : goal.loop-from-smaller
loop-from-smaller c =
    let k = some_keys c.loop-from-2.invariant.stands in
    rises c.loop-from.invariant.stands _ (omega (arith, c.in-Some.ensures.1, c.loop-from-2.invariant.rise))

pub loop-from-preserved : goal.loop-from-preserved
loop-from-preserved c =
    let next = c.in-Some.ensures in
    let turn = (goal.at.loop-from-preserved c).After-after in
    goes_on _ _ _ _ _ _ _ _ _ _ (kept turn) (omega arith) next.0 next.1 (passed turn)
