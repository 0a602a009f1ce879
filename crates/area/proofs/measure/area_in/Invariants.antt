-- What the loops of `area_in` keep: what was counted and what is left from the key of the block at which the walk stands are the area; within a turn that
-- key does not fall.
use Prim.Native.Nat.{ℕ, ◌-◌, ◌^◌, ◌≤◌}
use mathlib.Core.List.{List}
use lib.ListN.{length}
use Rattle.definitions.specs.Picture.{Picture}
use Rattle.definitions.specs.declared.Window.{Window}
use Rattle.list.specs.Taken.{picture_listed}
use Rattle.list.specs.Sorted.{Near}
use Rattle.walk.specs.declared.Spot.{Spot}
use Rattle.walk.specs.Walk.{BlockSpot}
use Rattle.area.proofs.Measured.{MeasuredSoFar}
use Rattle.area.proofs.measure.area_in.Given as goal

pub record Going (m : ℕ) (p : Picture) (w : Window) (f pixels : ℕ) (keys : List ℕ) (n from x : ℕ) (s : Spot) : Type 0 where
  pub stands : BlockSpot m s
  pub rise : x ≤ s.key
  pub near : Near keys n from s.key
  pub measured : MeasuredSoFar m p w f pixels s.key

abbrev pub invariant-loop-from-2 : goal.invariant-loop-from-2
invariant-loop-from-2 l =
    Going l.list.m (picture_listed l.list) l.window l.feature l.pixels l.list.keys.now (length l.list.keys.now) l.from l.initial.spot.key l.spot

abbrev pub decreases-loop-from-2 : goal.decreases-loop-from-2
decreases-loop-from-2 l =
    l.spot.step

abbrev pub invariant-loop-from : goal.invariant-loop-from
invariant-loop-from l =
    Going l.list.m (picture_listed l.list) l.window l.feature l.pixels l.list.keys.now (length l.list.keys.now) l.from l.spot.key l.spot

abbrev pub decreases-loop-from : goal.decreases-loop-from
decreases-loop-from l =
    5 ^ l.list.m - l.spot.key
