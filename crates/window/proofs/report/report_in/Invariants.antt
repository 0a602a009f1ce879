-- What the loops of `report_in` keep: the union has the slots of the window's pixels before the key of the block at which the walk stands, and no others;
-- within a turn that key does not fall.
use Prim.Native.Nat.{◌-◌, ◌^◌}
use lib.ListN.{length}
use Rattle.list.specs.Taken.{picture_listed}
use Rattle.walk.proofs.Going.{WalkGoes}
use Rattle.window.proofs.Gathered.{Gathered}
use Rattle.window.proofs.report.report_in.Given as goal

abbrev pub invariant-loop-place-2 : goal.invariant-loop-place-2
invariant-loop-place-2 l =
    WalkGoes l.list.m l.list.keys.now (length l.list.keys.now) l.from l.initial.spot.key l.spot × Gathered l.list.m (picture_listed l.list) l.window l.union l.spot.key

abbrev pub decreases-loop-place-2 : goal.decreases-loop-place-2
decreases-loop-place-2 l =
    l.spot.step

abbrev pub invariant-loop-place : goal.invariant-loop-place
invariant-loop-place l =
    WalkGoes l.list.m l.list.keys.now (length l.list.keys.now) l.from l.spot.key l.spot × Gathered l.list.m (picture_listed l.list) l.window l.union l.spot.key

abbrev pub decreases-loop-place : goal.decreases-loop-place
decreases-loop-place l =
    5 ^ l.list.m - l.spot.key
