-- What the loops of `exist_in` keep: no pixel of the window with the feature lies before the key of the block at which the walk stands; within a turn that
-- key does not fall.
use Prim.Native.Nat.{◌-◌, ◌^◌}
use lib.ListN.{length}
use Rattle.list.specs.Taken.{picture_listed}
use Rattle.walk.proofs.Going.{WalkGoes}
use Rattle.window.proofs.Seen.{Unseen}
use Rattle.window.proofs.exist.exist_in.Given as goal

abbrev pub invariant-loop-place : goal.invariant-loop-place
invariant-loop-place l =
    WalkGoes l.list.m l.list.keys.now (length l.list.keys.now) l.from l.initial.spot.key l.spot × Unseen l.list.m (picture_listed l.list) l.window l.feature l.spot.key

abbrev pub decreases-loop-place : goal.decreases-loop-place
decreases-loop-place l =
    l.spot.step

abbrev pub invariant-walk : goal.invariant-walk
invariant-walk l =
    WalkGoes l.list.m l.list.keys.now (length l.list.keys.now) l.from l.spot.key l.spot × Unseen l.list.m (picture_listed l.list) l.window l.feature l.spot.key

abbrev pub decreases-walk : goal.decreases-walk
decreases-walk l =
    5 ^ l.list.m - l.spot.key
