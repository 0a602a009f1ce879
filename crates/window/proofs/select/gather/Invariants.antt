-- What the loops of `gather` keep: what is counted and written is what select gives below the key of the block at which the walk stands; within a turn
-- nothing is added, and that key does not fall.
use Prim.Native.Nat.{ℕ, ◌-◌, ◌^◌}
use lib.ListN.{length}
use mathlib.Core.Path.{◌≡◌}
use mathlib.Core.List.{List}
use Rattle.definitions.specs.Picture.{Picture}
use Rattle.definitions.specs.Window.{select_in}
use Rattle.definitions.specs.declared.Window.{Window}
use Rattle.list.specs.Taken.{picture_listed}
use Rattle.walk.specs.Walk.{Walking}
use Rattle.walk.specs.Given.{lower}
use Rattle.walk.proofs.Going.{WalkGoes}
use Rattle.window.proofs.Taken.{Taken}
use Rattle.window.proofs.select.gather.Given as goal

-- from the head of the turn, where the key is x, to the key y nothing was added (the inner loop's invariant knows the answer of the turn's start, not of
-- the call's)
pub record Still (m : ℕ) (p : Picture) (w : Window) (f : ℕ) (answer₀ answer : List ℕ) (count₀ count x y : ℕ) : Type 0 where
  pub answers : answer ≡ answer₀
  pub counts : count ≡ count₀
  pub gap : lower x (select_in m p w f) ≡ lower y (select_in m p w f)

abbrev pub invariant-loop-told-2 : goal.invariant-loop-told-2
invariant-loop-told-2 l =
    WalkGoes l.list.m l.list.keys.now (length l.list.keys.now) l.from l.initial.spot.key l.spot
    × Walking l.list.m l.window l.spot
    × Still l.list.m (picture_listed l.list) l.window l.feature l.initial.answer l.answer l.initial.count l.count l.initial.spot.key l.spot.key

abbrev pub decreases-loop-told-2 : goal.decreases-loop-told-2
decreases-loop-told-2 l =
    l.spot.step

abbrev pub invariant-loop-told : goal.invariant-loop-told
invariant-loop-told l =
    WalkGoes l.list.m l.list.keys.now (length l.list.keys.now) l.from l.spot.key l.spot
    × Walking l.list.m l.window l.spot
    × Taken l.list.m (picture_listed l.list) l.window l.feature l.limit l.initial.answer l.answer l.count l.spot.key

abbrev pub decreases-loop-told : goal.decreases-loop-told
decreases-loop-told l =
    5 ^ l.list.m - l.spot.key
