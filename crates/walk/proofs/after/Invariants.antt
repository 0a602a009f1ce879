-- What the loop of `after` keeps: the block ends where the given one does, so what follows it is what is sought.
use Prim.Native.Nat.{ℕ, ◌+◌, ◌-◌, ◌^◌}
use mathlib.Core.Path.{◌≡◌}
use Rattle.keys.specs.Under.{MapBlock}
use Rattle.walk.proofs.after.Given as goal

-- a block of the map that ends before the key
pub record Climb (m key row column side step : ℕ) : Type 0 where
  pub height : ℕ
  pub own : ℕ
  pub block : MapBlock m height row column own
  pub ends : own + 5 ^ height ≡ key
  pub sides : side ≡ 2 ^ height
  pub steps : step ≡ 5 ^ height

abbrev pub invariant-loop-side : goal.invariant-loop-side
invariant-loop-side l =
    Climb l.m l.key l.row l.column l.side l.step

abbrev pub decreases-loop-side : goal.decreases-loop-side
decreases-loop-side l =
    l.whole - l.side
