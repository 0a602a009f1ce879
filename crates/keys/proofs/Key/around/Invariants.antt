-- What the loop of `Key::around` keeps: the number is the key's digits so far, and the pixel's lower bits have the others.
use Prim.Native.Nat.{ℕ, ◌+◌, ◌-◌, ◌*◌, ◌%◌, ◌^◌, ◌≤◌, ◌<◌}
use mathlib.Core.Path.{◌≡◌}
use Rattle.keys.specs.Block.{pixel_key}
use Rattle.keys.proofs.Key.around.Given as goal

pub record Passed (m row column last number left : ℕ) : Type 0 where
  pub far : last ≤ left
  pub small : number < 5 ^ (m - left)
  pub found : pixel_key m row column ≡ number * 5 ^ left + pixel_key left (row % 2 ^ left) (column % 2 ^ left)

abbrev pub invariant-loop-height : goal.invariant-loop-height
invariant-loop-height l =
    Passed l.m l.row l.column l.last l.number l.height
