-- What the loop of `zeros::only_at_end` keeps: the number is valid exactly when what is left of it is.
use Prim.Native.Nat.{◌^◌, ◌<◌}
use mathlib.Core.Path.{◌≡◌}
use Rattle.keys.specs.Key.{valid_key}
use Rattle.keys.proofs.zeros.only_at_end.Given as goal

abbrev pub invariant-loop-left : goal.invariant-loop-left
invariant-loop-left l =
    (l.rest < 5 ^ l.left) × (valid_key l.m l.number ≡ valid_key l.left l.rest)
