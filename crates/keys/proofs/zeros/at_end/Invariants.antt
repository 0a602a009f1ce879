-- What the loop of `zeros::at_end` keeps: the zeros that are passed, and those at the end of what is left, are those of the key.
use Prim.Native.Nat.{◌+◌, ◌-◌, ◌^◌}
use mathlib.Core.Path.{◌≡◌}
use Rattle.keys.specs.Key.{zeros_at_end}
use Rattle.keys.proofs.zeros.at_end.Given as goal

abbrev pub invariant-loop-count : goal.invariant-loop-count
invariant-loop-count l =
    (l.power ≡ 5 ^ l.count) × (l.count + zeros_at_end (l.m - l.count) l.rest ≡ zeros_at_end l.m l.key)
