-- What the loop of `zeros::none_in` keeps: no digit is 0 exactly when none of those that are left is.
use Prim.Native.Nat.{◌-◌, ◌^◌, ◌<◌}
use mathlib.Core.Path.{◌≡◌}
use lib.Dec.{eqb}
use Rattle.keys.specs.Key.{level_of}
use Rattle.keys.proofs.zeros.none_in.Given as goal

abbrev pub invariant-loop : goal.invariant-loop
invariant-loop l =
    (l.rest < 5 ^ (l.k - l.counter)) × (eqb (level_of l.k l.number) l.k ≡ eqb (level_of (l.k - l.counter) l.rest) (l.k - l.counter))
