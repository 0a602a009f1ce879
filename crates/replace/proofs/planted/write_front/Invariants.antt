-- What is still to be written of the levels that are left gives the same as all of it at the start.
use Rattle.std.proofs.Common.{◌-◌}
use Rattle.replace.proofs.ExchangeFront.{Fronting}
use Rattle.replace.proofs.planted.write_front.Given as goal

abbrev pub invariant-loop-done : goal.invariant-loop-done
invariant-loop-done l =
    Fronting l.initial.keys l.initial.bits l.at l.key l.low l.levels l.g l.v l.keys l.bits (l.levels - l._done) l.wide l.place
