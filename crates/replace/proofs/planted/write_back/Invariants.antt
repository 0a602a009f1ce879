-- The records of the levels that are done are written.
use Rattle.replace.proofs.ExchangeBack.{Backing}
use Rattle.replace.proofs.planted.write_back.Given as goal

abbrev pub invariant-loop-done : goal.invariant-loop-done
invariant-loop-done l =
    Backing l.initial.keys l.initial.bits l.at l.key l.low l.levels l.g l.keys l.bits l._done l.step l.place
