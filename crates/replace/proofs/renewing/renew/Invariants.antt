-- What is left to renew from this level gives the same as what was to renew at the start.
use Rattle.std.proofs.Common.{length}
use Rattle.replace.proofs.RenewingLoop.{Renewing}
use Rattle.replace.proofs.renewing.renew.Given as goal

abbrev pub invariant-loop-low : goal.invariant-loop-low
invariant-loop-low l = Renewing l.m l.keys l.initial.bits (length l.keys) l.key l.height l.b l.bits l._low l.step l.own
