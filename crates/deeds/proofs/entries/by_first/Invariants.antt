-- Before `end` lie entries, and what they make of the block, where those behind make `answer` of it, is what the run makes of it.
use mathlib.Core.Path.{◌≡◌}
use mathlib.Core.Bool.{true}
use mathlib.Core.List.{[]}
use Rattle.deeds.specs.Runs.{Between, given_by, meeting_by, first_first}
use Rattle.deeds.specs.declared.meeting.Meeting.TheVariants.{Apart}
use Rattle.deeds.proofs.entries.by_first.Given as goal

abbrev pub invariant-loop-end : goal.invariant-loop-end
invariant-loop-end l =
    Between l.m l.start l.end l.log_keys l.log_values
    × (meeting_by l.m l.answer l.key (given_by true l.log_keys l.log_values l.key) (first_first l.end l.log_keys l.log_values l.start l.end [])
    ≡ meeting_by l.m Apart l.key (given_by true l.log_keys l.log_values l.key) (first_first l.initial.end l.log_keys l.log_values l.start l.initial.end []))

abbrev pub decreases-loop-end : goal.decreases-loop-end
decreases-loop-end l =
    l.end
