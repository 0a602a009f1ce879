-- Before `end` lie entries of the run, and what they make of the block is what the run makes of it: the ones behind are apart from it.
use mathlib.Core.Path.{◌≡◌}
use Rattle.deeds.specs.Direction.{is_back}
use Rattle.deeds.specs.Runs.{EntriesIn, given_by, meeting_by, last_first}
use Rattle.deeds.specs.declared.meeting.Meeting.TheVariants.{Apart}
use Rattle.deeds.proofs.entries.by_last.Given as goal

abbrev pub invariant-loop-end : goal.invariant-loop-end
invariant-loop-end l =
    EntriesIn l.m (record { start = l.start; end = l.end; ordered = l.run.ordered }) l.log_keys l.log_values
    × (meeting_by l.m Apart l.key (given_by (is_back l.direction) l.log_keys l.log_values l.key) (last_first l.end l.log_keys l.log_values l.start l.end)
    ≡ meeting_by l.m Apart l.key (given_by (is_back l.direction) l.log_keys l.log_values l.key) (last_first l.initial.end l.log_keys l.log_values l.start l.initial.end))

abbrev pub decreases-loop-end : goal.decreases-loop-end
decreases-loop-end l =
    l.end
