-- The run up to `end` does the same to every pixel before the block's end as the whole run.
use Rattle.deeds.specs.Deed.{ShortRun}
use Rattle.deeds.proofs.run.up_to.Given as goal

abbrev pub invariant-loop-end : goal.invariant-loop-end
invariant-loop-end l =
    ShortRun l.m l.past (record { start = l.start; end = l.initial.end; ordered = l.ordered }) (record { start = l.start; end = l.end; ordered = l.ordered }) l.log_keys l.log_values

abbrev pub decreases-loop-end : goal.decreases-loop-end
decreases-loop-end l =
    l.end
