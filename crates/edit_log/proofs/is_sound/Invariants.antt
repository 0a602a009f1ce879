-- `is_sound`: the steps that the loop has passed are steps, so the records are sound exactly when those that are left are. Rests on Sound.
use Rattle.edit_log.proofs.Sound.{StepsPassed}
use Rattle.edit_log.proofs.is_sound.Given as goal

abbrev pub invariant-loop-end : goal.invariant-loop-end
invariant-loop-end l =
    StepsPassed l.m l.s l.keys l.values l.used l.end

abbrev pub decreases-loop-end : goal.decreases-loop-end
decreases-loop-end l =
    l.end
