-- `check::is_sound`: the steps that the loop has passed are steps, so the records are sound exactly when those that are left are. Rests on Sound of crate
-- edit_log.
use Rattle.edit_log.proofs.Sound.{StepsPassed}
use Rattle.log_file.specs.Records.{keys_in_bytes, values_in_bytes}
use Rattle.log_file.proofs.check.is_sound.Given as goal

abbrev pub invariant-loop-end : goal.invariant-loop-end
invariant-loop-end l =
    StepsPassed l.m l.s (keys_in_bytes l.bytes) (values_in_bytes l.bytes) l.used l.end

abbrev pub decreases-loop-end : goal.decreases-loop-end
decreases-loop-end l =
    l.end
