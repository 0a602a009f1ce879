-- Before each turn the progress is that of a run over the rules passed.
use Rattle.finding_runs.specs.Run.{progress_of}
use Rattle.finding_runs.proofs.RunTurns.{RunTurn}
use Rattle.finding_runs.proofs.all_rules.run.Given as goal

abbrev pub invariant-loop-rule : goal.invariant-loop-rule
invariant-loop-rule l =
    RunTurn l.keys l.bits l.waiver_ids l.waiver_keys l.rules (progress_of l.initial.st l.initial.found_ids l.initial.found_keys) (progress_of l.st l.found_ids l.found_keys) l.rule-index
