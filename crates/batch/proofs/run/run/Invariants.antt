-- Before each turn the answers are those of a batch over the questions passed.
use Rattle.batch.specs.Run.{answering_of}
use Rattle.batch.proofs.RunTurns.{BatchTurn}
use Rattle.batch.proofs.run.run.Given as goal

abbrev pub invariant-loop-question : goal.invariant-loop-question
invariant-loop-question l =
    BatchTurn l.keys l.bits l.questions (answering_of l.initial.st l.initial.refusals l.initial.values) (answering_of l.st l.refusals l.values)
    l.question-index
