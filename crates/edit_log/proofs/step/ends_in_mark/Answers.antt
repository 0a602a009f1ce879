-- `step::ends_in_mark`: the tests in a row are those of the definition, by the last place. Rests on Mark.
use Rattle.std.proofs.Common.{arith}
use Rattle.std.proofs.lemmas.Bool.Decides.{nat_tests}
use Rattle.edit_log.proofs.Mark.{none_marks, other_key, number_decides}
use Rattle.edit_log.proofs.step.ends_in_mark.Goals as goal

pub returns-then-keys-used-eq-ROOT : goal.returns-then-keys-used-eq-ROOT
returns-then-keys-used-eq-ROOT c = grind (arith, nat_tests, none_marks, other_key, number_decides)

pub returns-else-keys-used-eq-ROOT : goal.returns-else-keys-used-eq-ROOT
returns-else-keys-used-eq-ROOT c = grind (arith, nat_tests, none_marks, other_key, number_decides)
