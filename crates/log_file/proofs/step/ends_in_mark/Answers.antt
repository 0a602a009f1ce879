-- `step::ends_in_mark`: the tests in a row are those of the definition, by the last place. Rests on Mark of crate edit_log and InBytes.
use Rattle.std.proofs.Common.{arith}
use Rattle.std.proofs.lemmas.Bool.Decides.{nat_tests}
use Rattle.edit_log.proofs.Mark.{none_marks, other_key, number_decides}
use Rattle.log_file.proofs.InBytes.{in_keys, in_values}
use Rattle.log_file.proofs.step.ends_in_mark.Goals as goal

pub returns-then-key_at-eq-ROOT : goal.returns-then-key_at-eq-ROOT
returns-then-key_at-eq-ROOT c =
    let a = in_keys _ c.requires in
    let b = in_values _ c.requires in
    grind (arith, nat_tests, none_marks, other_key, number_decides)

pub returns-else-key_at-eq-ROOT : goal.returns-else-key_at-eq-ROOT
returns-else-key_at-eq-ROOT c =
    let a = in_keys _ c.requires in
    let b = in_values _ c.requires in
    grind (arith, nat_tests, none_marks, other_key, number_decides)
