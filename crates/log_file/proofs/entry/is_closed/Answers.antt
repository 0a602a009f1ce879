-- `entry::is_closed`: the tests in a row are those of the definition, by the places of the last entry. Rests on Tests of crate edit_log and InBytes.
use Rattle.std.proofs.Common.{arith}
use Rattle.std.proofs.lemmas.Bool.Decides.{nat_tests}
use Rattle.edit_log.proofs.Tests.{too_few, too_long, two_keys, feature_decides}
use Rattle.log_file.proofs.InBytes.{in_keys, in_values}
use Rattle.log_file.proofs.entry.is_closed.Goals as goal

pub returns-then-key_at : goal.returns-then-key_at
returns-then-key_at c =
    let a = in_keys _ c.requires in
    let b = in_values _ c.requires in
    grind (arith, nat_tests, too_few, too_long, two_keys, feature_decides)

pub returns-else-key_at : goal.returns-else-key_at
returns-else-key_at c =
    let a = in_keys _ c.requires in
    let b = in_values _ c.requires in
    grind (arith, nat_tests, too_few, too_long, two_keys, feature_decides)
