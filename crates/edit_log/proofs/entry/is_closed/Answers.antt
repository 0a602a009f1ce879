-- `entry::is_closed`: the tests in a row are those of the definition, by the places of the last entry. Rests on Tests.
use Rattle.std.proofs.Common.{arith}
use Rattle.std.proofs.lemmas.Bool.Decides.{nat_tests}
use Rattle.edit_log.proofs.Tests.{too_few, too_long, two_keys, feature_decides}
use Rattle.edit_log.proofs.entry.is_closed.Goals as goal

pub returns-then-keys-used : goal.returns-then-keys-used
returns-then-keys-used c = grind (arith, nat_tests, too_few, too_long, two_keys, feature_decides)

pub returns-else-keys-used : goal.returns-else-keys-used
returns-else-keys-used c = grind (arith, nat_tests, too_few, too_long, two_keys, feature_decides)
