-- `ends_in_group`: the tests of the group's closing records, and of the entries before them, are those of the definition. Rests on GroupChecked.
use Rattle.std.proofs.Common.{arith}
use Rattle.std.proofs.lemmas.Bool.Decides.{nat_tests}
use Rattle.edit_log.proofs.GroupChecked.{too_few, other_key, no_number, entries_decide}
use Rattle.edit_log.proofs.ends_in_group.Goals as goal

pub returns-then-used-lt-CLOSING : goal.returns-then-used-lt-CLOSING
returns-then-used-lt-CLOSING c = too_few _ _ _ c.requires.2 c.requires.3 c.requires.4 _ _ c.if-used-lt-CLOSING.true

pub returns-then-count-ne0 : goal.returns-then-count-ne0
returns-then-count-ne0 c =
    entries_decide _ _ _ c.requires.2 c.requires.3 c.requires.4 _ _ c.if-used-lt-CLOSING.false _ _ c.last_count-count.ensures.0
    c.if-count-ne0.true.0 c.if-count-ne0.true.1 c.ends_in_entries.ensures

pub returns-else-count-ne0 : goal.returns-else-count-ne0
returns-else-count-ne0 c = grind (arith, nat_tests, other_key, no_number)
