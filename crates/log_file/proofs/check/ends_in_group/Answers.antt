-- `check::ends_in_group`: the tests of the group's closing records, and of the entries before them, are those of the definition. Rests on GroupChecked of crate
-- edit_log and InBytes.
use Rattle.std.proofs.Common.{arith, sym, ◌∙◌}
use Rattle.std.proofs.lemmas.Bool.Decides.{nat_tests}
use Rattle.edit_log.proofs.GroupChecked.{too_few, other_key, no_number, entries_decide}
use Rattle.log_file.proofs.InBytes.{in_keys, in_values}
use Rattle.log_file.proofs.check.ends_in_group.Goals as goal

pub returns-then-used-lt-CLOSING : goal.returns-then-used-lt-CLOSING
returns-then-used-lt-CLOSING c =
    too_few _ _ _ (in_keys _ c.requires.2) (in_values _ c.requires.2) c.requires.3 _ _ c.if-used-lt-CLOSING.true

pub returns-then-count-ne0 : goal.returns-then-count-ne0
returns-then-count-ne0 c =
    entries_decide _ _ _ (in_keys _ c.requires.2) (in_values _ c.requires.2) c.requires.3 _ _ c.if-used-lt-CLOSING.false _ _ c.last_count-count.ensures.0
    (sym c.key_at.ensures ∙ c.if-count-ne0.true.0) c.if-count-ne0.true.1 c.ends_in_entries.ensures

pub returns-else-count-ne0 : goal.returns-else-count-ne0
returns-else-count-ne0 c =
    let a = in_keys _ c.requires.2 in
    let b = in_values _ c.requires.2 in
    grind (arith, nat_tests, other_key, no_number)
