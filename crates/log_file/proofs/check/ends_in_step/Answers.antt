-- `check::ends_in_step`: the mark says which of the two checks decides. Rests on Sound of crate edit_log.
use Rattle.std.proofs.Common.{sym, ◌∙◌}
use Rattle.edit_log.proofs.Sound.{group_decides, single_decides}
use Rattle.log_file.proofs.check.ends_in_step.Goals as goal

pub returns-then-ends_in_mark : goal.returns-then-ends_in_mark
returns-then-ends_in_mark c = group_decides _ _ _ _ (sym c.ends_in_mark.ensures ∙ c.if-ends_in_mark.true) c.ends_in_group.ensures

pub returns-else-ends_in_mark : goal.returns-else-ends_in_mark
returns-else-ends_in_mark c = single_decides _ _ _ _ (sym c.ends_in_mark.ensures ∙ c.if-ends_in_mark.false) c.ends_in_entry.ensures
