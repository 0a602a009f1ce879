-- `step::last_step`: without the mark the step is the last entry, and with it the entries before the group's closing records. Rests on StepPlaces.
use Rattle.std.proofs.Common.{sym, ◌∙◌}
use Rattle.edit_log.proofs.StepPlaces.{single_ended, single_found, group_room, group_entries, group_found}
use Rattle.edit_log.proofs.step.last_step.Goals as goal

pub last_entry-requires : goal.last_entry-requires
last_entry-requires c = single_ended c.requires (sym c.ends_in_mark.ensures ∙ c.if-not-ends_in_mark.true)

pub returns-then-not-ends_in_mark : goal.returns-then-not-ends_in_mark
returns-then-not-ends_in_mark c = single_found c.requires (sym c.ends_in_mark.ensures ∙ c.if-not-ends_in_mark.true) _ c.last_entry.ensures

pub overflow_sub-end : goal.overflow_sub-end
overflow_sub-end c = group_room c.requires (sym c.ends_in_mark.ensures ∙ c.if-not-ends_in_mark.false)

pub last_count-count-requires : goal.last_count-count-requires
last_count-count-requires c = (group_room c.requires (sym c.ends_in_mark.ensures ∙ c.if-not-ends_in_mark.false), c.requires.in_values)

pub entries_start-requires : goal.entries_start-requires
entries_start-requires c = group_entries c.requires (sym c.ends_in_mark.ensures ∙ c.if-not-ends_in_mark.false) _ c.last_count-count.ensures.0

pub returns : goal.returns
returns c = group_found c.requires (sym c.ends_in_mark.ensures ∙ c.if-not-ends_in_mark.false) _ c.last_count-count.ensures.0 _ c.entries_start.ensures
