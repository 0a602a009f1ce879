-- `step::last_step`: without the mark the step is the last entry, and with it the entries before the group's closing records. Rests on StepPlaces of crate
-- edit_log and InBytes.
use Rattle.std.proofs.Common.{sym, ◌∙◌}
use Rattle.edit_log.proofs.StepPlaces.{single_ended, single_found, group_room, group_entries, group_found}
use Rattle.log_file.proofs.InBytes.{in_places}
use Rattle.log_file.proofs.step.last_step.Goals as goal

pub ends_in_mark-requires : goal.ends_in_mark-requires
ends_in_mark-requires c = in_places c.args.bytes.now c.requires.in_keys

pub last_entry-requires : goal.last_entry-requires
last_entry-requires c = single_ended c.requires (sym c.ends_in_mark.ensures ∙ c.if-not-ends_in_mark.true)

pub returns-then-not-ends_in_mark : goal.returns-then-not-ends_in_mark
returns-then-not-ends_in_mark c = single_found c.requires (sym c.ends_in_mark.ensures ∙ c.if-not-ends_in_mark.true) _ c.last_entry.ensures

pub overflow_sub-end : goal.overflow_sub-end
overflow_sub-end c = group_room c.requires (sym c.ends_in_mark.ensures ∙ c.if-not-ends_in_mark.false)

pub last_count-count-requires : goal.last_count-count-requires
last_count-count-requires c =
    (group_room c.requires (sym c.ends_in_mark.ensures ∙ c.if-not-ends_in_mark.false), in_places c.args.bytes.now c.requires.in_keys)

pub entries_start-requires : goal.entries_start-requires
entries_start-requires c = group_entries c.requires (sym c.ends_in_mark.ensures ∙ c.if-not-ends_in_mark.false) _ c.last_count-count.ensures.0

pub returns : goal.returns
returns c = group_found c.requires (sym c.ends_in_mark.ensures ∙ c.if-not-ends_in_mark.false) _ c.last_count-count.ensures.0 _ c.entries_start.ensures
