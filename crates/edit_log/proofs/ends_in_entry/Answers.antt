-- `ends_in_entry`: the tests are those of the definition, by the last entry as it was found. Rests on Tests.
use Rattle.std.proofs.Common.{sym, ◌∙◌}
use Rattle.edit_log.proofs.Tests.{closed_ended, not_closed, not_valid, content_decides}
use Rattle.edit_log.proofs.ends_in_entry.Goals as goal

pub returns-then-not-is_closed : goal.returns-then-not-is_closed
returns-then-not-is_closed c = not_closed _ _ _ _ c.requires.2 c.requires.3 _ (sym c.is_closed.ensures ∙ c.if-not-is_closed.true)

pub last_entry-last-requires : goal.last_entry-last-requires
last_entry-last-requires c = closed_ended _ _ _ _ c.requires.2 c.requires.3 (sym c.is_closed.ensures ∙ c.if-not-is_closed.false)

pub returns-then-is_valid : goal.returns-then-is_valid
returns-then-is_valid c =
    let shut = sym c.is_closed.ensures ∙ c.if-not-is_closed.false in
    content_decides (closed_ended _ _ _ _ c.requires.2 c.requires.3 shut) _ _ shut _ c.last_entry-last.ensures _ (sym c.is_valid.ensures ∙ c.if-is_valid.true)
    c.is_content.ensures

pub returns-else-is_valid : goal.returns-else-is_valid
returns-else-is_valid c =
    let shut = sym c.is_closed.ensures ∙ c.if-not-is_closed.false in
    c.if-is_valid.false
    ∙ not_valid (closed_ended _ _ _ _ c.requires.2 c.requires.3 shut) _ _ shut _ c.last_entry-last.ensures (sym c.is_valid.ensures ∙ c.if-is_valid.false)
