-- `check::ends_in_entry`: the tests are those of the definition, by the last entry as it was found. Rests on Tests of crate edit_log, InBytes, Lent and
-- EntryContent.
use Rattle.std.proofs.Common.{arith, sym, ap, ◌∙◌, ◌*◌}
use Rattle.definitions.specs.Log.{is_content}
use Rattle.file.specs.Layout.{records_at}
use Rattle.edit_log.proofs.Tests.{closed_ended, not_closed, not_valid}
use Rattle.log_file.proofs.InBytes.{in_keys, in_values}
use Rattle.log_file.proofs.Lent.{rest_lent}
use Rattle.log_file.proofs.EntryContent.{begins, content_laid, content_tells}
use Rattle.log_file.proofs.check.ends_in_entry.Goals as goal

pub returns-then-not-is_closed : goal.returns-then-not-is_closed
returns-then-not-is_closed c =
    not_closed _ _ _ _ (in_keys _ c.requires.2) (in_values _ c.requires.2) _ (sym c.is_closed.ensures ∙ c.if-not-is_closed.true)

pub last_entry-last-requires : goal.last_entry-last-requires
last_entry-last-requires c =
    closed_ended _ _ _ _ (in_keys _ c.requires.2) (in_values _ c.requires.2) (sym c.is_closed.ensures ∙ c.if-not-is_closed.false)

pub overflow_mul-content : goal.overflow_mul-content
overflow_mul-content c =
    let ended = closed_ended _ _ _ _ (in_keys _ c.requires.2) (in_values _ c.requires.2) (sym c.is_closed.ensures ∙ c.if-not-is_closed.false) in
    let h = begins _ ended _ c.last_entry-last.ensures in
    omega arith

pub slice_bounds-content-count : goal.slice_bounds-content-count
slice_bounds-content-count c =
    let ended = closed_ended _ _ _ _ (in_keys _ c.requires.2) (in_values _ c.requires.2) (sym c.is_closed.ensures ∙ c.if-not-is_closed.false) in
    let h = begins _ ended _ c.last_entry-last.ensures in
    omega arith

pub slice_bounds-content-start : goal.slice_bounds-content-start
slice_bounds-content-start c =
    let ended = closed_ended _ _ _ _ (in_keys _ c.requires.2) (in_values _ c.requires.2) (sym c.is_closed.ensures ∙ c.if-not-is_closed.false) in
    let h = begins _ ended _ c.last_entry-last.ensures in
    omega arith

pub holds_block-requires : goal.holds_block-requires
holds_block-requires c =
    let ended = closed_ended _ _ _ _ (in_keys _ c.requires.2) (in_values _ c.requires.2) (sym c.is_closed.ensures ∙ c.if-not-is_closed.false) in
    let laid = content_laid _ ended _ c.last_entry-last.ensures in
    (rw (rest_lent c.args.bytes.now (8 * c.last_entry-last.result.start)) laid, c.requires.0, c.requires.1, sym c.is_valid.ensures ∙ c.if-is_valid.true)

pub returns-then-is_valid : goal.returns-then-is_valid
returns-then-is_valid c =
    let a = c.args in
    let last = c.last_entry-last.result in
    let shut = sym c.is_closed.ensures ∙ c.if-not-is_closed.false in
    content_tells a.bytes.now (closed_ended _ _ _ _ (in_keys _ c.requires.2) (in_values _ c.requires.2) shut) last c.last_entry-last.ensures _ _ shut
    c.holds_block.result (sym c.is_valid.ensures ∙ c.if-is_valid.true)
    (c.holds_block.ensures ∙ ap (λ l. is_content a.m a.s last.key (records_at 4 last.count l)) (rest_lent a.bytes.now (8 * last.start)))

pub returns-else-is_valid : goal.returns-else-is_valid
returns-else-is_valid c =
    let shut = sym c.is_closed.ensures ∙ c.if-not-is_closed.false in
    c.if-is_valid.false
    ∙ not_valid (closed_ended _ _ _ _ (in_keys _ c.requires.2) (in_values _ c.requires.2) shut) _ _ shut _ c.last_entry-last.ensures
    (sym c.is_valid.ensures ∙ c.if-is_valid.false)
