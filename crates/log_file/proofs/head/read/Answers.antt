-- `head::read`: its tests are those of load's table, in the same order. Rests on HeadAnswers.
use Rattle.std.proofs.Common.{sym, ap, ap₂, ◌∙◌, length}
use lib.Dec.{eqb}
use Rattle.definitions.specs.Refusal.{bad_settings}
use Rattle.definitions.specs.LogFile.{log_file_length}
use Rattle.log_file.proofs.HeadAnswers.{log_mark_test, short_head, mark_head, version_head, settings_head, length-head, good_head}
use Rattle.log_file.proofs.head.read.Goals as goal

pub returns-then-file-lt23-clause-told : goal.returns-then-file-lt23-clause-told
returns-then-file-lt23-clause-told c = short_head c.args.file.now c.if-file-lt23.true

pub returns-then-is_wrong-clause-told : goal.returns-then-is_wrong-clause-told
returns-then-is_wrong-clause-told c = mark_head c.args.file.now c.if-file-lt23.false (log_mark_test _ _ c.is_wrong.ensures ∙ c.if-is_wrong.true)

pub returns-then-u16_at-ne1-clause-told : goal.returns-then-u16_at-ne1-clause-told
returns-then-u16_at-ne1-clause-told c = version_head c.args.file.now c.if-file-lt23.false (log_mark_test _ _ c.is_wrong.ensures ∙ c.if-is_wrong.false) (λ z. c.if-u16_at-ne1.true (c.u16_at.ensures ∙ z))

pub returns-then-are_bad-clause-told : goal.returns-then-are_bad-clause-told
returns-then-are_bad-clause-told c =
    let settings = ap₂ bad_settings (sym c.u8_at-m.ensures) (sym c.u8_at-s.ensures) ∙ sym c.are_bad.ensures in
    settings_head c.args.file.now c.if-file-lt23.false (log_mark_test _ _ c.is_wrong.ensures ∙ c.if-is_wrong.false) (sym c.u16_at.ensures ∙ c.if-u16_at-ne1.false)
    (settings ∙ c.if-are_bad.true)

pub returns-then-not-is_length_for-clause-told : goal.returns-then-not-is_length_for-clause-told
returns-then-not-is_length_for-clause-told c =
    let settings = ap₂ bad_settings (sym c.u8_at-m.ensures) (sym c.u8_at-s.ensures) ∙ sym c.are_bad.ensures in
    let size = ap (λ n. eqb (length c.args.file.now) (log_file_length n)) (sym c.u64_at-used.ensures) ∙ sym c.is_length_for.ensures in
    length-head c.args.file.now c.if-file-lt23.false (log_mark_test _ _ c.is_wrong.ensures ∙ c.if-is_wrong.false) (sym c.u16_at.ensures ∙ c.if-u16_at-ne1.false)
    (settings ∙ c.if-are_bad.false) (size ∙ c.if-not-is_length_for.true)

pub returns-clause-told : goal.returns-clause-told
returns-clause-told c =
    let settings = ap₂ bad_settings (sym c.u8_at-m.ensures) (sym c.u8_at-s.ensures) ∙ sym c.are_bad.ensures in
    let size = ap (λ n. eqb (length c.args.file.now) (log_file_length n)) (sym c.u64_at-used.ensures) ∙ sym c.is_length_for.ensures in
    good_head c.args.file.now c.if-file-lt23.false (log_mark_test _ _ c.is_wrong.ensures ∙ c.if-is_wrong.false) (sym c.u16_at.ensures ∙ c.if-u16_at-ne1.false)
    (settings ∙ c.if-are_bad.false) (size ∙ c.if-not-is_length_for.false)
