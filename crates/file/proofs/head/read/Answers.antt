-- `head::read`: its tests are those of load's table, in the same order. Rests on HeadAnswers.
use Rattle.std.proofs.Common.{arith, ◌≡◌, sym, ap, ap₂, ◌∙◌}
use Rattle.definitions.specs.File.{other_version, bad_at_version, wrong_settings, bit_bytes, file_length}
use Rattle.laws.proofs.FileOf.{width_of}
use Rattle.file.proofs.Laid.{short_fits}
use Rattle.file.proofs.HeadAnswers.{mark_test, short_head, mark_head, version_head, settings_head, length-head, good_head}
use Rattle.file.proofs.head.read.Goals as goal

pub returns-then-file-lt11-clause-told : goal.returns-then-file-lt11-clause-told
returns-then-file-lt11-clause-told c = short_head c.args.file.now c.if-file-lt11.true

pub returns-then-is_wrong-clause-told : goal.returns-then-is_wrong-clause-told
returns-then-is_wrong-clause-told c = mark_head c.args.file.now c.if-file-lt11.false (mark_test _ _ c.is_wrong.ensures ∙ c.if-is_wrong.true)

pub returns-then-is_other_version-clause-told : goal.returns-then-is_other_version-clause-told
returns-then-is_other_version-clause-told c =
    let version = ap₂ other_version (sym c.u16_at-version.ensures) (sym c.u8_at-s.ensures) ∙ sym c.is_other_version.ensures in
    version_head c.args.file.now c.if-file-lt11.false (mark_test _ _ c.is_wrong.ensures ∙ c.if-is_wrong.false) (version ∙ c.if-is_other_version.true)

pub returns-then-are_bad-clause-told : goal.returns-then-are_bad-clause-told
returns-then-are_bad-clause-told c =
    let version = ap₂ other_version (sym c.u16_at-version.ensures) (sym c.u8_at-s.ensures) ∙ sym c.is_other_version.ensures in
    let settings : wrong_settings c.args.file.now ≡ c.are_bad.result
    = (λ i. bad_at_version (sym c.u16_at-version.ensures i) (sym c.u8_at-m.ensures i) (sym c.u8_at-s.ensures i)) ∙ sym c.are_bad.ensures in
    settings_head c.args.file.now c.if-file-lt11.false (mark_test _ _ c.is_wrong.ensures ∙ c.if-is_wrong.false) (version ∙ c.if-is_other_version.false)
    (settings ∙ c.if-are_bad.true)

pub length-requires : goal.length-requires
length-requires c = rw c.width.ensures (width_of _, short_fits (width_of _) _ (omega arith))

pub returns-then-file-length-clause-told : goal.returns-then-file-length-clause-told
returns-then-file-length-clause-told c =
    let version = ap₂ other_version (sym c.u16_at-version.ensures) (sym c.u8_at-s.ensures) ∙ sym c.is_other_version.ensures in
    let settings : wrong_settings c.args.file.now ≡ c.are_bad.result
    = (λ i. bad_at_version (sym c.u16_at-version.ensures i) (sym c.u8_at-m.ensures i) (sym c.u8_at-s.ensures i)) ∙ sym c.are_bad.ensures in
    let size = c.length.ensures ∙ ap₂ file_length (c.width.ensures ∙ ap bit_bytes c.u8_at-s.ensures) c.u32_at-n.ensures in
    length-head c.args.file.now c.if-file-lt11.false (mark_test _ _ c.is_wrong.ensures ∙ c.if-is_wrong.false) (version ∙ c.if-is_other_version.false)
    (settings ∙ c.if-are_bad.false) (λ h. c.if-file-length.true (h ∙ sym size))

pub returns-clause-told : goal.returns-clause-told
returns-clause-told c =
    let version = ap₂ other_version (sym c.u16_at-version.ensures) (sym c.u8_at-s.ensures) ∙ sym c.is_other_version.ensures in
    let settings : wrong_settings c.args.file.now ≡ c.are_bad.result
    = (λ i. bad_at_version (sym c.u16_at-version.ensures i) (sym c.u8_at-m.ensures i) (sym c.u8_at-s.ensures i)) ∙ sym c.are_bad.ensures in
    let size = c.length.ensures ∙ ap₂ file_length (c.width.ensures ∙ ap bit_bytes c.u8_at-s.ensures) c.u32_at-n.ensures in
    good_head c.args.file.now c.if-file-lt11.false (mark_test _ _ c.is_wrong.ensures ∙ c.if-is_wrong.false) (version ∙ c.if-is_other_version.false)
    (settings ∙ c.if-are_bad.false) (c.if-file-length.false ∙ size)
