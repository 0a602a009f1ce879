-- `build_with_summary::survey`: each refusal leaves all as it was, and else the list just written is an accepted one whose summary is the raster's. Rests on
-- Surveyed.
use Rattle.std.proofs.Common.{refl, sym, ◌∙◌, ap₂}
use Rattle.std.proofs.lemmas.Result.{err_from_is_err_and}
use Rattle.definitions.specs.Area.{summary_of}
use Rattle.definitions.proofs.Refused.{refusal_some}
use Rattle.list.proofs.Taken.{taken_picture}
use Rattle.build_with_summary.proofs.Surveyed.{survey_told, survey_passed, survey_nine, survey_own, survey_done}
use Rattle.build_with_summary.proofs.survey.Goals as goal

pub returns-in_err-check_raster : goal.returns-in_err-check_raster
returns-in_err-check_raster c =
    let p = err_from_is_err_and c.from_residual.result c.from_residual.ensures.1 in
    let r = survey_told c.args.m c.args.s c.args.raster.now c.args.keys.now c.args.bits.now c.args.summary.now _ c.in_err-check_raster.ensures in
    record { value = rw (p.1, p.2) r.0; keys_after = r.1.0; bits_after = r.1.1.0; summary_after = r.1.1.1 }

pub build_checked-requires : goal.build_checked-requires
build_checked-requires c = (survey_passed _ _ _ c.args.summary.now (sym c.in_ok-check_raster.ensures)).earlier

pub returns-in_err-n : goal.returns-in_err-n
returns-in_err-n c =
    let p = err_from_is_err_and c.from_residual-in_err-n.result c.from_residual-in_err-n.ensures.1 in
    let built = c.in_err-n.ensures in
    let r = survey_nine c.args.m c.args.s c.args.raster.now c.args.keys.now c.args.bits.now c.args.summary.now _ _ _ (sym c.in_ok-check_raster.ensures) built.value built.keys_after built.bits_after (refusal_some _) in
    record { value = rw (p.1, p.2) r.0; keys_after = r.1.0; bits_after = r.1.1.0; summary_after = r.1.1.1 }

pub taken-list-requires : goal.taken-list-requires
taken-list-requires c =
    let passed = survey_passed c.args.m c.args.s c.args.raster.now c.args.summary.now (sym c.in_ok-check_raster.ensures) in
    let built = c.in_ok-n.ensures in
    (passed.settings.deep, survey_own c.args.m c.args.s c.args.raster.now c.args.keys.now c.args.bits.now c.args.summary.now _ _ _ (sym c.in_ok-check_raster.ensures) built.value built.keys_after built.bits_after refl)

pub fill-requires : goal.fill-requires
fill-requires c =
    let passed = survey_passed c.args.m c.args.s c.args.raster.now c.args.summary.now (sym c.in_ok-check_raster.ensures) in
    (passed.settings.few, rw c.taken-list.ensures.map passed.long)

pub returns : goal.returns
returns c =
    let built = c.in_ok-n.ensures in
    let t = c.taken-list.ensures in
    let filled = c.fill.ensures ∙ ap₂ (λ m p. summary_of m c.args.s p) t.map (taken_picture t) in
    let r = survey_done c.args.m c.args.s c.args.raster.now c.args.keys.now c.args.bits.now c.args.summary.now _ _ _ (sym c.in_ok-check_raster.ensures) built.value built.keys_after built.bits_after refl _ filled in
    record { value = r.0; keys_after = r.1.0; bits_after = r.1.1.0; summary_after = r.1.1.1 }
