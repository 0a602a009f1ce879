-- `paint_window::paint_window` meets its contract: a refusal leaves all as it is; else the group is logged while the list still has the former contents, and
-- then the window is filled and the summary counted.
use Rattle.std.proofs.Common.{◌∙◌, ap₂, subst, sym, arith}
use Rattle.std.proofs.lemmas.Result.{err_from_is_err_and}
use Rattle.definitions.specs.Area.{summary_of}
use Rattle.definitions.specs.Calls.PaintWindow.{group_gained}
use Rattle.definitions.proofs.Refused.{refusal_some}
use Rattle.laws.proofs.Edits.{edit_refused}
use Rattle.list.proofs.Taken.{taken_records, taken_picture}
use Rattle.apply_deed.proofs.Recounted.{outdated_taken}
use Rattle.edit.specs.PaintCall.{Relogged}
use Rattle.edit.proofs.EditCallTables.{passed_settings, passed_summary}
use Rattle.window_paint.proofs.WindowFilled.{can_paint, window_own, window_outdated, window_counted}
use Rattle.window_paint.proofs.PaintWindowTable.{window_passed, window_sheet, window_fits, window_fillable, window_fresh, window_done, group_taken}
use Rattle.window_paint.proofs.paint_window.paint_window.Goals as goal

pub returns-in_err-number : goal.returns-in_err-number
returns-in_err-number c =
    let p = err_from_is_err_and c.from_residual.result c.from_residual.ensures.1 in
    rw (p.1, p.2) (edit_refused _ _ c.in_err-number.ensures.told (refusal_some c.in_err-number.field-0.0))

pub taken-former-requires : goal.taken-former-requires
taken-former-requires c = let a = window_fillable (window_passed c.args.m c.args.s c.args.keys.now c.args.bits.now c.args.n c.args.summary.now c.args.log_keys.now c.args.log_values.now c.args.used c.args.in_force c.args.window c.args.feature c.in_ok-number.ensures.told) in (a.list.deep, a.list.own)

pub log_window-logged-requires : goal.log_window-logged-requires
log_window-logged-requires c = group_taken c.taken-former.ensures (window_fresh (window_passed c.args.m c.args.s c.args.keys.now c.args.bits.now c.args.n c.args.summary.now c.args.log_keys.now c.args.log_values.now c.args.used c.args.in_force c.args.window c.args.feature c.in_ok-number.ensures.told) c.in_ok-number.ensures.number)

pub fill_window-after-requires : goal.fill_window-after-requires
fill_window-after-requires c = let p = (window_passed c.args.m c.args.s c.args.keys.now c.args.bits.now c.args.n c.args.summary.now c.args.log_keys.now c.args.log_values.now c.args.used c.args.in_force c.args.window c.args.feature c.in_ok-number.ensures.told) in (window_fillable p, window_fits p)

pub taken-painted-requires : goal.taken-painted-requires
taken-painted-requires c = let a = window_fillable (window_passed c.args.m c.args.s c.args.keys.now c.args.bits.now c.args.n c.args.summary.now c.args.log_keys.now c.args.log_values.now c.args.used c.args.in_force c.args.window c.args.feature c.in_ok-number.ensures.told) in (a.list.deep, window_own a c.fill_window-after.ensures)

pub painting-doing-requires : goal.painting-doing-requires
painting-doing-requires c = can_paint (window_fillable (window_passed c.args.m c.args.s c.args.keys.now c.args.bits.now c.args.n c.args.summary.now c.args.log_keys.now c.args.log_values.now c.args.used c.args.in_force c.args.window c.args.feature c.in_ok-number.ensures.told))

pub recount-requires : goal.recount-requires
recount-requires c =
    let p = (window_passed c.args.m c.args.s c.args.keys.now c.args.bits.now c.args.n c.args.summary.now c.args.log_keys.now c.args.log_values.now c.args.used c.args.in_force c.args.window c.args.feature c.in_ok-number.ensures.told) in
    record {
      same_map = c.painting-doing.ensures.map ∙ sym c.taken-painted.ensures.map;
      step_outdated = rw c.painting-doing.ensures.step
          (outdated_taken c.taken-painted.ensures
          (window_outdated _ (window_fillable p) c.fill_window-after.ensures _ (let few = (passed_settings (window_sheet p)).few in omega arith) (passed_summary (window_sheet p))));
    }

pub returns : goal.returns
returns c =
    let p = (window_passed c.args.m c.args.s c.args.keys.now c.args.bits.now c.args.n c.args.summary.now c.args.log_keys.now c.args.log_values.now c.args.used c.args.in_force c.args.window c.args.feature c.in_ok-number.ensures.told) in
    let t = c.taken-former.ensures in
    let painted = c.taken-painted.ensures in
    window_done p
    (subst (λ group. Relogged group c.args.in_force c.args.used c.args.log_keys.now c.args.log_values.now c.log_window-logged.new.log_keys c.log_window-logged.new.log_values c.log_window-logged.result)
    (ap₂ (λ m l. group_gained m l c.args.window c.args.feature) t.map (taken_records t)) c.log_window-logged.ensures)
    c.fill_window-after.ensures
    (window_counted _ (window_fillable p) c.fill_window-after.ensures _ (c.recount.ensures ∙ ap₂ (λ m shown. summary_of m c.args.s shown) painted.map (taken_picture painted)))
