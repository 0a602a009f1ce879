-- A refusal leaves all as it is; else the entry is logged while the list still has the former content, and then the block is filled.
use mathlib.Core.Path.{◌≡◌, sym, ◌∙◌, ap, ap₂, subst}
use native.Mathlib.Omega.{arith}
use Rattle.std.proofs.lemmas.Result.{err_from_is_err_and}
use Rattle.definitions.specs.Standing.{standing_of}
use Rattle.definitions.specs.Calls.Paint.{gained}
use Rattle.definitions.proofs.Refused.{refusal_some}
use Rattle.laws.proofs.Edits.{edit_refused}
use Rattle.list.specs.Taken.{records_listed}
use Rattle.list.proofs.Taken.{taken_records}
use Rattle.edit.specs.PaintCall.{Relogged}
use Rattle.edit.proofs.ContentStands.{former_stands, fresh_taken}
use Rattle.edit.proofs.EditCallTables.{passed_settings, passed_summary, passed_used}
use Rattle.edit.proofs.PaintPlan.{paint_own, paint_outdated, paint_counted}
use Rattle.edit.proofs.PaintTable.{paint_passed, paint_sheet, paint_fits, paint_paintable, paint_fresh, paint_done}
use Rattle.edit.proofs.paint.paint.Goals as goal

pub returns-in_err-grant : goal.returns-in_err-grant
returns-in_err-grant c =
    let p = err_from_is_err_and c.from_residual.result c.from_residual.ensures.1 in
    rw (p.1, p.2) (edit_refused _ _ c.in_err-grant.ensures.told (refusal_some c.in_err-grant.field-0.0))

pub taken-former-requires : goal.taken-former-requires
taken-former-requires c =
    let a = paint_paintable (paint_passed c.args.m c.args.s c.args.keys.now c.args.bits.now c.args.n c.args.summary.now c.args.log_keys.now c.args.log_values.now c.args.used c.args.in_force c.args.key c.args.feature c.in_ok-grant.ensures.told) in
    (a.deepest, a.own)

pub log_paint-logged-requires-clause-fresh : goal.log_paint-logged-requires-clause-fresh
log_paint-logged-requires-clause-fresh c =
    fresh_taken c.taken-former.ensures
    (paint_fresh (paint_passed c.args.m c.args.s c.args.keys.now c.args.bits.now c.args.n c.args.summary.now c.args.log_keys.now c.args.log_values.now c.args.used c.args.in_force c.args.key c.args.feature c.in_ok-grant.ensures.told) _ (ap (λ g. g.new) c.in_ok-grant.ensures.granted))

pub log_paint-logged-requires-clause-used_there : goal.log_paint-logged-requires-clause-used_there
log_paint-logged-requires-clause-used_there c =
    passed_used (paint_sheet (paint_passed c.args.m c.args.s c.args.keys.now c.args.bits.now c.args.n c.args.summary.now c.args.log_keys.now c.args.log_values.now c.args.used c.args.in_force c.args.key c.args.feature c.in_ok-grant.ensures.told))

pub log_paint-logged-requires-clause-former_value : goal.log_paint-logged-requires-clause-former_value
log_paint-logged-requires-clause-former_value c =
    let new = c.in_ok-grant.grant.new in
    let list = c.taken-former.result in
    let key_is : new.key ≡ c.args.key = ap (λ g. g.new.key) c.in_ok-grant.ensures.granted in
    let is : c.in_ok-grant.grant.standing ≡ standing_of list.m new.key (records_listed list) =
    ap (λ g. g.standing) c.in_ok-grant.ensures.granted
    ∙ (λ i. standing_of (sym c.taken-former.ensures.map i) (sym key_is i) (sym (taken_records c.taken-former.ensures) i)) in
    former_stands _ _ _ is

pub fill-after-requires-clause-paintable : goal.fill-after-requires-clause-paintable
fill-after-requires-clause-paintable c =
    paint_paintable (paint_passed c.args.m c.args.s c.args.keys.now c.args.bits.now c.args.n c.args.summary.now c.args.log_keys.now c.args.log_values.now c.args.used c.args.in_force c.args.key c.args.feature c.in_ok-grant.ensures.told)

pub fill-after-requires-clause-feature_len_bound : goal.fill-after-requires-clause-feature_len_bound
fill-after-requires-clause-feature_len_bound c =
    paint_fits (paint_passed c.args.m c.args.s c.args.keys.now c.args.bits.now c.args.n c.args.summary.now c.args.log_keys.now c.args.log_values.now c.args.used c.args.in_force c.args.key c.args.feature c.in_ok-grant.ensures.told)

pub taken-painted-requires : goal.taken-painted-requires
taken-painted-requires c =
    let a = paint_paintable (paint_passed c.args.m c.args.s c.args.keys.now c.args.bits.now c.args.n c.args.summary.now c.args.log_keys.now c.args.log_values.now c.args.used c.args.in_force c.args.key c.args.feature c.in_ok-grant.ensures.told) in
    (a.deepest, paint_own c.args.s a c.fill-after.ensures)

pub recount-requires : goal.recount-requires
recount-requires c =
    let p = paint_passed c.args.m c.args.s c.args.keys.now c.args.bits.now c.args.n c.args.summary.now c.args.log_keys.now c.args.log_values.now c.args.used c.args.in_force c.args.key c.args.feature c.in_ok-grant.ensures.told in
    let few = (passed_settings (paint_sheet p)).few in
    paint_outdated c.args.s (paint_paintable p) c.fill-after.ensures c.taken-painted.ensures _ (omega arith) (passed_summary (paint_sheet p))

pub returns : goal.returns
returns c =
    let p = paint_passed c.args.m c.args.s c.args.keys.now c.args.bits.now c.args.n c.args.summary.now c.args.log_keys.now c.args.log_values.now c.args.used c.args.in_force c.args.key c.args.feature c.in_ok-grant.ensures.told in
    let t = c.taken-former.ensures in
    let new = c.in_ok-grant.grant.new in
    let entry-logged =
    subst (λ entry. Relogged entry new.start c.args.used c.args.log_keys.now c.args.log_values.now c.log_paint-logged.new.log_keys c.log_paint-logged.new.log_values c.log_paint-logged.result)
    (ap₂ (λ m l. gained m l new.key new.feature) t.map (taken_records t))
    c.log_paint-logged.ensures in
    paint_done p _ (ap (λ g. g.new) c.in_ok-grant.ensures.granted) entry-logged c.fill-after.ensures
    (paint_counted c.args.s (paint_paintable p) c.fill-after.ensures c.taken-painted.ensures _ c.recount.ensures)
