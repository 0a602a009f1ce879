-- Where there is no room all is left as it is; else the block is filled again, and the summary is counted anew.
use mathlib.Core.Path.{refl, sym, ap, ◌∙◌}
use Prim.Native.Nat.{◌+◌}
use native.Mathlib.Omega.{arith}
use Rattle.std.specs.Prelude.{Some}
use Rattle.std.proofs.lemmas.Result.{err_from_is_err_and}
use Rattle.keys.specs.Key.{valid_key}
use Rattle.definitions.proofs.Refused.{refusal_some}
use Rattle.laws.proofs.Edits.{edit_refused}
use Rattle.list.proofs.Taken.{taken_length}
use Rattle.edit.proofs.EditCallTables.{room_told, room_clear, passed_settings, passed_own, passed_summary}
use Rattle.edit.proofs.PaintPlan.{paint_found, paint_planned, paint_own, paint_outdated}
use Rattle.undo.proofs.PlanFound.{plan_taken, plan_small, length_taken}
use Rattle.undo.proofs.RedoPlan.{end_within, redo_paintable, redone_is, redo_made, redo_counted}
use Rattle.undo.proofs.RedoTable.{redo_sheet, to-redo, painted_row, redo_done}
use Rattle.undo.proofs.redo.redo_entry.Goals as goal

pub next_entry-next-requires : goal.next_entry-next-requires
next_entry-next-requires c = (to-redo c.requires.0, c.requires.1, c.requires.2)

pub taken-former-requires : goal.taken-former-requires
taken-former-requires c = let rows = redo_sheet c.requires.0 in ((passed_settings rows).deep, passed_own rows)

pub power_of_two-requires : goal.power_of_two-requires
power_of_two-requires c =
    let paints = redo_paintable (to-redo c.requires.0) _ c.requires.2 c.requires.1 _ c.next_entry-next.ensures c.args.bits.now c.args.n c.args.keys.now (passed_settings (redo_sheet c.requires.0)).deep (passed_own (redo_sheet c.requires.0)) in
    omega (arith, paints.feature)

pub plan_within-requires-clause-valid : goal.plan_within-requires-clause-valid
plan_within-requires-clause-valid c =
    let paints = redo_paintable (to-redo c.requires.0) _ c.requires.2 c.requires.1 _ c.next_entry-next.ensures c.args.bits.now c.args.n c.args.keys.now (passed_settings (redo_sheet c.requires.0)).deep (passed_own (redo_sheet c.requires.0)) in
    ap (λ m. valid_key m c.next_entry-next.result.key) c.taken-former.ensures.map ∙ paints.valid

pub plan_within-requires-clause-small : goal.plan_within-requires-clause-small
plan_within-requires-clause-small c =
    let paints = redo_paintable (to-redo c.requires.0) _ c.requires.2 c.requires.1 _ c.next_entry-next.ensures c.args.bits.now c.args.n c.args.keys.now (passed_settings (redo_sheet c.requires.0)).deep (passed_own (redo_sheet c.requires.0)) in
    let h = plan_small c.taken-former.ensures c.next_entry-next.result.key 1 (Some c.power_of_two.result) (paint_planned paints refl) (paint_found _ _ _ _ _ _ c.power_of_two.ensures refl) in
    (h.0, h.1, omega (arith, taken_length c.taken-former.ensures, c.taken-former.ensures.room_for, c.well_formed))

pub returns-in_err-found : goal.returns-in_err-found
returns-in_err-found c =
    let paints = redo_paintable (to-redo c.requires.0) _ c.requires.2 c.requires.1 _ c.next_entry-next.ensures c.args.bits.now c.args.n c.args.keys.now (passed_settings (redo_sheet c.requires.0)).deep (passed_own (redo_sheet c.requires.0)) in
    let size = length_taken c.taken-former.ensures c.next_entry-next.result.key 1 (Some c.power_of_two.result) (paint_planned paints refl) (paint_found _ _ _ _ _ _ c.power_of_two.ensures refl) refl in
    let p = err_from_is_err_and c.from_residual.result c.from_residual.ensures.1 in
    rw (p.1, p.2)
    (edit_refused _ _
    (c.in_err-found.ensures.0 ∙ room_told _ _ _ _ size (omega (arith, c.in_err-found.ensures.1, c.smaller-room.ensures)) ∙ painted_row c.requires.0 _ _ (redone_is _ _ _ c.requires.1 _ c.next_entry-next.ensures))
    (refusal_some c.in_err-found.field-0.0))

pub fill-after-requires-clause-paintable : goal.fill-after-requires-clause-paintable
fill-after-requires-clause-paintable c =
    redo_paintable (to-redo c.requires.0) _ c.requires.2 c.requires.1 _ c.next_entry-next.ensures c.args.bits.now c.args.n c.args.keys.now (passed_settings (redo_sheet c.requires.0)).deep (passed_own (redo_sheet c.requires.0))

pub fill-after-requires-clause-found_value : goal.fill-after-requires-clause-found_value
fill-after-requires-clause-found_value c = c.in_ok-found.ensures.0 ∙ plan_taken c.taken-former.ensures c.next_entry-next.result.key 1 (Some c.power_of_two.result) ∙ paint_found _ _ _ _ _ _ c.power_of_two.ensures refl

pub fill-after-requires-clause-feature_len_bound : goal.fill-after-requires-clause-feature_len_bound
fill-after-requires-clause-feature_len_bound c =
    let paints = redo_paintable (to-redo c.requires.0) _ c.requires.2 c.requires.1 _ c.next_entry-next.ensures c.args.bits.now c.args.n c.args.keys.now (passed_settings (redo_sheet c.requires.0)).deep (passed_own (redo_sheet c.requires.0)) in
    let size = length_taken c.taken-former.ensures c.next_entry-next.result.key 1 (Some c.power_of_two.result) (paint_planned paints refl) (paint_found _ _ _ _ _ _ c.power_of_two.ensures refl) refl in
    omega (arith, size, c.in_ok-found.ensures.1, c.smaller-room.ensures)

pub taken-changed-requires : goal.taken-changed-requires
taken-changed-requires c =
    let paints = redo_paintable (to-redo c.requires.0) _ c.requires.2 c.requires.1 _ c.next_entry-next.ensures c.args.bits.now c.args.n c.args.keys.now (passed_settings (redo_sheet c.requires.0)).deep (passed_own (redo_sheet c.requires.0)) in
    (paints.deepest, paint_own c.args.s paints c.fill-after.ensures)

pub recount-requires : goal.recount-requires
recount-requires c =
    let paints = redo_paintable (to-redo c.requires.0) _ c.requires.2 c.requires.1 _ c.next_entry-next.ensures c.args.bits.now c.args.n c.args.keys.now (passed_settings (redo_sheet c.requires.0)).deep (passed_own (redo_sheet c.requires.0)) in
    let rows = redo_sheet c.requires.0 in
    let few = (passed_settings rows).few in
    paint_outdated c.args.s paints c.fill-after.ensures c.taken-changed.ensures _ (omega arith) (passed_summary rows)

pub overflow_add-result : goal.overflow_add-result
overflow_add-result c =
    let log = to-redo c.requires.0 in
    omega (arith, end_within log _ c.requires.2, log.whole.in_keys, c.well_formed)

pub returns : goal.returns
returns c =
    let paints = redo_paintable (to-redo c.requires.0) _ c.requires.2 c.requires.1 _ c.next_entry-next.ensures c.args.bits.now c.args.n c.args.keys.now (passed_settings (redo_sheet c.requires.0)).deep (passed_own (redo_sheet c.requires.0)) in
    let size = length_taken c.taken-former.ensures c.next_entry-next.result.key 1 (Some c.power_of_two.result) (paint_planned paints refl) (paint_found _ _ _ _ _ _ c.power_of_two.ensures refl) refl in
    redo_done (sym (painted_row c.requires.0 _ _ (redone_is _ _ _ c.requires.1 _ c.next_entry-next.ensures)) ∙ sym (room_clear _ _ _ _ size (omega (arith, c.in_ok-found.ensures.1, c.smaller-room.ensures))))
    (ap (λ x. c.args.in_force + x) c.requires.2)
    (redo_made _ c.requires.1 _ c.next_entry-next.ensures paints c.fill-after.ensures)
    (redo_counted _ c.requires.1 _ c.next_entry-next.ensures paints c.fill-after.ensures _ c.taken-changed.ensures _ c.recount.ensures)
