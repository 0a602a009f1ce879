-- Where there is no room all is left as it is; else the content goes back, and the summary is counted anew.
use mathlib.Core.Path.{refl, sym, ap, ◌∙◌}
use native.Mathlib.Omega.{arith}
use lib.ListN.{length}
use Rattle.std.proofs.lemmas.Result.{err_from_is_err_and}
use Rattle.keys.specs.Key.{valid_key}
use Rattle.definitions.proofs.Refused.{refusal_some}
use Rattle.laws.proofs.LastStep.{before_single}
use Rattle.laws.proofs.Edits.{edit_refused}
use Rattle.list.proofs.Taken.{taken_length}
use Rattle.edit_log.proofs.Places.{start_is, places_are}
use Rattle.edit.proofs.EditCallTables.{room_told, room_clear, passed_settings, passed_summary}
use Rattle.undo.specs.TakingBackCall.{Restorable}
use Rattle.undo.proofs.PlanFound.{plan_taken, plan_small, length_taken}
use Rattle.undo.proofs.TakingBackPlan.{key_valid, content_count, restore_found, restore_planned, restore_puttable, restore_made, restore_own, restore_outdated, restore_counted}
use Rattle.undo.proofs.TakingBackTable.{take-sheet, take_row, take_done, passed_restorable}
use Rattle.undo.proofs.take_back.take_entry_back.Goals as goal

pub last_entry-last-requires : goal.last_entry-last-requires
last_entry-last-requires c =
    let a : Restorable c.args.m c.args.keys.now c.args.bits.now c.args.n c.args.log_keys.now c.args.log_values.now c.args.in_force = passed_restorable (take-sheet c.requires.0) c.requires.0.some c.requires.1 in
    a.ended

pub taken-former-requires : goal.taken-former-requires
taken-former-requires c =
    let a : Restorable c.args.m c.args.keys.now c.args.bits.now c.args.n c.args.log_keys.now c.args.log_values.now c.args.in_force = passed_restorable (take-sheet c.requires.0) c.requires.0.some c.requires.1 in
    (a.deepest, a.own)

pub one_bits-one-requires : goal.one_bits-one-requires
one_bits-one-requires c =
    let a : Restorable c.args.m c.args.keys.now c.args.bits.now c.args.n c.args.log_keys.now c.args.log_values.now c.args.in_force = passed_restorable (take-sheet c.requires.0) c.requires.0.some c.requires.1 in
    let all = places_are a.ended _ c.last_entry-last.ensures in
    omega (arith, a.ended.in_values)

pub plan_within-requires-clause-valid : goal.plan_within-requires-clause-valid
plan_within-requires-clause-valid c =
    let a : Restorable c.args.m c.args.keys.now c.args.bits.now c.args.n c.args.log_keys.now c.args.log_values.now c.args.in_force = passed_restorable (take-sheet c.requires.0) c.requires.0.some c.requires.1 in
    ap (λ m. valid_key m c.last_entry-last.result.key) c.taken-former.ensures.map ∙ key_valid a _ c.last_entry-last.ensures

pub plan_within-requires-clause-small : goal.plan_within-requires-clause-small
plan_within-requires-clause-small c =
    let a : Restorable c.args.m c.args.keys.now c.args.bits.now c.args.n c.args.log_keys.now c.args.log_values.now c.args.in_force = passed_restorable (take-sheet c.requires.0) c.requires.0.some c.requires.1 in
    let all = places_are a.ended _ c.last_entry-last.ensures in
    let h = plan_small c.taken-former.ensures c.last_entry-last.result.key c.last_entry-last.result.count c.one_bits-one.result (restore_planned a _ c.last_entry-last.ensures _ refl) (restore_found a _ c.last_entry-last.ensures _ c.one_bits-one.ensures) in
    (h.0, h.1, omega (arith, a.ended.in_values, taken_length c.taken-former.ensures, c.taken-former.ensures.room_for, c.well_formed))

pub returns-in_err-found : goal.returns-in_err-found
returns-in_err-found c =
    let a : Restorable c.args.m c.args.keys.now c.args.bits.now c.args.n c.args.log_keys.now c.args.log_values.now c.args.in_force = passed_restorable (take-sheet c.requires.0) c.requires.0.some c.requires.1 in
    let size = length_taken c.taken-former.ensures c.last_entry-last.result.key c.last_entry-last.result.count c.one_bits-one.result (restore_planned a _ c.last_entry-last.ensures _ refl) (restore_found a _ c.last_entry-last.ensures _ c.one_bits-one.ensures) (content_count a _ c.last_entry-last.ensures) in
    let p = err_from_is_err_and c.from_residual.result c.from_residual.ensures.1 in
    rw (p.1, p.2)
    (edit_refused _ _
    (c.in_err-found.ensures.0 ∙ room_told _ _ _ _ size (omega (arith, c.in_err-found.ensures.1, c.smaller-room.ensures)) ∙ take_row c.requires.0)
    (refusal_some c.in_err-found.field-0.0))

pub put_back-after-requires : goal.put_back-after-requires
put_back-after-requires c =
    let a : Restorable c.args.m c.args.keys.now c.args.bits.now c.args.n c.args.log_keys.now c.args.log_values.now c.args.in_force = passed_restorable (take-sheet c.requires.0) c.requires.0.some c.requires.1 in
    let size = length_taken c.taken-former.ensures c.last_entry-last.result.key c.last_entry-last.result.count c.one_bits-one.result (restore_planned a _ c.last_entry-last.ensures _ refl) (restore_found a _ c.last_entry-last.ensures _ c.one_bits-one.ensures) (content_count a _ c.last_entry-last.ensures) in
    let found = c.in_ok-found.ensures.0 ∙ plan_taken c.taken-former.ensures c.last_entry-last.result.key c.last_entry-last.result.count c.one_bits-one.result ∙ restore_found a _ c.last_entry-last.ensures _ c.one_bits-one.ensures in
    let r = restore_puttable a _ c.last_entry-last.ensures _ found (omega (arith, size, c.in_ok-found.ensures.1, c.smaller-room.ensures)) in
    record { count_bound = r.0; puttable = r.1 }

pub taken-changed-requires : goal.taken-changed-requires
taken-changed-requires c =
    let a : Restorable c.args.m c.args.keys.now c.args.bits.now c.args.n c.args.log_keys.now c.args.log_values.now c.args.in_force = passed_restorable (take-sheet c.requires.0) c.requires.0.some c.requires.1 in
    let found = c.in_ok-found.ensures.0 ∙ plan_taken c.taken-former.ensures c.last_entry-last.result.key c.last_entry-last.result.count c.one_bits-one.result ∙ restore_found a _ c.last_entry-last.ensures _ c.one_bits-one.ensures in
    (a.deepest, restore_own c.args.s a _ c.last_entry-last.ensures (restore_made a _ c.last_entry-last.ensures _ found c.put_back-after.ensures))

pub recount-requires : goal.recount-requires
recount-requires c =
    let a : Restorable c.args.m c.args.keys.now c.args.bits.now c.args.n c.args.log_keys.now c.args.log_values.now c.args.in_force = passed_restorable (take-sheet c.requires.0) c.requires.0.some c.requires.1 in
    let found = c.in_ok-found.ensures.0 ∙ plan_taken c.taken-former.ensures c.last_entry-last.result.key c.last_entry-last.result.count c.one_bits-one.result ∙ restore_found a _ c.last_entry-last.ensures _ c.one_bits-one.ensures in
    let rows = take-sheet c.requires.0 in
    let few = (passed_settings rows).few in
    restore_outdated c.args.s a _ c.last_entry-last.ensures (restore_made a _ c.last_entry-last.ensures _ found c.put_back-after.ensures) c.taken-changed.ensures _ (omega arith) (passed_summary rows)

pub returns : goal.returns
returns c =
    let a : Restorable c.args.m c.args.keys.now c.args.bits.now c.args.n c.args.log_keys.now c.args.log_values.now c.args.in_force = passed_restorable (take-sheet c.requires.0) c.requires.0.some c.requires.1 in
    let size = length_taken c.taken-former.ensures c.last_entry-last.result.key c.last_entry-last.result.count c.one_bits-one.result (restore_planned a _ c.last_entry-last.ensures _ refl) (restore_found a _ c.last_entry-last.ensures _ c.one_bits-one.ensures) (content_count a _ c.last_entry-last.ensures) in
    let found = c.in_ok-found.ensures.0 ∙ plan_taken c.taken-former.ensures c.last_entry-last.result.key c.last_entry-last.result.count c.one_bits-one.result ∙ restore_found a _ c.last_entry-last.ensures _ c.one_bits-one.ensures in
    let made = restore_made a _ c.last_entry-last.ensures _ found c.put_back-after.ensures in
    take_done (sym (take_row c.requires.0) ∙ sym (room_clear _ _ _ _ size (omega (arith, c.in_ok-found.ensures.1, c.smaller-room.ensures))))
    (start_is a.ended _ c.last_entry-last.ensures ∙ ap length (sym (before_single _ c.requires.1))) made
    (restore_counted c.args.s a _ c.last_entry-last.ensures made c.taken-changed.ensures _ c.recount.ensures)
