-- `paint_window::decide` meets its contract: the rows in the call's order (specification S25), the first four and the last two by their own functions.
use mathlib.Core.Path.{◌≡◌, refl, sym, ap, ap₂, subst, ◌∙◌}
use mathlib.Core.Bool.{not}
use native.Mathlib.Omega.{arith}
use lib.ListN.{length}
use borrow.Author.Tests.{le-leb}
use Rattle.std.specs.Prelude.{IfOk}
use Rattle.std.proofs.lemmas.Result.{err_from_is_err_and}
use Rattle.definitions.specs.Read.{records_of}
use Rattle.definitions.specs.Window.{largest_blocks}
use Rattle.definitions.proofs.Refused.{refusal_some}
use Rattle.laws.proofs.First.{this, later}
use Rattle.laws.proofs.Edits.{own_refuses}
use Rattle.list.proofs.Taken.{taken_records}
use Rattle.edit.proofs.EditCallTables.{edit_early, first_passed, passed_settings, passed_force}
use Rattle.window_paint.specs.PaintWindowCall.{window_room_refusal}
use Rattle.window_paint.proofs.PaintWindowTable.{window_room, passed_fillable, painting_taken}
use Rattle.window_paint.proofs.paint_window.decide.Goals as goal

pub returns-in_err-list-clause-told : goal.returns-in_err-list-clause-told
returns-in_err-list-clause-told c =
    let p = err_from_is_err_and c.from_residual.result c.from_residual.ensures.1 in
    rw (p.1, p.2) (edit_early _ _ c.in_err-list.ensures.told (refusal_some c.in_err-list.field-0.0))

pub is_window-requires : goal.is_window-requires
is_window-requires c = (passed_settings (first_passed 0 c.in_ok-list.ensures.told refl)).deep

pub returns-then-not-is_window-clause-told : goal.returns-then-not-is_window-clause-told
returns-then-not-is_window-clause-told c =
    own_refuses _ (first_passed 0 c.in_ok-list.ensures.told refl) (this (ap not (sym c.is_window.ensures ∙ c.if-not-is_window.true)) refl)

pub returns-then-s-feature-clause-told : goal.returns-then-s-feature-clause-told
returns-then-s-feature-clause-told c =
    own_refuses _ (first_passed 0 c.in_ok-list.ensures.told refl)
    (later (ap not (sym c.is_window.ensures ∙ c.if-not-is_window.false)) (this (le-leb _ _ c.if-s-feature.true) refl))

pub decide_room-requires-clause-painting : goal.decide_room-requires-clause-painting
decide_room-requires-clause-painting c =
    painting_taken c.in_ok-list.ensures.list
    (passed_fillable _ _ (first_passed 0 c.in_ok-list.ensures.told refl) (sym c.is_window.ensures ∙ c.if-not-is_window.false) c.if-s-feature.false)

pub decide_room-requires-clause-log : goal.decide_room-requires-clause-log
decide_room-requires-clause-log c =
    let force = passed_force (first_passed 0 c.in_ok-list.ensures.told refl) in
    (omega (arith, force, c.smaller-log_room.ensures), omega (arith, c.smaller-log_room.ensures, c.well_formed))

pub returns-clause-told : goal.returns-clause-told
returns-clause-told c =
    let p = first_passed 0 c.in_ok-list.ensures.told refl in
    let t = c.in_ok-list.ensures.list in
    c.decide_room.ensures.told
    ∙ ap₂ (λ m l. window_room_refusal m l c.smaller-list_room.result c.smaller-log_room.result c.args.in_force c.args.window c.args.feature) t.map (taken_records t)
    ∙ ap₂ (λ list_room log_room. window_room_refusal c.args.m (records_of c.args.keys.now c.args.bits.now c.args.n) list_room log_room c.args.in_force c.args.window c.args.feature)
    c.smaller-list_room.ensures c.smaller-log_room.ensures
    ∙ window_room _ _ p (sym c.is_window.ensures ∙ c.if-not-is_window.false) c.if-s-feature.false

pub returns-clause-number : goal.returns-clause-number
returns-clause-number c =
    let t = c.in_ok-list.ensures.list in
    subst (λ m. IfOk c.decide_room.result (λ number. number ≡ length (largest_blocks m c.args.window))) t.map c.decide_room.ensures.number
