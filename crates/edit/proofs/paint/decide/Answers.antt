-- The rows in the call's order (specification S25), the first four and the last two by their own functions.
use mathlib.Core.Path.{◌≡◌, refl, sym, ap, ap₂, subst, ◌∙◌}
use mathlib.Core.Bool.{not}
use native.Mathlib.Omega.{arith}
use borrow.Author.Tests.{le-leb}
use Rattle.std.specs.Prelude.{IfOk}
use Rattle.std.proofs.lemmas.Result.{err_from_is_err_and}
use Rattle.keys.specs.Key.{valid_key}
use Rattle.definitions.specs.Read.{records_of}
use Rattle.definitions.proofs.Refused.{refusal_some}
use Rattle.laws.proofs.First.{this, later}
use Rattle.laws.proofs.Edits.{own_refuses}
use Rattle.list.proofs.Taken.{taken_records}
use Rattle.edit.specs.PaintCall.{room_refusal, granted_paint}
use Rattle.edit.proofs.EditCallTables.{edit_early, first_passed, passed_settings, passed_force}
use Rattle.edit.proofs.PaintTable.{room_decides}
use Rattle.edit.proofs.paint.decide.Goals as goal

pub returns-in_err-list-clause-told : goal.returns-in_err-list-clause-told
returns-in_err-list-clause-told c =
    let p = err_from_is_err_and c.from_residual.result c.from_residual.ensures.1 in
    rw (p.1, p.2) (edit_early _ _ c.in_err-list.ensures.told (refusal_some c.in_err-list.field-0.0))

pub is_valid-requires : goal.is_valid-requires
is_valid-requires c = (passed_settings (first_passed 0 c.in_ok-list.ensures.told refl)).deep

pub returns-then-not-is_valid-clause-told : goal.returns-then-not-is_valid-clause-told
returns-then-not-is_valid-clause-told c =
    own_refuses _ (first_passed 0 c.in_ok-list.ensures.told refl) (this (ap not (sym c.is_valid.ensures ∙ c.if-not-is_valid.true)) refl)

pub returns-then-s-feature-clause-told : goal.returns-then-s-feature-clause-told
returns-then-s-feature-clause-told c =
    own_refuses _ (first_passed 0 c.in_ok-list.ensures.told refl)
    (later (ap not (sym c.is_valid.ensures ∙ c.if-not-is_valid.false)) (this (le-leb _ _ c.if-s-feature.true) refl))

pub decide_room-requires-clause-block : goal.decide_room-requires-clause-block
decide_room-requires-clause-block c =
    let good = passed_settings (first_passed 0 c.in_ok-list.ensures.told refl) in
    (ap (λ m. valid_key m c.args.key) c.in_ok-list.ensures.list.map ∙ sym c.is_valid.ensures ∙ c.if-not-is_valid.false, omega (arith, good.few, c.if-s-feature.false))

pub decide_room-requires-clause-log : goal.decide_room-requires-clause-log
decide_room-requires-clause-log c =
    let force = passed_force (first_passed 0 c.in_ok-list.ensures.told refl) in
    (omega (arith, force, c.smaller-log_room.ensures), omega (arith, c.smaller-log_room.ensures, c.well_formed))

pub returns-clause-told : goal.returns-clause-told
returns-clause-told c =
    let p = first_passed 0 c.in_ok-list.ensures.told refl in
    let t = c.in_ok-list.ensures.list in
    c.decide_room.ensures.told
    ∙ ap₂ (λ m l. room_refusal m l c.smaller-list_room.result c.smaller-log_room.result c.args.in_force c.args.key c.args.feature) t.map (taken_records t)
    ∙ ap₂ (λ list_room log_room. room_refusal c.args.m (records_of c.args.keys.now c.args.bits.now c.args.n) list_room log_room c.args.in_force c.args.key c.args.feature) c.smaller-list_room.ensures c.smaller-log_room.ensures
    ∙ room_decides _ _ p (sym c.is_valid.ensures ∙ c.if-not-is_valid.false) c.if-s-feature.false

pub returns-clause-granted : goal.returns-clause-granted
returns-clause-granted c =
    let t = c.in_ok-list.ensures.list in
    subst (λ grant. IfOk c.decide_room.result (λ g. g ≡ grant))
    (ap₂ (λ m l. granted_paint m l c.args.in_force c.args.key c.args.feature) t.map (taken_records t))
    c.decide_room.ensures.granted
