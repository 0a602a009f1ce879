-- A place is made in each of the three slices.
use mathlib.Core.Path.{ap, ◌∙◌}
use native.Mathlib.Omega.{arith}
use Rattle.std.proofs.lemmas.Result.{err_from_is_err_and}
use Rattle.definitions.proofs.Refused.{refusal_some}
use Rattle.offices.specs.Place.{opened}
use Rattle.offices.proofs.Decided.{adding_told, add_passed, add_room, place_low, places}
use Rattle.offices.proofs.Answers.{add_refused, add-result, add-offices, add-ids, add-keys}
use Rattle.offices.proofs.calls.add_waiver.Goals as goal

pub returns-in_err-place : goal.returns-in_err-place
returns-in_err-place c =
    let p = err_from_is_err_and c.from_residual.result c.from_residual.ensures.1 in
    rw (p.1, p.2) (add_refused _ _ _ _ _ _ _ _ _ _ c.in_err-place.ensures (refusal_some _))

pub open-requires : goal.open-requires
open-requires c =
    let told = adding_told _ _ _ _ _ _ _ _ _ c.in_ok-place.ensures in
    let passed = add_passed _ _ _ _ _ _ _ _ told.0 in
    let low = place_low _ _ _ _ _ _ _ _ passed in
    let at = told.1 in
    let room = add_room _ _ _ _ _ _ _ _ told.0 in
    let full = (places _ _ _ _ _ _ _ _ passed).all_offices in
    (omega arith, omega arith)

pub open-requires-2 : goal.open-requires-2
open-requires-2 c =
    let told = adding_told _ _ _ _ _ _ _ _ _ c.in_ok-place.ensures in
    let passed = add_passed _ _ _ _ _ _ _ _ told.0 in
    let low = place_low _ _ _ _ _ _ _ _ passed in
    let at = told.1 in
    let room = add_room _ _ _ _ _ _ _ _ told.0 in
    let full = (places _ _ _ _ _ _ _ _ passed).all_ids in
    (omega arith, omega arith)

pub open-requires-3 : goal.open-requires-3
open-requires-3 c =
    let told = adding_told _ _ _ _ _ _ _ _ _ c.in_ok-place.ensures in
    let passed = add_passed _ _ _ _ _ _ _ _ told.0 in
    let low = place_low _ _ _ _ _ _ _ _ passed in
    let at = told.1 in
    let room = add_room _ _ _ _ _ _ _ _ told.0 in
    let full = (places _ _ _ _ _ _ _ _ passed).all_waived in
    (omega arith, omega arith)

pub overflow_add-result : goal.overflow_add-result
overflow_add-result c =
    let room = add_room _ _ _ _ _ _ _ _ (adding_told _ _ _ _ _ _ _ _ _ c.in_ok-place.ensures).0 in
    record { fits = omega arith }

pub returns : goal.returns
returns c =
    let a = c.args in
    let told = adding_told _ _ _ _ _ _ _ _ _ c.in_ok-place.ensures in (
      add-result _ _ _ _ _ _ _ _ told.0,
      c.open.ensures ∙ ap (λ i. opened a.rows i a.office a.offices.now) told.1 ∙ add-offices _ _ _ _ _ _ _ _ told.0,
      c.open-2.ensures ∙ ap (λ i. opened a.rows i a.id a.ids.now) told.1 ∙ add-ids _ _ _ _ _ _ _ _ told.0,
      c.open-3.ensures ∙ ap (λ i. opened a.rows i a.key a.waived.now) told.1 ∙ add-keys _ _ _ _ _ _ _ _ told.0,
    )
