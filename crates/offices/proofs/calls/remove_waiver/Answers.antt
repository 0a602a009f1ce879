-- A place is given up in each of the three slices.
use mathlib.Core.Path.{ap, ◌∙◌}
use native.Mathlib.Omega.{arith}
use Rattle.std.proofs.lemmas.Result.{err_from_is_err_and}
use Rattle.definitions.proofs.Refused.{refusal_some}
use Rattle.offices.specs.Place.{gap_closed}
use Rattle.offices.proofs.Decided.{removing_told, remove_passed, remove_place, places}
use Rattle.offices.proofs.Answers.{remove_refused, remove_result, remove-offices, remove-ids, remove-keys}
use Rattle.offices.proofs.calls.remove_waiver.Goals as goal

pub returns-in_err-place : goal.returns-in_err-place
returns-in_err-place c =
    let p = err_from_is_err_and c.from_residual.result c.from_residual.ensures.1 in
    rw (p.1, p.2) (remove_refused _ _ _ _ _ _ _ _ _ _ c.in_err-place.ensures (refusal_some _))

pub close-requires : goal.close-requires
close-requires c =
    let told = removing_told _ _ _ _ _ _ _ _ _ c.in_ok-place.ensures in
    let low = remove_place _ _ _ _ _ _ _ _ told.0 in
    let at = told.1 in
    let p = places _ _ _ _ _ _ _ _ (remove_passed _ _ _ _ _ _ _ _ told.0) in
    let full = p.all_offices in
    let few = p.few in
    (omega arith, omega arith)

pub close-requires-2 : goal.close-requires-2
close-requires-2 c =
    let told = removing_told _ _ _ _ _ _ _ _ _ c.in_ok-place.ensures in
    let low = remove_place _ _ _ _ _ _ _ _ told.0 in
    let at = told.1 in
    let p = places _ _ _ _ _ _ _ _ (remove_passed _ _ _ _ _ _ _ _ told.0) in
    let full = p.all_ids in
    let few = p.few in
    (omega arith, omega arith)

pub close-requires-3 : goal.close-requires-3
close-requires-3 c =
    let told = removing_told _ _ _ _ _ _ _ _ _ c.in_ok-place.ensures in
    let low = remove_place _ _ _ _ _ _ _ _ told.0 in
    let at = told.1 in
    let p = places _ _ _ _ _ _ _ _ (remove_passed _ _ _ _ _ _ _ _ told.0) in
    let full = p.all_waived in
    let few = p.few in
    (omega arith, omega arith)

pub overflow_sub-result : goal.overflow_sub-result
overflow_sub-result c = let low = remove_place _ _ _ _ _ _ _ _ (removing_told _ _ _ _ _ _ _ _ _ c.in_ok-place.ensures).0 in omega arith

pub returns : goal.returns
returns c =
    let a = c.args in
    let told = removing_told _ _ _ _ _ _ _ _ _ c.in_ok-place.ensures in (
      remove_result _ _ _ _ _ _ _ _ told.0,
      c.close.ensures ∙ ap (λ i. gap_closed a.rows i a.offices.now) told.1 ∙ remove-offices _ _ _ _ _ _ _ _ told.0,
      c.close-2.ensures ∙ ap (λ i. gap_closed a.rows i a.ids.now) told.1 ∙ remove-ids _ _ _ _ _ _ _ _ told.0,
      c.close-3.ensures ∙ ap (λ i. gap_closed a.rows i a.waived.now) told.1 ∙ remove-keys _ _ _ _ _ _ _ _ told.0,
    )
