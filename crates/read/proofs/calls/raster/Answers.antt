-- `calls::raster`: a refused call writes nothing, and an accepted one fills the raster. Rests on Answers and Taken.
use Rattle.std.proofs.Common.{◌^◌, sym, ◌∙◌, ap₂}
use Rattle.std.proofs.lemmas.Result.{err_from_is_err_and}
use Rattle.definitions.specs.Window.{features_of_rows}
use Rattle.definitions.proofs.Refused.{refusal_some}
use Rattle.list.proofs.Taken.{taken_picture}
use Rattle.list.proofs.Tests.{raster_passed}
use Rattle.read.proofs.Answers.{raster_refused, raster_done}
use Rattle.read.proofs.calls.raster.Goals as goal

pub returns-in_err-list-clause-value : goal.returns-in_err-list-clause-value
returns-in_err-list-clause-value c =
    let p = err_from_is_err_and c.from_residual.result c.from_residual.ensures.1 in
    rw (p.1, p.2) (raster_refused _ _ _ _ _ _ _ c.in_err-list.ensures.told (refusal_some _)).0

pub returns-in_err-list-clause-raster_after : goal.returns-in_err-list-clause-raster_after
returns-in_err-list-clause-raster_after c = (raster_refused _ _ _ _ _ _ _ c.in_err-list.ensures.told (refusal_some _)).1

pub fill_raster-requires : goal.fill_raster-requires
fill_raster-requires c = rw c.in_ok-list.ensures.list.map (raster_passed _ _ _ _ _ _ (sym c.in_ok-list.ensures.told)).sized

pub returns-clause-value : goal.returns-clause-value
returns-clause-value c =
    let t = c.in_ok-list.ensures.list in
    let is = c.fill_raster.ensures ∙ ap₂ (λ m p. features_of_rows p 0 0 (2 ^ m) (2 ^ m)) t.map (taken_picture t) in
    (raster_done _ _ _ _ _ _ _ (sym c.in_ok-list.ensures.told) is).0

pub returns-clause-raster_after : goal.returns-clause-raster_after
returns-clause-raster_after c =
    let t = c.in_ok-list.ensures.list in
    let is = c.fill_raster.ensures ∙ ap₂ (λ m p. features_of_rows p 0 0 (2 ^ m) (2 ^ m)) t.map (taken_picture t) in
    (raster_done _ _ _ _ _ _ _ (sym c.in_ok-list.ensures.told) is).1
