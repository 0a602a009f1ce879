-- `build_with_summary::check_raster`: build's first tests come first, and past them the length of the summary decides. Rests on Surveyed.
use Rattle.std.proofs.Common.{refl, sym, ◌∙◌, ap, not}
use Rattle.std.proofs.lemmas.Result.{err_from_is_err_and}
use Rattle.definitions.proofs.Refused.{refusal_some}
use Rattle.laws.proofs.First.{this, holds_first, none_first}
use Rattle.build_with_summary.proofs.Surveyed.{earliest_early, length-decides}
use Rattle.build_with_summary.proofs.check_raster.Goals as goal

pub returns-in_err-check_raster : goal.returns-in_err-check_raster
returns-in_err-check_raster c =
    let p = err_from_is_err_and c.from_residual.result c.from_residual.ensures.1 in
    rw (p.1, p.2) (earliest_early _ _ _ c.args.summary.now _ c.in_err-check_raster.ensures (refusal_some _))

pub returns-then-not-have_length : goal.returns-then-not-have_length
returns-then-not-have_length c =
    sym
    (length-decides _ _ _ c.args.summary.now _ c.in_ok-check_raster.ensures refl
    ∙ holds_first (this (ap not (sym c.have_length.ensures ∙ c.if-not-have_length.true)) refl))

pub returns : goal.returns
returns c =
    sym
    (length-decides _ _ _ c.args.summary.now _ c.in_ok-check_raster.ensures refl
    ∙ none_first _ (ap not (sym c.have_length.ensures ∙ c.if-not-have_length.false), tt))
