-- `calls::standing`: a refused call gives its number alone, and an accepted one the numbers of the standing. Rests on Answers and Taken.
use Rattle.std.proofs.Common.{sym, ◌∙◌, ap₂}
use Rattle.std.proofs.lemmas.Result.{err_from_is_err_and}
use Rattle.definitions.specs.Standing.{standing_of}
use Rattle.definitions.proofs.Refused.{refusal_some}
use Rattle.list.proofs.Taken.{taken_records}
use Rattle.read.proofs.Answers.{stands_numbers, standing_refused, standing_found, asked}
use Rattle.read.proofs.calls.standing.Goals as goal

pub returns-in_err-list : goal.returns-in_err-list
returns-in_err-list c =
    let p = err_from_is_err_and c.from_residual.result c.from_residual.ensures.1 in
    rw (p.1, p.2) (standing_refused _ _ _ _ _ _ _ c.in_err-list.ensures.told (refusal_some _))

pub stand-requires : goal.stand-requires
stand-requires c = rw c.in_ok-list.ensures.list.map (asked _ _ _ _ _ _ (sym c.in_ok-list.ensures.told)).valid

pub returns : goal.returns
returns c =
    let t = c.in_ok-list.ensures.list in
    let is = c.stand.ensures ∙ ap₂ (λ m records. standing_of m c.args.key records) t.map (taken_records t) in
    stands_numbers _ ∙ standing_found _ _ _ _ _ _ _ (sym c.in_ok-list.ensures.told) is
