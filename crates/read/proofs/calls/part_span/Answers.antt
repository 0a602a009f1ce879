-- `calls::part_span`: a listed block's part is its records, that of a block inside a leaf the leaf's one. Rests on Answers and Taken.
use Rattle.std.proofs.Common.{sym, ◌∙◌, ap₂}
use Rattle.definitions.specs.Standing.{standing_of}
use Rattle.definitions.proofs.Refused.{refusal_some}
use Rattle.list.proofs.Taken.{taken_records}
use Rattle.read.proofs.Answers.{span_refused, asked, span_listed, span_inside}
use Rattle.read.proofs.calls.part_span.Goals as goal

pub returns-in_default : goal.returns-in_default
returns-in_default c = span_refused _ _ _ _ _ _ _ c.in_default.ensures.told (refusal_some _)

pub stand-requires : goal.stand-requires
stand-requires c = rw c.in-Ok.ensures.list.map (asked _ _ _ _ _ _ (sym c.in-Ok.ensures.told)).valid

pub returns-in-Listed : goal.returns-in-Listed
returns-in-Listed c =
    let t = c.in-Ok.ensures.list in
    let is = c.stand.ensures ∙ ap₂ (λ m records. standing_of m c.args.key records) t.map (taken_records t) in
    span_listed _ _ _ _ _ _ (sym c.in-Ok.ensures.told) _ _ (sym is ∙ c.in-Listed.is)

pub returns-in-Inside : goal.returns-in-Inside
returns-in-Inside c =
    let t = c.in-Ok.ensures.list in
    let is = c.stand.ensures ∙ ap₂ (λ m records. standing_of m c.args.key records) t.map (taken_records t) in
    span_inside _ _ _ _ _ _ (sym c.in-Ok.ensures.told) _ _ _ (sym is ∙ c.in-Inside.is)
