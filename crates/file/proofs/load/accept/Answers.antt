-- `load::accept`: its tests are those of load's table, in the same order. Rests on HeadAnswers and LoadAnswers.
use Rattle.std.proofs.Common.{arith, sym, ◌∙◌}
use Rattle.std.proofs.lemmas.Result.{err_from_is_err_and}
use Rattle.definitions.proofs.Refused.{refusal_some}
use Rattle.file.proofs.HeadAnswers.{head_refuses, head_exact}
use Rattle.file.proofs.LoadAnswers.{no_list, no_room, all_good}
use Rattle.file.proofs.load.accept.Goals as goal

pub returns-in_err-head-clause-told : goal.returns-in_err-head-clause-told
returns-in_err-head-clause-told c = λ keys bits in_keys in_bits.
    let p = err_from_is_err_and c.from_residual.result c.from_residual.ensures.1 in
    rw (p.1, p.2) (sym (head_refuses c.args.file.now keys bits _ c.in_err-head.ensures.told (refusal_some _)))

pub holds_list-requires : goal.holds_list-requires
holds_list-requires c = head_exact c.args.file.now c.in_ok-head.head c.in_ok-head.ensures.told c.in_ok-head.ensures.head

pub returns-then-not-holds_list-clause-told : goal.returns-then-not-holds_list-clause-told
returns-then-not-holds_list-clause-told c = λ keys bits in_keys in_bits.
    no_list c.in_ok-head.ensures.told c.in_ok-head.ensures.head keys bits (sym c.holds_list.ensures ∙ c.if-not-holds_list.true)

pub returns-then-in_keys-head-clause-told : goal.returns-then-in_keys-head-clause-told
returns-then-in_keys-head-clause-told c = λ keys bits in_keys in_bits.
    no_room c.in_ok-head.ensures.told c.in_ok-head.ensures.head keys bits (sym c.holds_list.ensures ∙ c.if-not-holds_list.false)
    (omega (arith, c.then-in_keys-head.either))

pub returns-clause-told : goal.returns-clause-told
returns-clause-told c = λ keys bits in_keys in_bits.
    all_good c.in_ok-head.ensures.told c.in_ok-head.ensures.head keys bits (sym c.holds_list.ensures ∙ c.if-not-holds_list.false) (omega arith)
