-- `load::accept`: its tests are those of load's table, in the same order. Rests on HeadAnswers and LoadAnswers.
use Rattle.std.proofs.Common.{arith, sym, ap, ◌∙◌}
use Rattle.std.specs.Prelude.{not}
use Rattle.std.proofs.lemmas.Result.{err_from_is_err_and}
use Rattle.definitions.proofs.Refused.{refusal_some}
use Rattle.log_file.proofs.HeadAnswers.{log_head_refuses, head_long, head_settings, head_exact}
use Rattle.log_file.proofs.LoadAnswers.{used_there, log_is, no-log, no_room, all_good}
use Rattle.log_file.proofs.load.accept.Goals as goal

pub returns-in_err-head-clause-told : goal.returns-in_err-head-clause-told
returns-in_err-head-clause-told c = λ keys values in_keys in_values.
    let p = err_from_is_err_and c.from_residual.result c.from_residual.ensures.1 in
    rw (p.1, p.2) (sym (log_head_refuses c.args.file.now keys values _ c.in_err-head.ensures.told (refusal_some _)))

pub slice_bounds-is_log-count : goal.slice_bounds-is_log-count
slice_bounds-is_log-count c = let h = head_long c.in_ok-head.ensures.told c.in_ok-head.ensures.head in omega arith

pub slice_bounds-is_log-start : goal.slice_bounds-is_log-start
slice_bounds-is_log-start c = let h = head_long c.in_ok-head.ensures.told c.in_ok-head.ensures.head in omega arith

pub is_log-requires : goal.is_log-requires
is_log-requires c =
    let none = c.in_ok-head.ensures.told in
    let is = c.in_ok-head.ensures.head in
    let good = head_settings none is in
    (good.deep, good.few, used_there c.args.file.now (head_exact none is) c.in_ok-head.head is)

pub returns-then-not-is_log-clause-told : goal.returns-then-not-is_log-clause-told
returns-then-not-is_log-clause-told c = λ keys values in_keys in_values.
    let none = c.in_ok-head.ensures.told in
    let is = c.in_ok-head.ensures.head in
    no-log none is keys values (sym (log_is c.args.file.now (head_exact none is) c.in_ok-head.head is) ∙ sym c.is_log.ensures ∙ ap not c.if-not-is_log.true)

pub returns-then-in_keys-head-clause-told : goal.returns-then-in_keys-head-clause-told
returns-then-in_keys-head-clause-told c = λ keys values in_keys in_values.
    let none = c.in_ok-head.ensures.told in
    let is = c.in_ok-head.ensures.head in
    no_room none is keys values (sym (log_is c.args.file.now (head_exact none is) c.in_ok-head.head is) ∙ sym c.is_log.ensures ∙ ap not c.if-not-is_log.false)
    (omega (arith, c.then-in_keys-head.either))

pub returns-clause-told : goal.returns-clause-told
returns-clause-told c = λ keys values in_keys in_values.
    let none = c.in_ok-head.ensures.told in
    let is = c.in_ok-head.ensures.head in
    all_good none is keys values (sym (log_is c.args.file.now (head_exact none is) c.in_ok-head.head is) ∙ sym c.is_log.ensures ∙ ap not c.if-not-is_log.false)
    (omega arith)
