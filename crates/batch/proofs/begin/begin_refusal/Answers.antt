-- 1 and 4 come before 12.
use mathlib.Core.Path.{refl, sym, ap}
use mathlib.Core.Bool.{cond}
use native.Mathlib.Omega.{arith}
use borrow.Author.Tests.{eq-eqb}
use Rattle.std.proofs.lemmas.Result.{err_from_is_err_and}
use Rattle.definitions.proofs.Refused.{refusal_some}
use Rattle.batch.proofs.Beginning.{begin_early, early_needed, begin_twelve, begin_none}
use Rattle.batch.proofs.begin.begin_refusal.Goals as goal

pub returns-in_err-accept-clause-told : goal.returns-in_err-accept-clause-told
returns-in_err-accept-clause-told c =
    let p = err_from_is_err_and c.from_residual.result c.from_residual.ensures.1 in
    rw (p.1, p.2) (begin_early _ _ _ _ _ _ _ _ _ c.in_err-accept.ensures.told (refusal_some _))

pub returns-in_err-accept-clause-needed : goal.returns-in_err-accept-clause-needed
returns-in_err-accept-clause-needed c =
    let p = err_from_is_err_and c.from_residual.result c.from_residual.ensures.1 in
    rw (p.1, p.2) (early_needed _ _ _ _ _ _ _ _ _ c.in_err-accept.ensures.told)

pub returns-then-room-questions-clause-told : goal.returns-then-room-questions-clause-told
returns-then-room-questions-clause-told c = begin_twelve _ _ _ _ _ _ _ _ 0 c.in_ok-accept.ensures.told refl (omega arith)

pub returns-then-room-questions-clause-needed : goal.returns-then-room-questions-clause-needed
returns-then-room-questions-clause-needed c =
    let a = c.args in
    let full = begin_twelve a.m a.s a.keys.now a.bits.now a.n a.questions a.room_refusals a.room_values 0 c.in_ok-accept.ensures.told refl (omega arith) in
    sym (ap (λ b. cond b a.questions 0) (eq-eqb _ 12 (sym full)))

pub returns-clause-told : goal.returns-clause-told
returns-clause-told c = begin_none _ _ _ _ _ _ _ _ 0 c.in_ok-accept.ensures.told refl (omega arith)
