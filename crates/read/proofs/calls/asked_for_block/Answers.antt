-- `calls::asked_for_block`: past the first two rows of the table the key decides. Rests on FirstRefusal.
use Rattle.std.proofs.Common.{refl, sym, ◌∙◌, ap, not}
use Rattle.std.proofs.lemmas.Result.{err_from_is_err_and}
use Rattle.definitions.specs.Calls.Standing.{standing_refusal}
use Rattle.definitions.proofs.Refused.{refusal_some}
use Rattle.laws.proofs.First.{this, holds_first, none_first}
use Rattle.list.proofs.FirstRefusal.{refused_first, passed_first}
use Rattle.read.proofs.calls.asked_for_block.Goals as goal

pub returns-in_err-list-clause-told : goal.returns-in_err-list-clause-told
unfolding standing_refusal
returns-in_err-list-clause-told c =
    let p = err_from_is_err_and c.from_residual.result c.from_residual.ensures.1 in
    rw (p.1, p.2) (refused_first _ _ _ _ _ _ _ c.in_err-list.ensures.told (refusal_some _))

pub returns-then-is_valid-clause-told : goal.returns-then-is_valid-clause-told
unfolding standing_refusal
returns-then-is_valid-clause-told c =
    sym (passed_first _ _ _ _ _ _ _ c.in_ok-list.ensures.told refl ∙ none_first _ (ap not (sym c.is_valid.ensures ∙ c.if-is_valid.true), tt))

pub returns-else-is_valid-clause-told : goal.returns-else-is_valid-clause-told
unfolding standing_refusal
returns-else-is_valid-clause-told c =
    sym (passed_first _ _ _ _ _ _ _ c.in_ok-list.ensures.told refl ∙ holds_first (this (ap not (sym c.is_valid.ensures ∙ c.if-is_valid.false)) refl))
