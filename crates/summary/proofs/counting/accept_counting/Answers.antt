-- The tests are the first two rows of the tables, in the same order.
use mathlib.Core.Path.{sym, ap, ◌∙◌}
use mathlib.Core.Bool.{not}
use Rattle.list.proofs.Own.{own_list}
use Rattle.list.proofs.Tests.{good_settings}
use Rattle.list.proofs.FirstRefusal.{first_settings, first_no_list, first_good}
use Rattle.summary.proofs.counting.accept_counting.Goals as goal

pub returns-then-are_bad-clause-told : goal.returns-then-are_bad-clause-told
returns-then-are_bad-clause-told c = sym (first_settings _ _ _ _ _ (sym c.are_bad.ensures ∙ c.if-are_bad.true))

pub check_list-requires-clause-m_bound : goal.check_list-requires-clause-m_bound
check_list-requires-clause-m_bound c = let g = good_settings _ _ (sym c.are_bad.ensures ∙ c.if-are_bad.false) in (g.deep, g.few)

pub returns-then-not-check_list-clause-told : goal.returns-then-not-check_list-clause-told
returns-then-not-check_list-clause-told c =
    sym (first_no_list _ _ _ _ _ (sym c.are_bad.ensures ∙ c.if-are_bad.false) (ap not (sym c.check_list.ensures.checked ∙ c.if-not-check_list.true)))

pub taken-requires : goal.taken-requires
taken-requires c =
    let g = good_settings _ _ (sym c.are_bad.ensures ∙ c.if-are_bad.false) in
    (g.deep, own_list _ _ _ _ _ (sym c.check_list.ensures.checked ∙ c.if-not-check_list.false))

pub returns-clause-told : goal.returns-clause-told
returns-clause-told c =
    sym (first_good _ _ _ _ _ (sym c.are_bad.ensures ∙ c.if-are_bad.false) (ap not (sym c.check_list.ensures.checked ∙ c.if-not-check_list.false)))
