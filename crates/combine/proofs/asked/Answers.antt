-- `combine::asked`: its tests are those of the rows before 9, in the same order. Rests on CombineRefusal and laws' First.
use Rattle.std.proofs.Common.{not, refl, sym, ap, ◌∙◌}
use Rattle.std.proofs.lemmas.Result.{err_from_is_err_and}
use borrow.Author.Tests.{eq-eqb, ne_eqb}
use Rattle.laws.proofs.First.{this, later, holds_first, none_first}
use Rattle.combine.proofs.CombineRefusal.{three_good, list_told, list_good}
use Rattle.combine.proofs.asked.Goals as goal

pub returns-then-settings_are_bad-clause-told : goal.returns-then-settings_are_bad-clause-told
returns-then-settings_are_bad-clause-told c = sym (holds_first (this (sym c.settings_are_bad.ensures ∙ c.if-settings_are_bad.true) refl))

pub returns-then-m1-m2-clause-told : goal.returns-then-m1-m2-clause-told
returns-then-m1-m2-clause-told c =
    sym (holds_first (later (sym c.settings_are_bad.ensures ∙ c.if-settings_are_bad.false) (this (ap not (ne_eqb _ _ c.if-m1-m2.true)) refl)))

pub returns-in_err-first-clause-told : goal.returns-in_err-first-clause-told
returns-in_err-first-clause-told c =
    let p = err_from_is_err_and c.from_residual.result c.from_residual.ensures.1 in
    let good = sym c.settings_are_bad.ensures ∙ c.if-settings_are_bad.false in
    let s = three_good _ _ _ _ _ good in
    let h = list_told _ _ _ _ _ s.first_sound _ c.in_err-first.ensures.told in
    rw (p.1, p.2, h.0) (sym (holds_first (later good (later (ap not (eq-eqb _ _ c.if-m1-m2.false)) (this h.1 refl)))))

pub returns-in_err-second-clause-told : goal.returns-in_err-second-clause-told
returns-in_err-second-clause-told c =
    let p = err_from_is_err_and c.from_residual-in_err-second.result c.from_residual-in_err-second.ensures.1 in
    let good = sym c.settings_are_bad.ensures ∙ c.if-settings_are_bad.false in
    let s = three_good _ _ _ _ _ good in
    let first = list_good _ _ _ _ _ c.in_ok-first.ensures.told in
    let h = list_told _ _ _ _ _ s.second_sound _ c.in_err-second.ensures.told in
    rw (p.1, p.2, h.0) (sym (holds_first (later good (later (ap not (eq-eqb _ _ c.if-m1-m2.false)) (later first (this h.1 refl))))))

pub is_bad-requires : goal.is_bad-requires
is_bad-requires c =
    let s = three_good _ _ _ _ _ (sym c.settings_are_bad.ensures ∙ c.if-settings_are_bad.false) in
    (s.first_settings.few, s.second_settings.few)

pub returns-then-is_bad-clause-told : goal.returns-then-is_bad-clause-told
returns-then-is_bad-clause-told c =
    let good = sym c.settings_are_bad.ensures ∙ c.if-settings_are_bad.false in
    let first = list_good _ _ _ _ _ c.in_ok-first.ensures.told in
    let second = list_good _ _ _ _ _ c.in_ok-second.ensures.told in
    sym (holds_first (later good (later (ap not (eq-eqb _ _ c.if-m1-m2.false)) (later first (later second (this (sym c.is_bad.ensures ∙ c.if-is_bad.true) refl))))))

pub returns-clause-told : goal.returns-clause-told
returns-clause-told c =
    let good = sym c.settings_are_bad.ensures ∙ c.if-settings_are_bad.false in
    let first = list_good _ _ _ _ _ c.in_ok-first.ensures.told in
    let second = list_good _ _ _ _ _ c.in_ok-second.ensures.told in
    sym (none_first _ (good, (ap not (eq-eqb _ _ c.if-m1-m2.false), (first, (second, (sym c.is_bad.ensures ∙ c.if-is_bad.false, tt))))))
