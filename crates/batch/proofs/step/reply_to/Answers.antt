-- Each way out is a case of what the question asks.
use mathlib.Core.Path.{◌≡◌, sym, ap, subst, ◌∙◌}
use mathlib.Core.Bool.{true, cond}
use borrow.Author.Rules.{rules}
use native.Mathlib.Omega.{arith}
use Rattle.definitions.specs.Window.{is_window, exist_in, report_in}
use Rattle.list.proofs.Own.{own_list}
use Rattle.list.proofs.Taken.{taken_picture}
use Rattle.list.proofs.Tests.{good_settings}
use Rattle.batch.proofs.Replies.{reply_six, reply_report, reply_seven, reply_exist}
use Rattle.batch.proofs.step.reply_to.Goals as goal

pub taken-list-requires : goal.taken-list-requires
taken-list-requires c = ((good_settings _ _ c.requires.settings).deep, own_list _ _ _ _ _ c.requires.list)

pub window_of-window-requires : goal.window_of-window-requires
window_of-window-requires c = (good_settings _ _ c.requires.settings).deep

pub is_window-requires : goal.is_window-requires
is_window-requires c = (good_settings _ _ c.requires.settings).deep

pub returns-then-not-is_window : goal.returns-then-not-is_window
returns-then-not-is_window c = reply_six _ _ _ _ _ _ _ c.requires c.window_of-window.ensures (sym c.is_window.ensures ∙ c.if-not-is_window.true)

pub report_in-requires : goal.report_in-requires
report_in-requires c =
    subst (λ k. is_window k c.window_of-window.result ≡ true) (sym c.taken-list.ensures.map) (sym c.is_window.ensures ∙ c.if-not-is_window.false)

pub returns-then-reports : goal.returns-then-reports
returns-then-reports c =
    reply_report _ _ _ _ _ _ _ c.requires c.window_of-window.ensures (sym c.is_window.ensures ∙ c.if-not-is_window.false) c.if-reports.true _
    (c.report_in.ensures ∙ ap (λ p. report_in p c.window_of-window.result) (taken_picture c.taken-list.ensures))

pub returns-then-s-feature : goal.returns-then-s-feature
returns-then-s-feature c =
    reply_seven _ _ _ _ _ _ _ c.requires c.window_of-window.ensures (sym c.is_window.ensures ∙ c.if-not-is_window.false) c.if-reports.false c.if-s-feature.true

pub exist_in-requires : goal.exist_in-requires
exist_in-requires c =
    let few = (good_settings _ _ c.requires.settings).few in
    (subst (λ k. is_window k c.window_of-window.result ≡ true) (sym c.taken-list.ensures.map) (sym c.is_window.ensures ∙ c.if-not-is_window.false), omega (arith, c.if-s-feature.false))

pub returns : goal.returns
returns c =
    let byte : c.from.result ≡ cond c.exist_in.result 1 0 = c.from.ensures ∙ search rules in
    ap (λ v. record { refusal = 0; value = v }) byte
    ∙ reply_exist _ _ _ _ _ _ _ c.requires c.window_of-window.ensures (sym c.is_window.ensures ∙ c.if-not-is_window.false) c.if-reports.false c.if-s-feature.false _
    (c.exist_in.ensures ∙ ap (λ p. exist_in p c.window_of-window.result c.args.question.feature) (taken_picture c.taken-list.ensures))
