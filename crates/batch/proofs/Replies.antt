-- What one question is answered on an accepted list, by its window, what it asks and its feature. Rests on window's Tables and Answers, and on
-- laws' OneByOne.
use Prim.Native.Nat.{ℕ, ◌≤◌, ◌<◌}
use mathlib.Core.Path.{◌≡◌, refl, sym, ap, ◌∙◌}
use mathlib.Core.Bool.{Bool, true, false, not, cond}
use mathlib.Core.List.{List}
use native.Mathlib.Omega.{arith}
use Rattle.keys.proofs.Cases.{equal}
use Rattle.definitions.specs.Window.{is_window, exist_in, report_in}
use Rattle.definitions.specs.Clip.{clipped_window}
use Rattle.definitions.specs.Calls.Report.{report_refusal, report}
use Rattle.definitions.specs.Calls.Exist.{exist}
use Rattle.definitions.specs.Calls.Batch.{refusal_to, value_to}
use Rattle.definitions.specs.declared.Window.{Window}
use Rattle.definitions.specs.declared.Exists.{Exists}
use Rattle.definitions.specs.declared.Reported.{Reported}
use Rattle.definitions.specs.declared.Question.{Question}
use Rattle.laws.proofs.First.{this, later, none_first, holds_first}
use Rattle.laws.proofs.OneByOne.{asks_exist, asks_report}
use Rattle.list.specs.Own.{shown_by}
use Rattle.window.proofs.Tables.{exist_goes_on, exist_feature, exist_none}
use Rattle.window.proofs.Answers.{report_refused, report_found, exist_refused, exist_yes, exist_no}
use Rattle.batch.specs.Run.{ReplyNumbers, AcceptedMap, reply_of}

module _ (m s : ℕ) (keys bits : List ℕ) (n : ℕ) (q : Question) (w : Window) (list : AcceptedMap m s keys bits n)
    (is : w ≡ clipped_window m q.row q.column q.height q.width) where
  -- past 1 and 4 the window decides
  window_six : is_window m w ≡ false → report_refusal m s keys bits n w ≡ 6
  unfolding report_refusal
  window_six bad = holds_first (later list.settings (later (ap not list.list) (this (ap not bad) refl)))

  window_fine : is_window m w ≡ true → report_refusal m s keys bits n w ≡ 0
  unfolding report_refusal
  window_fine lies = none_first _ (list.settings, (ap not list.list, (ap not lies, tt)))

  replies : {a b : ℕ} → refusal_to m s keys bits n q ≡ a → value_to m s keys bits n q ≡ b → ◌≡◌ {A = ReplyNumbers} (record { refusal = a; value = b }) (reply_of m s keys bits n q)
  replies e f i = record { refusal = sym e i; value = sym f i }

  -- the single call's answer is the question's
  of_exist : q.report ≡ 0 → (x : Exists) → x ≡ exist m s keys bits n w q.feature → record { refusal = x.refusal; value = x.yes } ≡ reply_of m s keys bits n q
  of_exist h x e =
      let whole = e ∙ ap (λ v. exist m s keys bits n v q.feature) is in
      let asked = asks_exist m s keys bits n q h in
      replies (asked.0 ∙ sym (ap (λ r. r.refusal) whole)) (asked.1 ∙ sym (ap (λ r. r.yes) whole))

  of_report : (q.report ≡ 0 → ⊥) → (x : Reported) → x ≡ report m s keys bits n w → record { refusal = x.refusal; value = x.bits } ≡ reply_of m s keys bits n q
  of_report h x e =
      let whole = e ∙ ap (report m s keys bits n) is in
      let asked = asks_report m s keys bits n q h in
      replies (asked.0 ∙ sym (ap (λ r. r.refusal) whole)) (asked.1 ∙ sym (ap (λ r. r.bits) whole))

  pub reply_six : is_window m w ≡ false → record { refusal = 6; value = 0 } ≡ reply_of m s keys bits n q
  reply_six bad =
      let six = sym (window_six bad) in
      let some : ◌≡◌ {A = ℕ} 6 0 → ⊥ = λ z. omega arith in
      equal q.report 0
      (λ h. of_exist h _ (exist_refused m s keys bits n w q.feature 6 (exist_goes_on m s keys bits n w q.feature 6 six some) some))
      (λ h. of_report h _ (report_refused m s keys bits n w 6 six some))

  pub reply_report : is_window m w ≡ true → (q.report ≡ 0 → ⊥) → (union : ℕ) → union ≡ report_in (shown_by m keys bits n) w
      → record { refusal = 0; value = union } ≡ reply_of m s keys bits n q
  reply_report lies h union e = of_report h _ (report_found m s keys bits n w union (window_fine lies) e)

  pub reply_seven : is_window m w ≡ true → q.report ≡ 0 → s ≤ q.feature → record { refusal = 7; value = 0 } ≡ reply_of m s keys bits n q
  reply_seven lies h high = of_exist h _ (exist_refused m s keys bits n w q.feature 7 (exist_feature m s keys bits n w q.feature (window_fine lies) high) (λ z. omega arith))

  pub reply_yes : is_window m w ≡ true → q.report ≡ 0 → q.feature < s → exist_in (shown_by m keys bits n) w q.feature ≡ true
      → record { refusal = 0; value = 1 } ≡ reply_of m s keys bits n q
  reply_yes lies h low e = of_exist h _ (exist_yes m s keys bits n w q.feature (sym (exist_none m s keys bits n w q.feature (window_fine lies) low)) e)

  pub reply_no : is_window m w ≡ true → q.report ≡ 0 → q.feature < s → exist_in (shown_by m keys bits n) w q.feature ≡ false
      → record { refusal = 0; value = 0 } ≡ reply_of m s keys bits n q
  reply_no lies h low e = of_exist h _ (exist_no m s keys bits n w q.feature (sym (exist_none m s keys bits n w q.feature (window_fine lies) low)) e)

  -- what exist answers
  pub reply_exist : is_window m w ≡ true → q.report ≡ 0 → q.feature < s → (b : Bool) → b ≡ exist_in (shown_by m keys bits n) w q.feature
      → record { refusal = 0; value = cond b 1 0 } ≡ reply_of m s keys bits n q
  reply_exist lies h low true e = reply_yes lies h low (sym e)
  reply_exist lies h low false e = reply_no lies h low (sym e)
