-- A clipped call answers as the strict call does on a window of the raster, and for an m above 10 any window gives the same: the refusal is 1. Rests on
-- First and Overlap.
use Prim.Native.Nat.{ℕ, ◌≤◌, ◌<◌}
use mathlib.Core.Path.{◌≡◌, ap}
use mathlib.Core.Bool.{true}
use mathlib.Core.List.{List}
use lib.IntN.{pos}
use borrow.Author.Tests.{lt-ltb}
use Rattle.keys.proofs.Cases.{split, or_left}
use Rattle.definitions.specs.Refusal.{bad_settings}
use Rattle.definitions.specs.Calls.Exist.{exist_refusal, exist}
use Rattle.definitions.specs.Calls.Report.{report_refusal, report}
use Rattle.definitions.specs.Calls.Select.{select_refusal, select, select_answer}
use Rattle.definitions.specs.Calls.Area.{area_refusal, area}
use Rattle.definitions.specs.Calls.Clipped.{exist_clipped, report_clipped, select_clipped, select_answer_clipped, area_clipped}
use Rattle.definitions.specs.Window.{is_window}
use Rattle.definitions.specs.declared.Window.{Window}
use Rattle.laws.proofs.First.{first_this}
use Rattle.laws.proofs.Overlap.{own_clipped}

-- an m above 10 is refused by 1
deep : (m s : ℕ) → 10 < m → bad_settings m s ≡ true
unfolding bad_settings
deep m s h = or_left _ _ (lt-ltb 10 m h)

module _ (m s : ℕ) (keys bits : List ℕ) (n : ℕ) where
  exist_one : (w : Window) (f : ℕ) → 10 < m → exist_refusal m s keys bits n w f ≡ 1
  unfolding exist_refusal
  exist_one w f h = first_this _ _ (deep m s h)

  report_one : (w : Window) → 10 < m → report_refusal m s keys bits n w ≡ 1
  unfolding report_refusal
  report_one w h = first_this _ _ (deep m s h)

  select_one : (w : Window) (f : ℕ) (answer : List ℕ) → 10 < m → select_refusal m s keys bits n w f answer ≡ 1
  unfolding select_refusal
  select_one w f answer h = first_this _ _ (deep m s h)

  area_one : (summary : List ℕ) (w : Window) (f : ℕ) → 10 < m → area_refusal m s keys bits n summary w f ≡ 1
  unfolding area_refusal
  area_one summary w f h = first_this _ _ (deep m s h)

  -- windows that agree for an m up to 10 give the same answers
  pub exist_same : {w v : Window} (f : ℕ) → (m ≤ 10 → w ≡ v) → exist m s keys bits n w f ≡ exist m s keys bits n v f
  unfolding exist
  exist_same {w} {v} f same =
      split 10 m (λ h. rw (exist_one w f h, exist_one v f h)) (λ h. ap (λ x. exist m s keys bits n x f) (same h))

  pub report_same : {w v : Window} → (m ≤ 10 → w ≡ v) → report m s keys bits n w ≡ report m s keys bits n v
  unfolding report
  report_same {w} {v} same = split 10 m (λ h. rw (report_one w h, report_one v h)) (λ h. ap (report m s keys bits n) (same h))

  pub select_same : {w v : Window} (f : ℕ) (answer : List ℕ) → (m ≤ 10 → w ≡ v)
      → select m s keys bits n w f answer ≡ select m s keys bits n v f answer
  unfolding select
  select_same {w} {v} f answer same =
      split 10 m (λ h. rw (select_one w f answer h, select_one v f answer h)) (λ h. ap (λ x. select m s keys bits n x f answer) (same h))

  pub answer_same : {w v : Window} (f : ℕ) (answer : List ℕ) → (m ≤ 10 → w ≡ v)
      → select_answer m s keys bits n w f answer ≡ select_answer m s keys bits n v f answer
  unfolding select_answer
  answer_same {w} {v} f answer same =
      split 10 m (λ h. rw (select_one w f answer h, select_one v f answer h)) (λ h. ap (λ x. select_answer m s keys bits n x f answer) (same h))

  pub area_same : (summary : List ℕ) {w v : Window} (f : ℕ) → (m ≤ 10 → w ≡ v)
      → area m s keys bits n summary w f ≡ area m s keys bits n summary v f
  unfolding area
  area_same summary {w} {v} f same =
      split 10 m (λ h. rw (area_one summary w f h, area_one summary v f h)) (λ h. ap (λ x. area m s keys bits n summary x f) (same h))

module _ (m s : ℕ) (keys bits : List ℕ) (n : ℕ) (w : Window) (lies : is_window m w ≡ true) where
  -- the answers for a window of the raster are the strict ones
  pub exist_own : (f : ℕ)
      → exist_clipped m s keys bits n (pos w.row) (pos w.column) w.height w.width f ≡ exist m s keys bits n w f
  exist_own f = ap (λ x. exist m s keys bits n x f) (own_clipped m w lies)

  pub report_own : report_clipped m s keys bits n (pos w.row) (pos w.column) w.height w.width ≡ report m s keys bits n w
  report_own = ap (report m s keys bits n) (own_clipped m w lies)

  pub select_own : (f : ℕ) (answer : List ℕ)
      → select_clipped m s keys bits n (pos w.row) (pos w.column) w.height w.width f answer ≡ select m s keys bits n w f answer
  select_own f answer = ap (λ x. select m s keys bits n x f answer) (own_clipped m w lies)

  pub answer_own : (f : ℕ) (answer : List ℕ)
      → select_answer_clipped m s keys bits n (pos w.row) (pos w.column) w.height w.width f answer ≡ select_answer m s keys bits n w f answer
  answer_own f answer = ap (λ x. select_answer m s keys bits n x f answer) (own_clipped m w lies)

  pub area_own : (summary : List ℕ) (f : ℕ)
      → area_clipped m s keys bits n summary (pos w.row) (pos w.column) w.height w.width f ≡ area m s keys bits n summary w f
  area_own summary f = ap (λ x. area m s keys bits n summary x f) (own_clipped m w lies)
