-- The answer to a paint in a history, of a block or of a window: refusals 1, 4, 18 and 5 do not come, and the others are told by the picture now. Rests on
-- Invariant and PaintStep.
use Prim.Native.Nat.{ℕ, ◌+◌}
use mathlib.Core.Path.{◌≡◌, refl, sym, ◌∙◌}
use mathlib.Core.Bool.{Bool, false}
use mathlib.Core.List.{List, [], ◌∷◌}
use native.Mathlib.Omega.{arith}
use lib.ListN.{length}
use lib.Dec.{ltb}
use borrow.Author.Tests.{leb-false, not-false}
use Rattle.keys.proofs.Cases.{decide}
use Rattle.definitions.specs.Picture.{Picture}
use Rattle.definitions.specs.List.{Record, list_of_picture}
use Rattle.definitions.specs.Read.{room}
use Rattle.definitions.specs.Window.{bad_window}
use Rattle.definitions.specs.declared.Window.{Window}
use Rattle.definitions.specs.Refusal.{Row, ◌gives◌, first, bad_key, bad_feature}
use Rattle.definitions.specs.Calls.Paint.{gained}
use Rattle.definitions.specs.Calls.PaintWindow.{group_gained}
use Rattle.laws.proofs.First.{first_this, first_later}
use Rattle.laws.proofs.Edits.{SheetPassed, rest_decides}
use Rattle.history.specs.History.{Buffers, Paint, of_block, of_window, Kept, painting, applied, logged_by, answer}
use Rattle.history.specs.Claim.{paint_answer, paint_window_answer}
use Rattle.history.proofs.Fit.{Fit, block_fit, window_fit}
use Rattle.history.proofs.Slices.{list-room}
use Rattle.history.proofs.PaintStep.{list_after, step_in, edit_of_paint, list_now, step_now}
use Rattle.history.proofs.Invariant.{now, Invariant}
use Rattle.history.proofs.EditStep.{lent_by, now_sheet}

-- the rows of room
abbrev rooms : ℕ → ℕ → ℕ → List Record → List Record → List Row
rooms room_of_list room_of_log in_force step l = ltb room_of_log (in_force + length step) gives 10 ∷ ltb room_of_list (length l) gives 9 ∷ []

-- a row that tells what is wrong with a paint's key or window is told first; where it is not, the later rows decide
by_row : (bad : Bool) (number : ℕ) (rest rest' : List Row) → (bad ≡ false → first rest ≡ first rest') → first (bad gives number ∷ rest) ≡ first (bad gives number ∷ rest')
by_row bad number rest rest' same =
    decide bad
    (λ e. first_this (bad gives number) rest e ∙ sym (first_this (bad gives number) rest' e))
    (λ e. first_later (bad gives number) rest e ∙ same e ∙ sym (first_later (bad gives number) rest' e))

module _ (m s : ℕ) (b : Buffers) (p : SheetPassed (lent_by m s b)) where
  -- where the rows about the buffers do not hold, the others decide
  block_past_sheet : (κ f : ℕ) → answer m s b (painting (of_block κ f))
      ≡ first (bad_key m κ gives 8 ∷ bad_feature s f gives 7
      ∷ rooms (room b.keys b.bits) (room b.log_keys b.log_values) b.in_force (step_in m b (of_block κ f)) (list_after m b (of_block κ f)))
  unfolding answer gained applied logged_by
  block_past_sheet κ f = sym (rest_decides (edit_of_paint m s b (bad_key m κ gives 8) f (of_block κ f)) p [] _ refl tt)

  window_past_sheet : (w : Window) (f : ℕ) → answer m s b (painting (of_window w f))
      ≡ first (bad_window m w gives 6 ∷ bad_feature s f gives 7
      ∷ rooms (room b.keys b.bits) (room b.log_keys b.log_values) b.in_force (step_in m b (of_window w f)) (list_after m b (of_window w f)))
  unfolding answer group_gained applied logged_by
  window_past_sheet w f = sym (rest_decides (edit_of_paint m s b (bad_window m w gives 6) f (of_window w f)) p [] _ refl tt)

module _ {m s size : ℕ} {p : Picture} {keys bits log_keys log_values : List ℕ} {b : Buffers} {k : Kept} {in_list in_log : ℕ}
    (h : Invariant m s size p keys bits log_keys log_values b k in_list in_log) where
  -- for a fit paint the rows of room are told by the picture now
  rooms_now : (x : Paint) → Fit m s x
      → first (rooms (room b.keys b.bits) (room b.log_keys b.log_values) b.in_force (step_in m b x) (list_after m b x))
      ≡ first (rooms (room keys bits) (room log_keys log_values) b.in_force (logged_by m (now m p k) x) (list_of_picture m (applied m x (now m p k))))
  rooms_now x fit =
      let e = h.log.keys_length in
      let e' = h.log.values_length in
      let in_log : room b.log_keys b.log_values ≡ room log_keys log_values = omega arith in
      rw (list-room h.list, in_log, step_now x h fit, list_now x h)

  -- a paint's answer, by the picture now
  pub paint-answer : (κ f : ℕ)
      → answer m s b (painting (of_block κ f)) ≡ paint_answer m s (now m p k) (room keys bits) (room log_keys log_values) b.in_force κ f
  unfolding paint_answer applied logged_by
  paint-answer κ f =
      block_past_sheet m s b (now_sheet h) κ f
      ∙ by_row (bad_key m κ) 8 _ _
      (λ good. by_row (bad_feature s f) 7 _ _ (λ small. rooms_now (of_block κ f) (block_fit κ f (not-false _ good) (leb-false s f small))))

  -- and that of a window's
  pub window_answer : (w : Window) (f : ℕ)
      → answer m s b (painting (of_window w f)) ≡ paint_window_answer m s (now m p k) (room keys bits) (room log_keys log_values) b.in_force w f
  unfolding paint_window_answer applied logged_by
  window_answer w f =
      window_past_sheet m s b (now_sheet h) w f
      ∙ by_row (bad_window m w) 6 _ _
      (λ good. by_row (bad_feature s f) 7 _ _ (λ small. rooms_now (of_window w f) (window_fit w f (not-false _ good) (leb-false s f small))))
