-- The list with a window filled: what the step of the window makes of the list, and the summary after it. Rests on Changed.
use Prim.Native.Nat.{ℕ, ◌≤◌}
use mathlib.Core.Path.{◌≡◌, refl}
use mathlib.Core.List.{List}
use native.Mathlib.Omega.{arith}
use lib.ListN.{length}
use Rattle.keys.specs.Key.{slot_limit}
use Rattle.definitions.specs.List.{list_of_picture}
use Rattle.definitions.specs.Read.{room, records_of}
use Rattle.definitions.specs.Edit.{fill_window}
use Rattle.definitions.specs.Area.{summary_of}
use Rattle.definitions.specs.declared.Window.{Window}
use Rattle.definitions.specs.Calls.PaintWindow.{filled_picture, filled}
use Rattle.list.specs.Own.{OwnList, shown_by}
use Rattle.replace.specs.Putting.{Replaced}
use Rattle.deeds.specs.Step.{step_over}
use Rattle.deeds.specs.Deed.{window_step, Painting}
use Rattle.apply_deed.specs.Change.{Changeable, Changed}
use Rattle.apply_deed.specs.Recount.{StepOutdated}
use Rattle.apply_deed.proofs.Recounted.{step_outdated}
use Rattle.window_paint.specs.PaintWindowCall.{Fillable}
use Rattle.edit.proofs.Changed.{new_own, new_shows, new_summary}

-- the step of a window fills it
pub step_fills : (m : ℕ) (keys bits : List ℕ) (n : ℕ) (w : Window) (f : ℕ) → list_of_picture m (step_over (window_step w f) (shown_by m keys bits n)) ≡ filled m (records_of keys bits n) w f
unfolding step_over fill_window filled
step_fills m keys bits n w f = refl

pub can_paint : {m : ℕ} {keys bits : List ℕ} {n : ℕ} {w : Window} {f : ℕ} → Fillable m keys bits n w f → Painting w f
can_paint a = record { low = a.list.low; narrow = a.list.narrow; slot = let h = a.slot in omega arith }

module _ (m : ℕ) (keys bits : List ℕ) (n : ℕ) (w : Window) (f : ℕ) where
  pub can_change : Fillable m keys bits n w f → length (filled m (records_of keys bits n) w f) ≤ room keys bits → Changeable (window_step w f) m keys bits n
  can_change a h = record { deep = a.list.deep; own = a.list.own; fits = rw (step_fills m keys bits n w f) h }

  pub change_fills : {keys' bits' : List ℕ} {after : ℕ} → Changed (window_step w f) m n keys bits keys' bits' after
      → Replaced n (filled m (records_of keys bits n) w f) keys bits keys' bits' after
  unfolding step_over fill_window filled
  change_fills c = record { length-is = c.length-is; keys_are = c.keys_are; values_are = c.bits_are }

-- the filled list is a list
pub window_own : {m n : ℕ} {w : Window} {f : ℕ} {keys bits keys' bits' : List ℕ} {after : ℕ} → Fillable m keys bits n w f
    → Replaced n (filled m (records_of keys bits n) w f) keys bits keys' bits' after → OwnList m keys' bits' after
unfolding filled
window_own {m} {n} {w} {f} {keys} {bits} a made = new_own m (filled_picture m (records_of keys bits n) w f) made

-- the summary from before is right where the step touches nothing
module _ (s : ℕ) {m n : ℕ} {w : Window} {f : ℕ} {keys bits keys' bits' : List ℕ} {after : ℕ} (a : Fillable m keys bits n w f)
    (made : Replaced n (filled m (records_of keys bits n) w f) keys bits keys' bits' after) where
  pub window_outdated : (summary : List ℕ) → s ≤ slot_limit → summary ≡ summary_of m s (shown_by m keys bits n) → StepOutdated (window_step w f) m s keys' bits' after summary
  unfolding step_over fill_window filled
  window_outdated summary few counts =
      step_outdated {t = window_step w f} (shown_by m keys bits n) a.list.deep few (new_own m (filled_picture m (records_of keys bits n) w f) made)
      (new_shows m (filled_picture m (records_of keys bits n) w f) made) counts

  -- and counted anew it is that of the filled picture
  pub window_counted : (summary' : List ℕ) → summary' ≡ summary_of m s (shown_by m keys' bits' after) → summary' ≡ summary_of m s (filled_picture m (records_of keys bits n) w f)
  unfolding filled
  window_counted summary' e = new_summary m (filled_picture m (records_of keys bits n) w f) made s summary' e
