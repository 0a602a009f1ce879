-- What the functions of painting a window ask and leave: the table's last two rows, and what an accepted call may rely on. Only
-- contracts need these. Rests on PaintWindow of the definitions.
use Rattle.std.specs.Prelude.{ℕ, ◌+◌, ◌<◌, List, [], ◌∷◌, length, ltb}
use Rattle.keys.specs.Key.{slot_limit}
use Rattle.definitions.specs.List.{Record}
use Rattle.definitions.specs.declared.Window.{Window}
use Rattle.definitions.specs.Refusal.{◌gives◌, first}
use Rattle.definitions.specs.Calls.PaintWindow.{filled, group_gained}
use Rattle.window_paint.specs.WindowLogging.{Coverable}
use Rattle.list.specs.declared.accepted_list.Accepted.{Accepted}

-- an accepted list, a window of the map, and a feature that its pixels may get
pub record Fillable (m : ℕ) (keys bits : List ℕ) (n : ℕ) (w : Window) (f : ℕ) : Type 0 where
  pub list : Coverable m keys bits n w
  pub slot : f < slot_limit

-- the same of a list as the code has it
abbrev pub PaintingOf : Accepted → (w : Window) (f : ℕ) → Type 0
PaintingOf list w f = Fillable list.m list.keys.now list.bits.now (length list.keys.now) w f

-- 10, 9
unfoldable pub window_room_refusal : (m : ℕ) (l : List Record) (list_room log_room in_force : ℕ) (w : Window) (f : ℕ) → ℕ
window_room_refusal m l list_room log_room in_force w f =
    first
    (ltb log_room (in_force + length (group_gained m l w f)) gives 10
    ∷ ltb list_room (length (filled m l w f)) gives 9
    ∷ [])
