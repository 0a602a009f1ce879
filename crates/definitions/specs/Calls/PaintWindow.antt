-- Paint a window: every pixel of a window gets a feature as one step, the summary follows, the steps that could be redone are dropped, and the log gains
-- a group: an entry for each of the window's largest blocks, in key order. Refusals 1, 4, 18, 5, 6, 7, 10, 9. Rests on Calls/Edit and
-- Paint.
use Rattle.std.specs.Prelude.{ℕ, ◌+◌, List, [], ◌∷◌, length, ltb}
use Rattle.definitions.specs.Picture.{Picture}
use Rattle.definitions.specs.List.{Record, list_of_picture, keys_of, values_of}
use Rattle.definitions.specs.Read.{room, records_of, picture_of}
use Rattle.definitions.specs.Window.{bad_window}
use Rattle.definitions.specs.Edit.{fill_window}
use Rattle.definitions.specs.Log.{group_of}
use Rattle.definitions.specs.Refusal.{◌gives◌, bad_feature}
use Rattle.definitions.specs.Calls.Edit.{Edit, as_lent, Edits}
use Rattle.definitions.specs.Calls.Paint.{logged}
use Rattle.definitions.specs.declared.Window.{Window}
use Rattle.definitions.specs.declared.Edited.{Edited}

-- the picture after painting window w with f
abbrev pub filled_picture : (m : ℕ) (l : List Record) (w : Window) (f : ℕ) → Picture
filled_picture m l w f = fill_window w f (picture_of m l)

-- its list
unfoldable pub filled : (m : ℕ) (l : List Record) (w : Window) (f : ℕ) → List Record
filled m l w f = list_of_picture m (filled_picture m l w f)

-- the group that the log gains
unfoldable pub group_gained : (m : ℕ) (l : List Record) (w : Window) (f : ℕ) → List Record
group_gained m l w f = group_of m (picture_of m l) w f

module _ (m s : ℕ) (keys bits : List ℕ) (n : ℕ) (summary log_keys log_values : List ℕ) (used in_force : ℕ) (w : Window) (f : ℕ) where
  -- the group that the log gains
  abbrev group : List Record
  group = group_gained m (records_of keys bits n) w f

  -- the group stands in the log from the place in force on
  abbrev pub paint_window : Edit
  paint_window =
      record {
        lent = as_lent m s keys bits n summary log_keys log_values used in_force;
        rows =
            bad_window m w gives 6
            ∷ bad_feature s f gives 7
            ∷ ltb (room log_keys log_values) (in_force + length group) gives 10
            ∷ [];
        picture = filled_picture m (records_of keys bits n) w f;
        log_keys = logged used in_force (keys_of group) log_keys;
        log_values = logged used in_force (values_of group) log_values;
        used = in_force + length group;
        in_force = in_force + length group;
      }

  -- the answer of painting a window, and what it leaves in the five lent slices
  abbrev pub WindowPainted : (r : Edited) (keys' bits' summary' log_keys' log_values' : List ℕ) → Type 0
  WindowPainted = Edits paint_window
