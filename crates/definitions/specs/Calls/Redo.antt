-- Redo: the next step that was taken back is in force again: the blocks of its entries are painted with their features, the first first, the summary
-- follows, and the log stays.
-- Refusals 1, 4, 18, 5, 20, 9. Rests on Calls/Edit.
use Rattle.std.specs.Prelude.{ℕ, ◌+◌, List, [], ◌∷◌, length, eqb}
use Rattle.definitions.specs.Picture.{Picture}
use Rattle.definitions.specs.List.{Record, list_of_picture}
use Rattle.definitions.specs.Read.{records_of, picture_of}
use Rattle.definitions.specs.Log.{step_count, step_entries, first_step, paint_again, to_redo}
use Rattle.definitions.specs.Refusal.{◌gives◌}
use Rattle.definitions.specs.Calls.Edit.{Edit, as_lent, Edits}
use Rattle.definitions.specs.declared.Edited.{Edited}

-- the picture after the first of the steps to redo is painted again
abbrev pub redone_picture : (m : ℕ) (l steps : List Record) → Picture
redone_picture m l steps = paint_again (step_count (first_step steps)) m (step_entries (first_step steps)) (picture_of m l)

-- its list
unfoldable pub redone : (m : ℕ) (l steps : List Record) → List Record
redone m l steps = list_of_picture m (redone_picture m l steps)

module _ (m s : ℕ) (keys bits : List ℕ) (n : ℕ) (summary log_keys log_values : List ℕ) (used in_force : ℕ) where
  -- the log stays, and with the next step so many records are in force
  abbrev pub redo : Edit
  redo =
      record {
        lent = as_lent m s keys bits n summary log_keys log_values used in_force;
        rows = eqb in_force used gives 20 ∷ [];
        picture = redone_picture m (records_of keys bits n) (to_redo log_keys log_values used in_force);
        log_keys = log_keys;
        log_values = log_values;
        used = used;
        in_force = in_force + length (first_step (to_redo log_keys log_values used in_force));
      }

  -- the answer of a redo, and what it leaves in the five lent slices
  abbrev pub Redone : (r : Edited) (keys' bits' summary' log_keys' log_values' : List ℕ) → Type 0
  Redone = Edits redo
