-- Take back: the last step in force, a single entry or a group, is taken back: the contents of its entries go into their blocks, the last first, the
-- summary follows, and the step is no longer in force. The log stays, so that it can be redone. Refusals 1, 4, 18, 5, 11, 9. Rests on
-- Calls/Edit.
use Rattle.std.specs.Prelude.{ℕ, List, [], ◌∷◌, length, eqb}
use Rattle.definitions.specs.Picture.{Picture}
use Rattle.definitions.specs.List.{Record, list_of_picture}
use Rattle.definitions.specs.Read.{records_of, picture_of}
use Rattle.definitions.specs.Log.{step_count, step_entries, before_step, put_back}
use Rattle.definitions.specs.Refusal.{◌gives◌}
use Rattle.definitions.specs.Calls.Edit.{Edit, as_lent, Edits}
use Rattle.definitions.specs.declared.Edited.{Edited}

-- the picture after the last step is taken back
abbrev pub restored_picture : (m : ℕ) (l log : List Record) → Picture
restored_picture m l log = put_back (step_count log) m (step_entries log) (picture_of m l)

-- its list
unfoldable pub restored : (m : ℕ) (l log : List Record) → List Record
restored m l log = list_of_picture m (restored_picture m l log)

module _ (m s : ℕ) (keys bits : List ℕ) (n : ℕ) (summary log_keys log_values : List ℕ) (used in_force : ℕ) where
  -- the log stays, and without the last step so many records are in force
  abbrev pub take_back : Edit
  take_back =
      record {
        lent = as_lent m s keys bits n summary log_keys log_values used in_force;
        rows = eqb in_force 0 gives 11 ∷ [];
        picture = restored_picture m (records_of keys bits n) (records_of log_keys log_values in_force);
        log_keys = log_keys;
        log_values = log_values;
        used = used;
        in_force = length (before_step (records_of log_keys log_values in_force));
      }

  -- the answer of a taking back, and what it leaves in the five lent slices
  abbrev pub TakenBack : (r : Edited) (keys' bits' summary' log_keys' log_values' : List ℕ) → Type 0
  TakenBack = Edits take_back
