-- Paint: every pixel of one block gets a feature, the summary follows, the entries that could be redone are dropped, and the log gains an entry.
-- Refusals 1, 4, 18, 5, 8, 7, 10, 9. Rests on Calls/Edit.
use Rattle.std.specs.Prelude.{ℕ, ◌+◌, ◌-◌, List, [], ◌∷◌, ◌++◌, length, replicate, ltb}
use Rattle.definitions.specs.Picture.{Picture}
use Rattle.definitions.specs.List.{Record, list_of_picture, keys_of, values_of}
use Rattle.definitions.specs.Read.{room, records_of, picture_of}
use Rattle.definitions.specs.Buffer.{over_at}
use Rattle.definitions.specs.Edit.{paint_in}
use Rattle.definitions.specs.Log.{entry_of}
use Rattle.definitions.specs.Refusal.{◌gives◌, bad_key, bad_feature}
use Rattle.definitions.specs.Calls.Edit.{Edit, as_lent, Edits}
use Rattle.definitions.specs.declared.Edited.{Edited}

-- the picture after painting block κ with f
abbrev pub painted_picture : (m : ℕ) (l : List Record) (κ f : ℕ) → Picture
painted_picture m l κ f = paint_in m κ f (picture_of m l)

-- its list
unfoldable pub painted : (m : ℕ) (l : List Record) (κ f : ℕ) → List Record
painted m l κ f = list_of_picture m (painted_picture m l κ f)

-- the entry that the log gains
unfoldable pub gained : (m : ℕ) (l : List Record) (κ f : ℕ) → List Record
gained m l κ f = entry_of m (picture_of m l) κ f

-- a slice of the log with the entry's numbers from the place in force on: what was used past them becomes zero, all other places stay
abbrev pub logged : (used in_force : ℕ) (entry slice : List ℕ) → List ℕ
logged used in_force entry slice = over_at in_force (entry ++ replicate (used - (in_force + length entry)) 0) slice

module _ (m s : ℕ) (keys bits : List ℕ) (n : ℕ) (summary log_keys log_values : List ℕ) (used in_force κ f : ℕ) where
  -- the entry that the log gains
  abbrev entry : List Record
  entry = gained m (records_of keys bits n) κ f

  -- the entry stands in the log from the place in force on
  abbrev pub paint : Edit
  paint =
      record {
        lent = as_lent m s keys bits n summary log_keys log_values used in_force;
        rows =
            bad_key m κ gives 8
            ∷ bad_feature s f gives 7
            ∷ ltb (room log_keys log_values) (in_force + length entry) gives 10
            ∷ [];
        picture = painted_picture m (records_of keys bits n) κ f;
        log_keys = logged used in_force (keys_of entry) log_keys;
        log_values = logged used in_force (values_of entry) log_values;
        used = in_force + length entry;
        in_force = in_force + length entry;
      }

  -- the answer of a paint, and what it leaves in the five lent slices
  abbrev pub Painted : (r : Edited) (keys' bits' summary' log_keys' log_values' : List ℕ) → Type 0
  Painted = Edits paint
