-- What closes a group in the log's two slices. Only contracts need it. Rests on Log of the definitions.
use Rattle.std.specs.Prelude.{ℕ, List, [], ◌∷◌}
use Rattle.keys.specs.Key.{root_key}
use Rattle.definitions.specs.List.{Record, record_of}
use Rattle.definitions.specs.Log.{group_mark}

-- the two records behind the entries of a group: the number of them, and the mark that no feature has
abbrev pub group_closing : (number : ℕ) → List Record
group_closing number = record_of root_key number ∷ record_of root_key group_mark ∷ []
