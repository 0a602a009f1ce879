-- The log: the shape of an entry and of a group, when a log is sound, its steps taken back and painted again, and the steps that can be redone
-- (specification S11). Rests on Edit and Read.
use Rattle.std.specs.Prelude.{ℕ, zero, suc, ◌+◌, ◌-◌, ◌≤◌, ◌<◌, ◌≡◌, Bool, true, cond, not, ◌&&◌, List, [], ◌∷◌, ◌++◌, length, get_or, take, drop, leb, ltb, eqb}
use Rattle.keys.specs.Key.{root_key, valid_key, height_of}
use Rattle.keys.specs.Block.{row_of, column_of}
use Rattle.definitions.specs.Picture.{Picture}
use Rattle.definitions.specs.List.{Record, record_of}
use Rattle.definitions.specs.Read.{room, records_of, picture_of, is_list_of_block}
use Rattle.definitions.specs.Window.{largest_blocks}
use Rattle.definitions.specs.declared.Window.{Window}
use Rattle.definitions.specs.Edit.{put, paint_in, content_of}

-- an entry: a block's former content, and then two closing records with its key, one with the number of content records and one with the feature
-- that the block was painted with
unfoldable pub closed : (κ : ℕ) (content : List Record) (f : ℕ) → List Record
closed κ content f = content ++ (record_of κ (length content) ∷ record_of κ f ∷ [])

-- how many places an entry needs beside its content
abbrev pub closing_places : ℕ
closing_places = 2

-- the entry of a paint of block κ with f
unfoldable pub entry_of : (m : ℕ) (p : Picture) (κ f : ℕ) → List Record
entry_of m p κ f = closed κ (content_of m p κ) f

-- the closing records of the last entry
unfoldable pub count_record : (log : List Record) → Record
count_record log = get_or log (length log - 2) (record_of 0 0)

unfoldable pub last_record : (log : List Record) → Record
last_record log = get_or log (length log - 1) (record_of 0 0)

unfoldable pub last_key : (log : List Record) → ℕ
last_key log = (last_record log).key

-- the feature that the last entry's block was painted with
unfoldable pub last_feature : (log : List Record) → ℕ
last_feature log = (last_record log).value

-- the number of records in the last entry's content
unfoldable pub last_count : (log : List Record) → ℕ
last_count log = (count_record log).value

-- the log before its last entry
unfoldable pub before_last : (log : List Record) → List Record
before_last log = take (length log - (last_count log + closing_places)) log

-- the content of the last entry
unfoldable pub last_content : (log : List Record) → List Record
last_content log = take (last_count log) (drop (length log - (last_count log + closing_places)) log)

-- the records are a correct list of the block with key κ at m and s
unfoldable pub is_content : (m s κ : ℕ) (l : List Record) → Bool
is_content m s κ l = is_list_of_block m s (height_of m κ) (row_of m κ) (column_of m κ) κ l

-- the closing records have one key, and a feature below s
unfoldable pub closes : (s : ℕ) (log : List Record) → Bool
closes s log = eqb (count_record log).key (last_key log) && ltb (last_feature log) s

-- the last entry is all there and closed, its key is valid at m, and its content is a correct list of that block
unfoldable pub last_is_entry : (m s : ℕ) (log : List Record) → Bool
last_is_entry m s log =
    leb (last_count log + closing_places) (length log)
    && closes s log
    && valid_key m (last_key log)
    && is_content m s (last_key log) (last_content log)

-- the same, test by test
pub record EndsInEntry (m s : ℕ) (log : List Record) : Type 0 where
  pub all_there : last_count log + closing_places ≤ length log
  pub one_key : (count_record log).key ≡ last_key log
  pub below : last_feature log < s
  pub valid : valid_key m (last_key log) ≡ true
  pub correct : is_content m s (last_key log) (last_content log) ≡ true

-- a group: entries, and then two closing records with the key 0, one with the number of entries and one with the mark 255, which is no feature
abbrev pub group_mark : ℕ
group_mark = 255

unfoldable pub grouped : (entries : List Record) (number : ℕ) → List Record
grouped entries number = entries ++ (record_of root_key number ∷ record_of root_key group_mark ∷ [])

-- the entries of paints of blocks with f, one behind the other
unfoldable pub entries_of : (m : ℕ) (p : Picture) (blocks : List ℕ) (f : ℕ) → List Record
entries_of m p [] f = []
entries_of m p (κ ∷ blocks) f = entry_of m p κ f ++ entries_of m p blocks f

-- the group of a paint of window w with f: an entry for each of its largest blocks
unfoldable pub group_of : (m : ℕ) (p : Picture) (w : Window) (f : ℕ) → List Record
group_of m p w f = grouped (entries_of m p (largest_blocks m w) f) (length (largest_blocks m w))

-- the last record closes a group; any other closes a single entry
unfoldable pub ends_in_mark : (log : List Record) → Bool
ends_in_mark log = eqb (last_key log) root_key && eqb (last_feature log) group_mark

-- the last step is the last group or the last single entry: how many entries it has, and the log up to the end of them
unfoldable pub step_count : (log : List Record) → ℕ
step_count log = cond (ends_in_mark log) (last_count log) 1

unfoldable pub step_entries : (log : List Record) → List Record
step_entries log = cond (ends_in_mark log) (take (length log - closing_places) log) log

-- the log before its last entries, so many as count says
unfoldable pub before_entries : (count : ℕ) (log : List Record) → List Record
before_entries zero log = log
before_entries (suc count) log = before_entries count (before_last log)

-- the log before its last step
unfoldable pub before_step : (log : List Record) → List Record
before_step log = before_entries (step_count log) (step_entries log)

-- the log ends in so many single entries
unfoldable pub ends_in_entries : (count m s : ℕ) (log : List Record) → Bool
ends_in_entries zero m s log = true
ends_in_entries (suc count) m s log = last_is_entry m s log && ends_in_entries count m s (before_last log)

-- the last records are a group: its closing records are there, the number is not 0, and so many single entries stand straight before them
unfoldable pub last_is_group : (m s : ℕ) (log : List Record) → Bool
last_is_group m s log =
    leb closing_places (length log)
    && eqb (count_record log).key root_key
    && ltb 0 (step_count log)
    && ends_in_entries (step_count log) m s (step_entries log)

-- the last records are a step
unfoldable pub last_is_step : (m s : ℕ) (log : List Record) → Bool
last_is_step m s log = cond (ends_in_mark log) (last_is_group m s log) (last_is_entry m s log)

-- the records divide from the end into steps; a step has records, so as many turns as there are records suffice
unfoldable pub divides_in : (turns m s : ℕ) (log : List Record) → Bool
divides_in zero m s log = eqb (length log) 0
divides_in (suc turns) m s log = cond (eqb (length log) 0) true (last_is_step m s log && divides_in turns m s (before_step log))

unfoldable pub is_sound : (m s : ℕ) (log : List Record) → Bool
is_sound m s log = divides_in (length log) m s log

-- the first step: what is left when steps are taken off the end as long as another stands before
unfoldable pub first_in : (turns : ℕ) (log : List Record) → List Record
first_in zero log = log
first_in (suc turns) log = cond (eqb (length (before_step log)) 0) log (first_in turns (before_step log))

unfoldable pub first_step : (log : List Record) → List Record
first_step log = first_in (length log) log

-- so many entries taken back, the last first: each content goes into its block
unfoldable pub put_back : (count m : ℕ) (log : List Record) (p : Picture) → Picture
put_back zero m log p = p
put_back (suc count) m log p = put_back count m (before_last log) (put m (last_key log) (picture_of m (last_content log)) p)

-- so many entries painted again, the first first: each block gets its feature
unfoldable pub paint_again : (count m : ℕ) (log : List Record) (p : Picture) → Picture
paint_again zero m log p = p
paint_again (suc count) m log p = paint_in m (last_key log) (last_feature log) (paint_again count m (before_last log) p)

-- the records that are not in force: their steps were taken back, and can be redone
abbrev pub to_redo : (keys values : List ℕ) (used in_force : ℕ) → List Record
to_redo keys values used in_force = drop in_force (records_of keys values used)

-- 5: the records used are there, those in force are the first of them, and both those and the ones to redo divide into steps, so that the count in
-- force is 0 or the end of a step, never inside a group
unfoldable pub no_log : (m s : ℕ) (keys values : List ℕ) (used in_force : ℕ) → Bool
no_log m s keys values used in_force =
    not (leb used (room keys values)
    && leb in_force used
    && is_sound m s (records_of keys values in_force)
    && is_sound m s (to_redo keys values used in_force))
