-- The table of waivers that two offices share (specification S14): its rows, the rows of one office, when a table is sound, and a row more or less.
-- Rests on Rules.
use Rattle.std.specs.Prelude.{ℕ, ◌≤◌, Bool, true, false, cond, not, ◌&&◌, ◌||◌, List, [], ◌∷◌, length, get_or, take, leb, ltb, eqb}
use Rattle.keys.specs.Key.{valid_key}
use Rattle.definitions.specs.Rules.{Finding, finding_of, comes_before}

-- the places of a table, and the rows that an office may hold
abbrev pub table_places : ℕ
table_places = 512

abbrev pub office_limit : ℕ
office_limit = 256

-- a row: an office has waived a rule's findings in a block
pub record Waiver : Type 0 where
  pub office : ℕ
  pub id : ℕ
  pub key : ℕ

abbrev pub waiver_of : (office id key : ℕ) → Waiver
waiver_of office id key = record { office = office; id = id; key = key }

-- what an office has waived, whichever office it is
abbrev pub waived_by : Waiver → Finding
waived_by w = finding_of w.id w.key

-- 21
abbrev pub bad_office : (office : ℕ) → Bool
bad_office office = ltb 1 office

-- the rows of three slices, as many as the shortest holds
unfoldable pub rows_in : (offices ids waived : List ℕ) → List Waiver
rows_in [] ids waived = []
rows_in (office ∷ offices) [] waived = []
rows_in (office ∷ offices) (id ∷ ids) [] = []
rows_in (office ∷ offices) (id ∷ ids) (κ ∷ waived) = waiver_of office id κ ∷ rows_in offices ids waived

-- the rows of a table are those of its first places
unfoldable pub table_of : (offices ids waived : List ℕ) (rows : ℕ) → List Waiver
table_of offices ids waived rows = rows_in (take rows offices) (take rows ids) (take rows waived)

-- the row at a place of the slices, and that they have places for so many rows
abbrev pub row_at : (offices ids waived : List ℕ) (i : ℕ) → Waiver
row_at offices ids waived i = waiver_of (get_or offices i 0) (get_or ids i 0) (get_or waived i 0)

pub record Holds (offices ids waived : List ℕ) (rows : ℕ) : Type 0 where
  pub in_offices : rows ≤ length offices
  pub in_ids : rows ≤ length ids
  pub in_waived : rows ≤ length waived

-- an office's own rows
unfoldable pub rows_of : (office : ℕ) (table : List Waiver) → List Finding
rows_of office [] = []
rows_of office (w ∷ table) = cond (eqb w.office office) (waived_by w ∷ rows_of office table) (rows_of office table)

-- by office, then id, then key
abbrev pub row_before : (a b : Waiver) → Bool
row_before a b = ltb a.office b.office || eqb a.office b.office && comes_before (waived_by a) (waived_by b)

-- strictly ascending: each before the next
unfoldable pub rows_ascend : List Waiver → Bool
rows_ascend [] = true
rows_ascend (a ∷ []) = true
rows_ascend (a ∷ (b ∷ table)) = row_before a b && rows_ascend (b ∷ table)

-- every row's office is one of the two
unfoldable pub offices_known : List Waiver → Bool
offices_known [] = true
offices_known (w ∷ table) = not (bad_office w.office) && offices_known table

unfoldable pub is_sound_table : List Waiver → Bool
is_sound_table table =
    rows_ascend table && (offices_known table && (leb (length (rows_of 0 table)) office_limit && leb (length (rows_of 1 table)) office_limit))

-- 14, whatever the keys are
unfoldable pub is_table : (offices ids waived : List ℕ) (rows : ℕ) → Bool
is_table offices ids waived rows =
    eqb (length offices) table_places
    && (eqb (length ids) table_places
    && (eqb (length waived) table_places && (leb rows table_places && is_sound_table (table_of offices ids waived rows))))

abbrev pub bad_table : (offices ids waived : List ℕ) (rows : ℕ) → Bool
bad_table offices ids waived rows = not (is_table offices ids waived rows)

-- every row's key is valid, whichever office has it
unfoldable pub row_keys_valid : (m : ℕ) (table : List Waiver) → Bool
row_keys_valid m [] = true
row_keys_valid m (w ∷ table) = valid_key m w.key && row_keys_valid m table

abbrev pub same_row : (a b : Waiver) → Bool
same_row a b = eqb a.office b.office && (eqb a.id b.id && eqb a.key b.key)

-- the row is in the table
unfoldable pub is_row : (w : Waiver) (table : List Waiver) → Bool
is_row w [] = false
is_row w (x ∷ table) = same_row x w || is_row w table

-- the table with the row at its place, and without the row
unfoldable pub added : (w : Waiver) (table : List Waiver) → List Waiver
added w [] = w ∷ []
added w (x ∷ table) = cond (row_before x w) (x ∷ added w table) (w ∷ (x ∷ table))

unfoldable pub removed : (w : Waiver) (table : List Waiver) → List Waiver
removed w [] = []
removed w (x ∷ table) = cond (same_row x w) table (x ∷ removed w table)
