-- The frame of the four edits, which Paint, PaintWindow, TakeBack and Redo fill: what is lent, the edit, its table of refusals, its answer, and what it
-- leaves in the five lent slices. Refusals 1, 4, 18, 5, then the edit's own rows, then 9.
use Rattle.std.specs.Prelude.{ℕ, ◌≡◌, List, [], ◌∷◌, ◌++◌, length, ltb}
use Rattle.definitions.specs.Picture.{Picture}
use Rattle.definitions.specs.List.{Record, list_of_picture, keys_of, values_of}
use Rattle.definitions.specs.Read.{room, records_of, picture_of}
use Rattle.definitions.specs.Buffer.{replaced}
use Rattle.definitions.specs.Area.{summary_of, no_summary}
use Rattle.definitions.specs.Log.{no_log}
use Rattle.definitions.specs.Refusal.{Row, ◌gives◌, first, accepted, bad_settings, no_list}
use Rattle.definitions.specs.declared.Edited.{Edited}

-- what every edit is lent: a list of a map, its summary, and a log with its two counts
pub record LentSheet : Type 0 where
  pub m : ℕ
  pub s : ℕ
  pub keys : List ℕ
  pub bits : List ℕ
  pub n : ℕ
  pub summary : List ℕ
  pub log_keys : List ℕ
  pub log_values : List ℕ
  pub used : ℕ
  pub in_force : ℕ

abbrev pub as_lent : (m s : ℕ) (keys bits : List ℕ) (n : ℕ) (summary log_keys log_values : List ℕ) (used in_force : ℕ) → LentSheet
as_lent m s keys bits n summary log_keys log_values used in_force =
    record { m = m; s = s; keys = keys; bits = bits; n = n; summary = summary; log_keys = log_keys; log_values = log_values; used = used; in_force = in_force }

-- an edit of what is lent: the rows of its own, the picture after it, and the log and its counts after it
pub record Edit : Type 0 where
  pub lent : LentSheet
  pub rows : List Row
  pub picture : Picture
  pub log_keys : List ℕ
  pub log_values : List ℕ
  pub used : ℕ
  pub in_force : ℕ

-- the rows about what is lent, with which every table begins
abbrev pub sheet_rows : LentSheet → List Row
sheet_rows l =
    bad_settings l.m l.s gives 1
    ∷ no_list l.m l.s l.keys l.bits l.n gives 4
    ∷ no_summary l.m l.s (picture_of l.m (records_of l.keys l.bits l.n)) l.summary gives 18
    ∷ no_log l.m l.s l.log_keys l.log_values l.used l.in_force gives 5
    ∷ []

module _ (e : Edit) where
  -- the list of the picture after it
  abbrev pub list_left : List Record
  list_left = list_of_picture e.lent.m e.picture

  unfoldable pub edit_refusal : ℕ
  edit_refusal = first (sheet_rows e.lent ++ (e.rows ++ (ltb (room e.lent.keys e.lent.bits) (length list_left) gives 9 ∷ [])))

  unfoldable pub edit_answer : Edited
  edit_answer =
      record {
        refusal = edit_refusal;
        n = accepted edit_refusal (length list_left) 0;
        used = accepted edit_refusal e.used 0;
        in_force = accepted edit_refusal e.in_force 0;
      }

  unfoldable pub keys_left : List ℕ
  keys_left = accepted edit_refusal (replaced e.lent.n (keys_of list_left) e.lent.keys) e.lent.keys

  unfoldable pub bits_left : List ℕ
  bits_left = accepted edit_refusal (replaced e.lent.n (values_of list_left) e.lent.bits) e.lent.bits

  -- the counts of the picture after it
  unfoldable pub summary_left : List ℕ
  summary_left = accepted edit_refusal (summary_of e.lent.m e.lent.s e.picture) e.lent.summary

  unfoldable pub log_keys_left : List ℕ
  log_keys_left = accepted edit_refusal e.log_keys e.lent.log_keys

  unfoldable pub log_values_left : List ℕ
  log_values_left = accepted edit_refusal e.log_values e.lent.log_values

  -- the answer of an edit, and what it leaves in the five lent slices
  pub record Edits (r : Edited) (keys' bits' summary' log_keys' log_values' : List ℕ) : Type 0 where
    pub answer : r ≡ edit_answer
    pub keys_are : keys' ≡ keys_left
    pub bits_are : bits' ≡ bits_left
    pub summary_is : summary' ≡ summary_left
    pub log_keys_are : log_keys' ≡ log_keys_left
    pub log_values_are : log_values' ≡ log_values_left
