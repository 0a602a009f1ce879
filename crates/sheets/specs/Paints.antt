-- A paint of a window over the sheets that it meets: on each of them its overlap is painted, as one step of that sheet's log, in any order of the sheets; its
-- taking back and its redo, where it is the last step in force, or the next to redo, on each of them. Rests on Ground and on the history's calls.
use Rattle.std.specs.Prelude.{ℕ, ◌<◌, ◌≤◌, ◌≡◌, Bool, true, false, cond, not, ◌&&◌, ◌||◌, List, [], ◌∷◌, ◌++◌, length, eqb}
use Rattle.definitions.specs.Picture.{Picture}
use Rattle.definitions.specs.List.{Record, list_of_picture}
use Rattle.definitions.specs.Read.{room, records_of}
use Rattle.definitions.specs.Window.{is_window}
use Rattle.definitions.specs.Edit.{fill_window}
use Rattle.definitions.specs.Log.{group_of, is_sound, to_redo, no_log}
use Rattle.definitions.specs.declared.Window.{Window}
use Rattle.history.specs.History.{Call, Buffers, of_window, painting, taking_back, redoing, answer, after}
use Rattle.sheets.specs.Ground.{Ground, sheets_for, sheet_picture, sheet_window, meets_sheet}

-- the ground after a window of it is painted with f
abbrev pub painted_ground : (w : Window) (f : ℕ) (g : Ground) → Ground
painted_ground w f g = record { rows = g.rows; columns = g.columns; picture = fill_window w f g.picture }

-- the call on sheet (i, j): the overlap is painted
abbrev pub paint_on : (m : ℕ) (w : Window) (f i j : ℕ) → Call
paint_on m w f i j = painting (of_window (sheet_window m w i j) f)

-- the same call on each sheet that is called
abbrev pub take_back_on : (i j : ℕ) → Call
take_back_on i j = taking_back

abbrev pub redo_on : (i j : ℕ) → Call
redo_on i j = redoing

-- the place of a sheet among the sheets
pub record SheetPlace : Type 0 where
  pub down : ℕ
  pub across : ℕ

abbrev pub is_place : (x : SheetPlace) (i j : ℕ) → Bool
is_place x i j = eqb x.down i && eqb x.across j

-- sheet (i, j) is one of them
unfoldable pub is_among : (places : List SheetPlace) (i j : ℕ) → Bool
is_among [] i j = false
is_among (x ∷ places) i j = is_place x i j || is_among places i j

-- no sheet is there twice
unfoldable pub each_once : (places : List SheetPlace) → Bool
each_once [] = true
each_once (x ∷ places) = not (is_among places x.down x.across) && each_once places

-- the sheets with other buffers at one place
abbrev pub with_sheet : (x : SheetPlace) (b : Buffers) (sheets : ℕ → ℕ → Buffers) → ℕ → ℕ → Buffers
with_sheet x b sheets i j = cond (is_place x i j) b (sheets i j)

-- the sheets after a call on each of some sheets, one sheet after the other
unfoldable pub after_sheets : (m s : ℕ) (call : ℕ → ℕ → Call) (places : List SheetPlace) (sheets : ℕ → ℕ → Buffers) → ℕ → ℕ → Buffers
after_sheets m s call [] sheets = sheets
after_sheets m s call (x ∷ places) sheets =
    after_sheets m s call places (with_sheet x (after m s (sheets x.down x.across) (call x.down x.across)) sheets)

-- the sheets that have a pixel of the window are among those called, in any order
abbrev pub MetAmong : (m : ℕ) (g : Ground) (w : Window) (places : List SheetPlace) → Type 0
MetAmong m g w places =
    (i j : ℕ) → i < sheets_for m g.rows → j < sheets_for m g.columns → meets_sheet m w i j ≡ true → is_among places i j ≡ true

-- they, and no others of the ground, are
abbrev pub MetAlone : (m : ℕ) (g : Ground) (w : Window) (places : List SheetPlace) → Type 0
MetAlone m g w places =
    (i j : ℕ) → i < sheets_for m g.rows → j < sheets_for m g.columns → is_among places i j ≡ meets_sheet m w i j

-- the paint is accepted on each sheet that has a pixel of the window
abbrev pub MetAccept : (m s : ℕ) (g : Ground) (w : Window) (f : ℕ) (sheets : ℕ → ℕ → Buffers) → Type 0
MetAccept m s g w f sheets =
    (i j : ℕ) → i < sheets_for m g.rows → j < sheets_for m g.columns → meets_sheet m w i j ≡ true
    → answer m s (sheets i j) (paint_on m w f i j) ≡ 0

-- a sheet's log is sound: refusal 5 does not come
abbrev pub HasLog : (m s : ℕ) (b : Buffers) → Type 0
HasLog m s b = no_log m s b.log_keys b.log_values b.used b.in_force ≡ false

-- the paint of a window with f on a picture is the last step in force of a sheet's sound log, and the list before it has room
pub record LastStepOn (m s : ℕ) (p : Picture) (w : Window) (f : ℕ) (b : Buffers) : Type 0 where
  pub window : is_window m w ≡ true
  pub feature : f < s
  pub sound : HasLog m s b
  pub before : List Record
  pub in-force : records_of b.log_keys b.log_values b.in_force ≡ before ++ group_of m p w f
  pub fits : length (list_of_picture m p) ≤ room b.keys b.bits

-- it is the next step to redo, and the list with it has room
pub record NextStepOn (m s : ℕ) (p : Picture) (w : Window) (f : ℕ) (b : Buffers) : Type 0 where
  pub window : is_window m w ≡ true
  pub feature : f < s
  pub sound : HasLog m s b
  pub later : List Record
  pub later_sound : is_sound m s later ≡ true
  pub to-redo : to_redo b.log_keys b.log_values b.used b.in_force ≡ group_of m p w f ++ later
  pub fits : length (list_of_picture m (fill_window w f p)) ≤ room b.keys b.bits

-- it is so on each sheet that has a pixel of the window, of that sheet's picture and overlap
abbrev pub MetLast : (m s : ℕ) (g : Ground) (filler : ℕ) (w : Window) (f : ℕ) (sheets : ℕ → ℕ → Buffers) → Type 0
MetLast m s g filler w f sheets =
    (i j : ℕ) → i < sheets_for m g.rows → j < sheets_for m g.columns → meets_sheet m w i j ≡ true
    → LastStepOn m s (sheet_picture m g filler i j) (sheet_window m w i j) f (sheets i j)

abbrev pub MetNext : (m s : ℕ) (g : Ground) (filler : ℕ) (w : Window) (f : ℕ) (sheets : ℕ → ℕ → Buffers) → Type 0
MetNext m s g filler w f sheets =
    (i j : ℕ) → i < sheets_for m g.rows → j < sheets_for m g.columns → meets_sheet m w i j ≡ true
    → NextStepOn m s (sheet_picture m g filler i j) (sheet_window m w i j) f (sheets i j)
