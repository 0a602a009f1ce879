-- What the edits share: the refusals that they test first, about what is lent, and the one about the list's room. Only contracts need these. Rests on
-- Calls/Edit of the definitions.
use Rattle.std.specs.Prelude.{ℕ, List, [], ◌∷◌, length, ltb}
use Rattle.definitions.specs.List.{Record}
use Rattle.definitions.specs.Read.{room}
use Rattle.definitions.specs.Refusal.{◌gives◌, first}
use Rattle.definitions.specs.Calls.Edit.{LentSheet, sheet_rows}

-- 1, 4, 18, 5
unfoldable pub sheet_refusal : (l : LentSheet) → ℕ
sheet_refusal l = first (sheet_rows l)

-- 9, for a list that is to stand in these slices
unfoldable pub list_room_refusal : (l : List Record) (keys bits : List ℕ) → ℕ
list_room_refusal l keys bits = first (ltb (room keys bits) (length l) gives 9 ∷ [])
