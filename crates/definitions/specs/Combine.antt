-- Two pictures combined pixel by pixel, through a table that names a class for a first class and a second one (specification S19). Rests on
-- Picture, List and Refusal.
use Rattle.std.specs.Prelude.{ℕ, ◌+◌, ◌*◌, Bool, not, ◌||◌, List, length, get_or, eqb}
use Rattle.definitions.specs.Picture.{Picture}
use Rattle.definitions.specs.List.{Record, list_of_picture}
use Rattle.definitions.specs.Read.{picture_of}
use Rattle.definitions.specs.Refusal.{bad_pixel}

-- the class that the table names for first class a and second class b, of which there are s₂
abbrev pub class_of : (table : List ℕ) (s₂ a b : ℕ) → ℕ
class_of table s₂ a b = get_or table (a * s₂ + b) 0

-- at each pixel the class of what the two pictures have there
unfoldable pub combined : (p q : Picture) (table : List ℕ) (s₂ : ℕ) → Picture
combined p q table s₂ row column = class_of table s₂ (p row column) (q row column)

-- the list of the two pictures that two lists show, combined
unfoldable pub combined_list : (m : ℕ) (first second : List Record) (table : List ℕ) (s₂ : ℕ) → List Record
combined_list m first second table s₂ = list_of_picture m (combined (picture_of m first) (picture_of m second) table s₂)

-- 25: the table has not exactly one entry for each pair of classes, or an entry is no class of the result
unfoldable pub bad_class_table : (s₁ s₂ s₃ : ℕ) (table : List ℕ) → Bool
bad_class_table s₁ s₂ s₃ table = not (eqb (length table) (s₁ * s₂)) || bad_pixel s₃ table
