-- What a paint of a block makes of a list that shows a picture: the list and the summary of the painted picture, and the entry of the former one. Rests on Drawn
-- and the laws of reading a list.
use Prim.Native.Nat.{ℕ}
use mathlib.Core.Path.{◌≡◌, ap}
use mathlib.Core.Bool.{true}
use Rattle.keys.specs.Key.{root_key, valid_key, height_of}
use Rattle.keys.specs.Block.{row_of, column_of}
use Rattle.keys.proofs.Valid.{valid_block}
use Rattle.definitions.specs.Picture.{Picture}
use Rattle.definitions.specs.List.{list_of_picture}
use Rattle.definitions.specs.Read.{picture_of}
use Rattle.definitions.specs.Edit.{paint_in, content_of}
use Rattle.definitions.specs.Area.{summary_of}
use Rattle.definitions.specs.Log.{closed, entry_of}
use Rattle.definitions.specs.Calls.Paint.{painted_picture, painted, gained}
use Rattle.laws.proofs.Pixels.{Agree, agree_under}
use Rattle.laws.proofs.ListOf.{list_agree}
use Rattle.laws.proofs.ReadBack.{root_keys, block_back}
use Rattle.laws.proofs.SummaryOf.{summary_agree}
use Rattle.history.proofs.Drawn.{paint_agree}

-- the picture that a picture's list shows agrees with it on the map
pub map_back : (m : ℕ) (p : Picture) → Agree (picture_of m (list_of_picture m p)) p m 0 0
map_back m p = block_back m p m 0 0 root_key (root_keys m)

-- pictures that agree on the map have the same content in a block
pub content_agree : (m κ : ℕ) (p q : Picture) → valid_key m κ ≡ true → Agree p q m 0 0 → content_of m p κ ≡ content_of m q κ
unfolding content_of
content_agree m κ p q valid h = list_agree p q (height_of m κ) (row_of m κ) (column_of m κ) κ (agree_under (valid_block m κ valid) h)

-- and the same entry
pub entry_agree : (m κ f : ℕ) (p q : Picture) → valid_key m κ ≡ true → Agree p q m 0 0 → entry_of m p κ f ≡ entry_of m q κ f
unfolding entry_of
entry_agree m κ f p q valid h = ap (λ l. closed κ l f) (content_agree m κ p q valid h)

-- the list after a paint is that of the painted picture
pub painted_list : (m κ f : ℕ) (p : Picture) → painted m (list_of_picture m p) κ f ≡ list_of_picture m (paint_in m κ f p)
unfolding painted
painted_list m κ f p =
    list_agree (paint_in m κ f (picture_of m (list_of_picture m p))) (paint_in m κ f p) m 0 0 root_key
    (paint_agree m κ f (picture_of m (list_of_picture m p)) p m 0 0 (map_back m p))

-- and the summary after it
pub painted_summary : (m s κ f : ℕ) (p : Picture) → summary_of m s (painted_picture m (list_of_picture m p) κ f) ≡ summary_of m s (paint_in m κ f p)
painted_summary m s κ f p =
    summary_agree m s (paint_in m κ f (picture_of m (list_of_picture m p))) (paint_in m κ f p)
    (paint_agree m κ f (picture_of m (list_of_picture m p)) p m 0 0 (map_back m p))

-- the entry that the log gains is that of the former picture
pub gained_entry : (m κ f : ℕ) (p : Picture) → valid_key m κ ≡ true → gained m (list_of_picture m p) κ f ≡ entry_of m p κ f
unfolding gained
gained_entry m κ f p valid = entry_agree m κ f (picture_of m (list_of_picture m p)) p valid (map_back m p)
