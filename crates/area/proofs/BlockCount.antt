-- The walk's block by its key, as the code asks for it: its key is valid, its side squared are its pixels, its count is that of its square, and stands at its
-- place in the summary. Rests on NumberOf.
use Prim.Native.Nat.{ℕ, ◌+◌, ◌*◌, ◌^◌, ◌≤◌, ◌<◌}
use mathlib.Core.Path.{◌≡◌, sym, ◌∙◌, ap, ap₂}
use mathlib.Core.Bool.{true}
use mathlib.Core.List.{List}
use native.Mathlib.Nat.{mul-le-mul}
use native.Mathlib.Omega.{arith}
use lib.ListN.{length, get_or}
use Rattle.keys.specs.Key.{slot_limit, valid_key, height_of}
use Rattle.keys.specs.Block.{row_of, column_of}
use Rattle.keys.proofs.Powers.{two_le}
use Rattle.keys.proofs.Interval.{within}
use Rattle.keys.proofs.Valid.{block_valid}
use Rattle.definitions.specs.Picture.{Picture, one_feature}
use Rattle.definitions.specs.Area.{pixels_with, summary_of}
use Rattle.laws.proofs.PixelSums.{squared}
use Rattle.walk.specs.Walk.{BlockSpot}
use Rattle.walk.specs.declared.Spot.{Spot}
use Rattle.area.specs.Number.{summary_number}
use Rattle.area.proofs.NumberOf.{number_count, number_room}

module _ {m : ℕ} {t : Spot} (h : BlockSpot m t) where
  -- no side is more than that of the largest raster
  pub side_most : m ≤ 10 → t.side ≤ 1024
  side_most deep = let v = within h.block in let two = two_le 10 deep in omega (arith, h.side)

  pub area_fits : m ≤ 10 → t.side * t.side ≤ 1048576
  area_fits deep = mul-le-mul (side_most deep) (side_most deep)

  pub key_valid : valid_key m t.key ≡ true
  key_valid = (block_valid h.block).valid

  pub area_is : t.side * t.side ≡ 4 ^ height_of m t.key
  area_is = ap (λ x. x * x) h.side ∙ squared h.height ∙ ap (λ x. 4 ^ x) (sym (block_valid h.block).height)

  -- the count by the key is the count of the spot's square
  pub keyed : (p : Picture) (f : ℕ) → pixels_with p (height_of m t.key) (row_of m t.key) (column_of m t.key) f ≡ pixels_with p h.height t.row t.column f
  keyed p f =
      let i = block_valid h.block in
      ap (λ x. pixels_with p x (row_of m t.key) (column_of m t.key) f) i.height
      ∙ ap₂ (λ x y. pixels_with p h.height x y f) i.row i.column

  -- and so is whether it has one feature
  pub keyed_one : (p : Picture) → one_feature p (height_of m t.key) (row_of m t.key) (column_of m t.key) ≡ one_feature p h.height t.row t.column
  keyed_one p =
      let i = block_valid h.block in
      ap (λ x. one_feature p x (row_of m t.key) (column_of m t.key)) i.height
      ∙ ap₂ (λ x y. one_feature p h.height x y) i.row i.column

  module _ {s : ℕ} (p : Picture) {summary : List ℕ} (is : summary ≡ summary_of m s p) (level : t.side * 4 ≡ 2 ^ m) (b : ℕ) (e : b ≡ summary_number t) {f : ℕ} (low : f < s) where
    -- in the summary
    pub summary_has : get_or summary (b * s + f) 0 ≡ pixels_with p (height_of m t.key) (row_of m t.key) (column_of m t.key) f
    summary_has = ap₂ (λ l x. get_or l (x * s + f) 0) is e ∙ number_count h level s p f low

    pub summary_room : b * s + f < length summary
    summary_room =
        let r = number_room h level s p f low in
        let l = ap length is in
        let n = ap (λ x. x * s) e in
        omega arith
