-- Four pictures, one for each quadrant of a block, joined into one. Its list is that of a node where it has several features. Rests on laws' Pixels, Slots, BitsOf and ListOf.
use Prim.Native.Nat.{ℕ, suc, ◌+◌, ◌^◌}
use mathlib.Core.Path.{◌≡◌, ◌∙◌}
use mathlib.Core.Bool.{false, cond}
use mathlib.Core.List.{◌∷◌, ◌++◌}
use lib.Dec.{ltb}
use borrow.Author.Tests.{lt-ltb, le-ltb}
use Rattle.keys.specs.Key.{child_key}
use Rattle.definitions.specs.Picture.{Picture, one_feature}
use Rattle.definitions.specs.Bits.{union_of_four, bits_of}
use Rattle.definitions.specs.List.{record_of, list_of}
use Rattle.laws.proofs.Pixels.{Agree}
use Rattle.laws.proofs.Slots.{same_four}
use Rattle.laws.proofs.BitsOf.{bits_suc, bits_agree}
use Rattle.laws.proofs.ListOf.{list_node, list_agree}

-- each pixel from the picture of the quadrant that it lies in
pub joined : ℕ → ℕ → ℕ → Picture → Picture → Picture → Picture → Picture
joined k r c nw ne sw se row column =
    cond (ltb row (r + 2 ^ k)) (cond (ltb column (c + 2 ^ k)) (nw row column) (ne row column)) (cond (ltb column (c + 2 ^ k)) (sw row column) (se row column))

module _ (k r c : ℕ) (nw ne sw se : Picture) where
  pub joined_nw : Agree (joined k r c nw ne sw se) nw k r c
  unfolding joined
  joined_nw row column w = simp (lt-ltb row (r + 2 ^ k) w.bottom, lt-ltb column (c + 2 ^ k) w.right)

  pub joined_ne : Agree (joined k r c nw ne sw se) ne k r (c + 2 ^ k)
  unfolding joined
  joined_ne row column w = simp (lt-ltb row (r + 2 ^ k) w.bottom, le-ltb column (c + 2 ^ k) w.left)

  pub joined_sw : Agree (joined k r c nw ne sw se) sw k (r + 2 ^ k) c
  unfolding joined
  joined_sw row column w = simp (le-ltb row (r + 2 ^ k) w.top, lt-ltb column (c + 2 ^ k) w.right)

  pub joined_se : Agree (joined k r c nw ne sw se) se k (r + 2 ^ k) (c + 2 ^ k)
  unfolding joined
  joined_se row column w = simp (le-ltb row (r + 2 ^ k) w.top, le-ltb column (c + 2 ^ k) w.left)

  -- the bits are the union of the quadrants' bits
  pub joined_bits : bits_of (joined k r c nw ne sw se) (suc k) r c
      ≡ union_of_four (bits_of nw k r c) (bits_of ne k r (c + 2 ^ k)) (bits_of sw k (r + 2 ^ k) c) (bits_of se k (r + 2 ^ k) (c + 2 ^ k))
  joined_bits =
      bits_suc (joined k r c nw ne sw se) k r c
      ∙ same_four (bits_agree _ nw k r c joined_nw)
      (bits_agree _ ne k r (c + 2 ^ k) joined_ne)
      (bits_agree _ sw k (r + 2 ^ k) c joined_sw)
      (bits_agree _ se k (r + 2 ^ k) (c + 2 ^ k) joined_se)

  -- the list is the block's record and then the quadrants' lists
  pub joined_list : (κ : ℕ) → one_feature (joined k r c nw ne sw se) (suc k) r c ≡ false
      → list_of (joined k r c nw ne sw se) (suc k) r c κ ≡ record_of κ (bits_of (joined k r c nw ne sw se) (suc k) r c)
      ∷ (list_of nw k r c (child_key κ k 1)
      ++ (list_of ne k r (c + 2 ^ k) (child_key κ k 2)
      ++ (list_of sw k (r + 2 ^ k) c (child_key κ k 3) ++ list_of se k (r + 2 ^ k) (c + 2 ^ k) (child_key κ k 4))))
  joined_list κ several =
      let p = joined k r c nw ne sw se in
      let at-nw = list_agree p nw k r c (child_key κ k 1) joined_nw in
      let at-ne = list_agree p ne k r (c + 2 ^ k) (child_key κ k 2) joined_ne in
      let at-sw = list_agree p sw k (r + 2 ^ k) c (child_key κ k 3) joined_sw in
      let at-se = list_agree p se k (r + 2 ^ k) (c + 2 ^ k) (child_key κ k 4) joined_se in
      list_node p k r c κ several ∙ (cc)
