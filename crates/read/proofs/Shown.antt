-- What the bitstrings show at a place: the block's bits there, whether it is a leaf or a node, and what filling a square paints where it is a
-- leaf. Rests on list's Shown and on Rectangle.
use Prim.Native.Nat.{ℕ, zero, suc, ◌+◌, ◌*◌, ◌/◌, ◌%◌, ◌≤◌, ◌<◌}
use mathlib.Core.Path.{◌≡◌, sym, ◌∙◌, ap, ap₂}
use mathlib.Core.Bool.{true, false, true≢false}
use mathlib.Core.List.{List, ◌∷◌, ◌++◌}
use native.Mathlib.Omega.{arith}
use lib.Arith.{digits_div, digits_mod}
use lib.ListN.{length, get_or, drop, length-drop}
use lib.Seq.{get_or-drop}
use lib.Pow.{pow_pos}
use Rattle.definitions.specs.Picture.{Picture, one_feature}
use Rattle.definitions.specs.Bits.{bits_of, feature_of}
use Rattle.definitions.specs.List.{values_of, list_of}
use Rattle.laws.proofs.Within.{first_within}
use Rattle.laws.proofs.Slots.{slot_le}
use Rattle.laws.proofs.Features.{one_to, one_pixel}
use Rattle.laws.proofs.FeatureOf.{feature_of_power}
use Rattle.laws.proofs.BitsOf.{bits_one, bits_from}
use Rattle.laws.proofs.ListOf.{list_head_first, list_one}
use Rattle.list.specs.Check.{one_slot}
use Rattle.read.specs.Fill.{rectangle_painted, Shows, ShowsNode, BlockFilled, NodeFilled}
use Rattle.list.proofs.Shown.{slot_one, slot_several}
use Rattle.read.proofs.Rectangle.{InRectangle, rectangle_same}

module _ {p : Picture} {k r c κ : ℕ} {bits : List ℕ} {at wide place side long : ℕ} (s : Shows p k r c κ bits at wide place side long) where
  -- the first bitstring is the block's own
  first_value : drop at bits ≡ bits_of p k r c ∷ (values_of (list_head_first p k r c κ).0 ++ s.rest)
  first_value = s.values ∙ ap (λ l. values_of l ++ s.rest) (list_head_first p k r c κ).1

  pub shows_value : get_or bits at 0 ≡ bits_of p k r c
  shows_value =
      let e : at + 0 ≡ at = omega arith in
      ap (λ i. get_or bits i 0) (sym e) ∙ sym (get_or-drop at bits 0 0) ∙ ap (λ l. get_or l 0 0) first_value

  pub shows_room : at < length bits
  shows_room = let e = length-drop at bits in let f = ap length first_value in omega arith

  pub shows_wide : c < wide
  shows_wide = let h = s.columns in let e = s.sides in let f = pow_pos k in omega arith

  row_is : place / wide ≡ r
  row_is = ap (λ x. x / wide) s.corner ∙ digits_div r shows_wide

  column_is : place % wide ≡ c
  column_is = ap (λ x. x % wide) s.corner ∙ digits_mod r shows_wide

  -- the square lies in the raster
  pub shows_square : (place % wide + side ≤ wide) × ((place / wide + side) * wide ≤ long) × (0 < wide)
  shows_square = rw (row_is, column_is) (s.columns, s.rows, (let h = shows_wide in omega arith))

  -- a leaf's square, filled with its feature, is the block's picture
  module _ (leaf : one_slot (get_or bits at 0) ≡ true) where
    pub leaf_one : one_feature p k r c ≡ true
    leaf_one = slot_one p k r c (ap one_slot (sym shows_value) ∙ leaf)

    leaf_feature : feature_of (get_or bits at 0) ≡ p r c
    leaf_feature = ap feature_of (shows_value ∙ bits_one p k r c leaf_one) ∙ feature_of_power (p r c)

    pub leaf-length : length (list_of p k r c κ) ≡ 1
    leaf-length = ap length (list_one p k r c κ leaf_one)

    leaf_pixel : (a b : ℕ) → InRectangle r c side side a b → feature_of (get_or bits at 0) ≡ p a b
    leaf_pixel a b i = let e = s.sides in leaf_feature ∙ sym (one_to p k r c leaf_one a b (omega arith))

    pub leaf_painted : (x : List ℕ)
        → rectangle_painted wide (λ a b. feature_of (get_or bits at 0)) (place / wide) (place % wide) side side x ≡ rectangle_painted wide p r c side side x
    leaf_painted x =
        ap₂ (λ a b. rectangle_painted wide (λ i j. feature_of (get_or bits at 0)) a b side side x) row_is column_is
        ∙ rectangle_same wide (λ a b. feature_of (get_or bits at 0)) p r c side side x leaf_pixel

  -- what is no leaf has several features
  pub node_several : one_slot (get_or bits at 0) ≡ false → one_feature p k r c ≡ false
  node_several e = slot_several p k r c (ap one_slot (sym shows_value) ∙ e)

-- so it is no pixel: a node as it is asked for, and as it is given back
node_from : {p : Picture} (k : ℕ) {r c κ : ℕ} {bits : List ℕ} {at wide place side long : ℕ} → Shows p k r c κ bits at wide place side long → one_feature p k r c ≡ false → ShowsNode bits at wide place side long
node_from {p} zero {r} {c} s several = absurd (true≢false (sym (one_pixel p r c) ∙ several))
node_from {p} (suc k) {r} {c} {κ} s several = record { picture = p; height = k; row = r; column = c; key = κ; shows = s; several = several }

filled_from : {p : Picture} (k : ℕ) {r c κ : ℕ} {bits : List ℕ} {at wide place side : ℕ} {before after : List ℕ} {next : ℕ}
    → NodeFilled bits at wide place side before after next
    → Shows p k r c κ bits at wide place side (length before)
    → one_feature p k r c ≡ false
    → BlockFilled p k r c κ at wide side before after next
filled_from {p} zero {r} {c} f s several = absurd (true≢false (sym (one_pixel p r c) ∙ several))
filled_from {p} (suc k) {r} {c} {κ} f s several = f.holds p k r c κ s several

pub node_asked : {p : Picture} {k r c κ : ℕ} {bits : List ℕ} {at wide place side long : ℕ} → Shows p k r c κ bits at wide place side long → one_slot (get_or bits at 0) ≡ false → ShowsNode bits at wide place side long
node_asked {k = k} s e = node_from k s (node_several s e)

pub node_filled : {p : Picture} {k r c κ : ℕ} {bits : List ℕ} {at wide place side : ℕ} {before after : List ℕ} {next : ℕ}
    → NodeFilled bits at wide place side before after next
    → Shows p k r c κ bits at wide place side (length before)
    → one_slot (get_or bits at 0) ≡ false
    → BlockFilled p k r c κ at wide side before after next
node_filled {k = k} f s e = filled_from k f s (node_several s e)

-- a shown block has a slot, since its first pixel has a feature
pub shows_slots : {p : Picture} {k r c κ : ℕ} {bits : List ℕ} {at wide place side long : ℕ} → Shows p k r c κ bits at wide place side long → 0 < get_or bits at 0
shows_slots {p} {k} {r} {c} s =
    let e = shows_value s in
    let b = slot_le (bits_of p k r c) (p r c) (bits_from p k r c r c (first_within k r c)) in
    let g = pow_pos (p r c) in
    omega arith
