-- Whether a block shows a feature, or shows it alone, read off its bits where they were found. Rests on SpotBits, Asked and Slot.
use Prim.Native.Nat.{ℕ, ◌^◌}
use mathlib.Core.Path.{◌≡◌, sym, ◌∙◌, ap}
use mathlib.Core.Bool.{true, false}
use mathlib.Core.List.{List}
use lib.Bits.{bit_and}
use lib.ListN.{get_or, take}
use Rattle.definitions.specs.Picture.{Picture}
use Rattle.definitions.specs.Bits.{has_slot}
use Rattle.list.specs.Own.{OwnList, shown_by}
use Rattle.list.specs.Among.{place_among}
use Rattle.walk.specs.declared.Spot.{Spot}
use Rattle.walk.specs.Walk.{BlockSpot}
use Rattle.walk.proofs.Asked.{asked_place}
use Rattle.walk.proofs.Slot.{bit_zero, bit_some}
use Rattle.walk.proofs.SpotBits.{bits_at}

module _ {m : ℕ} (p : Picture) {s : Spot} (h : BlockSpot m s) (f bit : ℕ) (is-bit : bit ≡ 2 ^ f) (found : ℕ) (value : found ≡ bits_at p h) where
  shared : bit_and (bits_at p h) (2 ^ f) ≡ bit_and found bit
  shared = ap (λ x. bit_and x (2 ^ f)) (sym value) ∙ ap (bit_and found) (sym is-bit)

  -- a block without the bit
  pub bits_no : bit_and found bit ≡ 0 → has_slot (bits_at p h) f ≡ false
  bits_no none = bit_zero _ f (shared ∙ none)

  -- and with it
  pub bits_yes : (bit_and found bit ≡ 0 → ⊥) → has_slot (bits_at p h) f ≡ true
  bits_yes some = bit_some _ f (λ z. some (sym shared ∙ z))

  -- with it alone
  pub bits_alone : found ≡ bit → bits_at p h ≡ 2 ^ f
  bits_alone same = sym value ∙ same ∙ is-bit

-- a block without the bit, looked up by its place alone
pub place_no : {m : ℕ} {keys bits : List ℕ} {n : ℕ} (o : OwnList m keys bits n) {s : Spot} (h : BlockSpot m s) (f bit : ℕ) → bit ≡ 2 ^ f
    → (place : ℕ) → place ≡ place_among s.key (take n keys) → bit_and (get_or bits place 0) bit ≡ 0
    → has_slot (bits_at (shown_by m keys bits n) h) f ≡ false
place_no {bits = bits} o h f bit is place e none =
    let a = asked_place o h.block place e in
    bit_zero _ f (ap (λ x. bit_and x (2 ^ f)) (sym a.value) ∙ ap (bit_and (get_or bits place 0)) (sym is) ∙ none)
