-- The bits of the block where the walk stands, and its pixels: a slot that is not set belongs to none of them, and one slot alone to all. Rests on Lies
-- and the laws of bits.
use Prim.Native.Nat.{ℕ, ◌^◌}
use mathlib.Core.Path.{◌≡◌, sym, ◌∙◌, ap}
use mathlib.Core.Bool.{false, true≢false}
use native.Mathlib.Omega.{arith}
use borrow.Author.Tests.{eqb-true}
use Rattle.definitions.specs.Picture.{Picture}
use Rattle.definitions.specs.Bits.{has_slot, bits_of}
use Rattle.laws.proofs.Slots.{slot_power}
use Rattle.laws.proofs.BitsOf.{bits_from}
use Rattle.walk.specs.declared.Spot.{Spot}
use Rattle.walk.specs.Walk.{BlockSpot}
use Rattle.walk.proofs.Lies.{InSpot}

-- the bits of the spot's block
abbrev pub bits_at : Picture → {m : ℕ} {s : Spot} → BlockSpot m s → ℕ
bits_at p {s = s} h = bits_of p h.height s.row s.column

-- a slot of a block's bits that is not set belongs to none of its pixels
pub no_slot_pixel : (p : Picture) (f : ℕ) {m : ℕ} {s : Spot} (h : BlockSpot m s) (row column : ℕ)
    → has_slot (bits_at p h) f ≡ false → InSpot s row column → p row column ≡ f
    → ⊥
no_slot_pixel p f {s = s} h row column none i has =
    let e = bits_from p h.height s.row s.column row column (omega (arith, h.side)) in
    true≢false (sym (ap (has_slot (bits_at p h)) (sym has) ∙ e) ∙ none)

-- a block with one slot alone has that feature at every pixel
pub whole_pixel : (p : Picture) (f : ℕ) {m : ℕ} {s : Spot} (h : BlockSpot m s) (row column : ℕ) → bits_at p h ≡ 2 ^ f → InSpot s row column → p row column ≡ f
whole_pixel p f {s = s} h row column is i =
    let e = bits_from p h.height s.row s.column row column (omega (arith, h.side)) in
    sym (eqb-true f (p row column) (sym (slot_power f (p row column)) ∙ ap (λ x. has_slot x (p row column)) (sym is) ∙ e))
