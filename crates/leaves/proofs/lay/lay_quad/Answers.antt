-- `lay::lay_quad`: the next leaf is the block, or four pixels and then their own records.
use Prim.Native.Nat.{ℕ, ◌+◌, ◌^◌, ◌≤◌, ◌<◌}
use mathlib.Core.List.{List}
use mathlib.Core.Path.{◌≡◌, refl}
use native.Mathlib.Omega.{arith}
use lib.ListN.{length, get_or}
use Rattle.keys.specs.Key.{slot_limit}
use Rattle.keys.specs.declared.span.KeySpan.{KeySpan}
use Rattle.leaves.specs.Delivered.{pixel_span, quad_span, leaf_lain, LayAsked, BlockLaid}
use Rattle.leaves.specs.declared.lay.Lain.{Lain}
use Rattle.leaves.proofs.Quarters.{parted_there}
use Rattle.leaves.proofs.LayBlock.{laid_leaf, laid_pixel, ready_place, ready_nw, ready_ne, ready_sw, ready_se, ready_four, laid_four}
use Rattle.leaves.proofs.lay.lay_quad.Goals as goal

-- what a call for a leaf that is ready asks
leaf_there : {leafKeys leafFeatures : List ℕ} {span : KeySpan} {at place : ℕ} {keys bits : List ℕ} → LayAsked leafKeys leafFeatures span at place keys bits
    → (at < length leafFeatures) × (get_or leafFeatures at 0 < slot_limit) × (place ≤ 5 ^ 10)
leaf_there {at = at} a =
    let h = parted_there a.parted in
    (omega (arith, a.asked.same), a.asked.few at, ready_place a)

-- the pixels one after the other: ready, and then laid
module _ {leafKeys leafFeatures : List ℕ} {key at place : ℕ} {keys bits : List ℕ} (a : LayAsked leafKeys leafFeatures (quad_span key) at place keys bits)
    (n : get_or leafKeys at 0 ≡ key → ⊥) where
  abbrev Laid : ℕ → ℕ → ℕ → Lain → Type 0
  Laid κ at' place' x = BlockLaid leafKeys leafFeatures (pixel_span κ) at' place' keys bits keys bits x

  module _ {x₁ : Lain} (e₁ : x₁ ≡ leaf_lain leafFeatures at (place + 1)) where
    first : Laid (key + 1) at (place + 1) x₁
    first = laid_pixel (ready_nw a n refl) e₁

    module _ {x₂ : Lain} (e₂ : x₂ ≡ leaf_lain leafFeatures x₁.end x₁.below.next) where
      second : Laid (key + 2) x₁.end x₁.below.next x₂
      second = laid_pixel (ready_ne a n refl first refl) e₂

      module _ {x₃ : Lain} (e₃ : x₃ ≡ leaf_lain leafFeatures x₂.end x₂.below.next) where
        third : Laid (key + 3) x₂.end x₂.below.next x₃
        third = laid_pixel (ready_sw a n refl first refl second refl) e₃

        fourth : {x₄ : Lain} → x₄ ≡ leaf_lain leafFeatures x₃.end x₃.below.next → Laid (key + 4) x₃.end x₃.below.next x₄
        fourth e₄ = laid_pixel (ready_se a n refl first refl second refl third refl) e₄

pub returns-then-leaf_keys-at : goal.returns-then-leaf_keys-at
returns-then-leaf_keys-at c = rw c.lay_leaf.ensures (laid_leaf (parted_there c.requires.parted) c.if-leaf_keys-at.true)

pub lay_leaf-ne-requires : goal.lay_leaf-ne-requires
lay_leaf-ne-requires c = leaf_there (ready_ne c.requires c.if-leaf_keys-at.false refl (first c.requires c.if-leaf_keys-at.false c.lay_leaf-nw.ensures) refl)

pub lay_leaf-sw-requires : goal.lay_leaf-sw-requires
lay_leaf-sw-requires c = leaf_there (ready_sw c.requires c.if-leaf_keys-at.false refl (first c.requires c.if-leaf_keys-at.false c.lay_leaf-nw.ensures) refl (second c.requires c.if-leaf_keys-at.false c.lay_leaf-nw.ensures c.lay_leaf-ne.ensures) refl)

pub lay_leaf-se-requires : goal.lay_leaf-se-requires
lay_leaf-se-requires c = leaf_there (ready_se c.requires c.if-leaf_keys-at.false refl (first c.requires c.if-leaf_keys-at.false c.lay_leaf-nw.ensures) refl (second c.requires c.if-leaf_keys-at.false c.lay_leaf-nw.ensures c.lay_leaf-ne.ensures) refl (third c.requires c.if-leaf_keys-at.false c.lay_leaf-nw.ensures c.lay_leaf-ne.ensures c.lay_leaf-sw.ensures) refl)

pub write_four-below-requires : goal.write_four-below-requires
write_four-below-requires c = ready_four c.requires c.if-leaf_keys-at.false refl (first c.requires c.if-leaf_keys-at.false c.lay_leaf-nw.ensures) refl (second c.requires c.if-leaf_keys-at.false c.lay_leaf-nw.ensures c.lay_leaf-ne.ensures) refl (third c.requires c.if-leaf_keys-at.false c.lay_leaf-nw.ensures c.lay_leaf-ne.ensures c.lay_leaf-sw.ensures) refl (fourth c.requires c.if-leaf_keys-at.false c.lay_leaf-nw.ensures c.lay_leaf-ne.ensures c.lay_leaf-sw.ensures c.lay_leaf-se.ensures)

pub returns : goal.returns
returns c = laid_four c.requires c.if-leaf_keys-at.false refl (first c.requires c.if-leaf_keys-at.false c.lay_leaf-nw.ensures) refl (second c.requires c.if-leaf_keys-at.false c.lay_leaf-nw.ensures c.lay_leaf-ne.ensures) refl (third c.requires c.if-leaf_keys-at.false c.lay_leaf-nw.ensures c.lay_leaf-ne.ensures c.lay_leaf-sw.ensures) refl (fourth c.requires c.if-leaf_keys-at.false c.lay_leaf-nw.ensures c.lay_leaf-ne.ensures c.lay_leaf-sw.ensures c.lay_leaf-se.ensures) c.write_four-below.ensures
