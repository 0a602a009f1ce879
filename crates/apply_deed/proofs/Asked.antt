-- What is asked of a block and of its quadrants, once a deed is told for that block alone: the map is the same. Rests on the laws of a block's children.
use Prim.Native.Nat.{ℕ, ◌≤◌, ◌<◌}
use mathlib.Core.Path.{◌≡◌}
use mathlib.Core.List.{List}
use native.Mathlib.Omega.{arith}
use Rattle.keys.specs.Child.{InMap, KeysEnd, Divisible, child_of}
use Rattle.keys.specs.declared.block.TreeBlock.{TreeBlock}
use Rattle.keys.proofs.Interval.{within}
use Rattle.keys.proofs.BlockChild.{child_lower, divides, end_in-map}
use Rattle.deeds.specs.Meeting.{BlockAsked}
use Rattle.deeds.specs.Deed.{LeafAsked}
use Rattle.deeds.proofs.LeafChild.{leaf_child}
use Rattle.apply_deed.specs.Passes.{Shown, GrowAsked}
use Rattle.apply_deed.specs.Shrink.{ShrinkAsked}
use Rattle.deeds.specs.Step.{Step}

module _ {m m' : ℕ} (same : m' ≡ m) {b : TreeBlock} where
  pub block_here : m ≤ 10 → InMap m b → BlockAsked m' b
  block_here deep block = rw same (record { deep = deep; block = block })

  pub leaf_here : {own : ℕ} → LeafAsked m own b → LeafAsked m' own b
  leaf_here a = rw same a

  pub shown_here : {ks bs : List ℕ} {at n : ℕ} → Shown m b ks bs at n → Shown m' b ks bs at n
  shown_here a = rw same a

  pub grow_here : {t : Step} {ks bs : List ℕ} {read write : ℕ} → GrowAsked t m b ks bs read write → GrowAsked t m' b ks bs read write
  grow_here a = rw same a

  pub shrink_here : {ks bs : List ℕ} {at n place : ℕ} → ShrinkAsked m b ks bs at n place → ShrinkAsked m' b ks bs at n place
  shrink_here a = rw same a

-- a leaf that is not settled by one look, and its quadrants
module _ {m own : ℕ} {b : TreeBlock} (a : LeafAsked m own b) where
  pub leaf_ends : KeysEnd b
  leaf_ends = end_in-map b a.deep a.block

  pub leaf_low : b.height ≤ 10
  leaf_low = let w = within a.block in omega (arith, w.height, a.deep)

  module _ (positive : 0 < b.height) where
    pub leaf_divides : Divisible b
    leaf_divides = divides b a.deep a.block positive

    -- in a recursion by the height, of which t is the measure
    pub leaf_quadrant : {t : ℕ} → b.height ≡ t → (d : ℕ) {q : TreeBlock} → q ≡ child_of b d → 1 ≤ d → d ≤ 4 → (q.height < t) × LeafAsked m own q
    leaf_quadrant lower d e low high = (child_lower b d e positive lower, leaf_child d e a positive low high)
