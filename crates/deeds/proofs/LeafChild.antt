-- The quadrant of a leaf, by its digit, is asked as the leaf was. Rests on the keys' BlockChild.
use Prim.Native.Nat.{ℕ, ◌≤◌, ◌<◌}
use mathlib.Core.Path.{◌≡◌}
use Rattle.keys.specs.Child.{child_of}
use Rattle.keys.specs.declared.block.TreeBlock.{TreeBlock}
use Rattle.keys.proofs.BlockChild.{in_child}
use Rattle.deeds.specs.Deed.{LeafAsked}

pub leaf_child : {m own : ℕ} {b : TreeBlock} (d : ℕ) {q : TreeBlock} → q ≡ child_of b d → LeafAsked m own b → 0 < b.height → 1 ≤ d → d ≤ 4 → LeafAsked m own q
leaf_child {b = b} d e a positive low high = rw e (record { deep = a.deep; block = in_child b d a.block positive low high; leaf = a.leaf })
