-- `overlap::overlap` meets its contract: the block and the window have rows and columns in common, and neither more than 1024.
use mathlib.Core.Path.{ap₂}
use Prim.Native.Nat.{◌*◌}
use native.Mathlib.Omega.{arith}
use Rattle.walk.proofs.Lies.{not_apart}
use Rattle.area.specs.Overlap.{overlap_of}
use Rattle.area.proofs.overlap.overlap.Goals as goal

pub shared-rows-requires : goal.shared-rows-requires
shared-rows-requires c = let j = not_apart _ _ c.requires.1 in omega (arith, c.requires.0)

pub shared-columns-requires : goal.shared-columns-requires
shared-columns-requires c = let j = not_apart _ _ c.requires.1 in omega (arith, c.requires.0)

pub returns : goal.returns
unfolding overlap_of
returns c = ap₂ (λ x y. x * y) c.shared-rows.ensures.0 c.shared-columns.ensures.0
