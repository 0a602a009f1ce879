-- When a block's bits settle it for report. Only contracts need it; proofs/Gathered.antt has its laws.
use Rattle.std.specs.Prelude.{ℕ, Bool, ◌||◌, eqb}
use Rattle.std.specs.Int.Bits.{bit_or}
use Rattle.definitions.specs.declared.Window.{Window}
use Rattle.list.specs.Check.{one_slot}
use Rattle.walk.specs.declared.Spot.{Spot}
use Rattle.walk.specs.Walk.{is_within}

-- none is new, or one slot alone is set, or the window holds the block
unfoldable pub settles : (union bits : ℕ) (s : Spot) (w : Window) → Bool
settles union bits s w = eqb (bit_or union bits) union || (one_slot bits || is_within s w)
