-- The number of a block of level 2 among all blocks of that level in key order, by the first two digits of its key. Only contracts need it;
-- proofs/NumberOf.antt says that the summary has the block's counts there.
use Rattle.std.specs.Prelude.{ℕ, ◌+◌, ◌-◌, ◌*◌, ◌/◌, ◌%◌}
use Rattle.walk.specs.declared.Spot.{Spot}

unfoldable pub summary_number : Spot → ℕ
summary_number s = (s.key / s.step / 5 - 1) * 4 + (s.key / s.step % 5 - 1)
