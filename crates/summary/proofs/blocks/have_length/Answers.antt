-- At most 16 blocks have s places each.
use Prim.Native.Nat.{ℕ, ◌*◌, ◌^◌, ◌<◌}
use mathlib.Core.Path.{◌≡◌, ap}
use native.Mathlib.Nat.{mul-le-mul_right}
use native.Mathlib.Omega.{arith}
use lib.Dec.{eqb}
use Rattle.definitions.specs.Area.{summary_level, summary_length}
use Rattle.summary.proofs.BlockNumbers.{number_most}
use Rattle.summary.proofs.blocks.have_length.Goals as goal

places_fit : (m s blocks : ℕ) → blocks ≡ 4 ^ summary_level m → s < 2 ^ 32 → blocks * s < 2 ^ 64
places_fit m s blocks e h =
    let b = number_most m in
    let g = mul-le-mul_right {m = blocks} {n = 16} s (omega arith) in
    omega arith

same_length : (m s blocks long : ℕ) → blocks ≡ 4 ^ summary_level m → eqb long (blocks * s) ≡ eqb long (summary_length m s)
same_length m s blocks long e = ap (λ b. eqb long (b * s)) e

pub overflow_mul-result : goal.overflow_mul-result
overflow_mul-result c = record { fits = places_fit _ _ _ c.number_of.ensures c.ranges.s.fits }
