-- `has_room` meets its contract: where the longest list of so many pixels fits, any list does; else the list after the step is counted.
use Prim.Native.Nat.{◌*◌, ◌^◌, ◌≤◌, ℕ}
use mathlib.Core.Path.{◌≡◌, sym, ap, ◌∙◌, refl}
use native.Mathlib.Omega.{arith}
use native.Mathlib.Nat.{pow-le-pow_right, one-le-pow}
use lib.Dec.{lit<, leb}
use Rattle.laws.proofs.PixelSums.{squared}
use Rattle.apply_deed.proofs.Changing.{any_fits}
use Rattle.apply_deed.proofs.change.has_room.Goals as goal

-- the pixels of the map, which are not many
pixels : (m : ℕ) {side : ℕ} → side ≡ 2 ^ m → side * side ≡ 4 ^ m
pixels m e = ap (λ x. x * x) e ∙ squared m

few : {m : ℕ} → m ≤ 10 → 4 ^ m ≤ 4 ^ 10
few low = pow-le-pow_right (lit< tt) low

pub overflow_mul-pixels : goal.overflow_mul-pixels
overflow_mul-pixels c = omega (arith, pixels _ c.power_of_two-side.ensures, few c.args.list.now.deepest)

pub overflow_mul-most : goal.overflow_mul-most
overflow_mul-most c = omega (arith, pixels _ c.power_of_two-side.ensures, few c.args.list.now.deepest)

pub overflow_sub-most : goal.overflow_sub-most
overflow_sub-most c = let h = one-le-pow c.args.list.now.m 4 (omega arith) in omega (arith, pixels _ c.power_of_two-side.ensures)

pub returns-then-most-room : goal.returns-then-most-room
returns-then-most-room c = sym (any_fits _ _ (pixels _ c.power_of_two-side.ensures) refl c.if-most-room.true)

pub returns : goal.returns
returns c = ap (λ n. leb n c.args.room) c.length_after-after.ensures
