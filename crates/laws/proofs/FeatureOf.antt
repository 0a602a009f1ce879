-- The feature of a leaf's bitstring: of 2 ^ f it is f, so different features have different bitstrings. Rests on the definitions alone.
use Prim.Native.Nat.{ℕ, zero, suc, ◌/◌, ◌%◌, ◌^◌, ◌<◌}
use mathlib.Core.Path.{◌≡◌, refl, sym, ◌∙◌, ap}
use mathlib.Core.Bool.{false}
use native.Mathlib.Nat.{pow-suc}
use native.Mathlib.Omega.{arith}
use lib.Dec.{eqb}
use borrow.Author.Tests.{eq-eqb, ne_eqb}
use Rattle.definitions.specs.Bits.{twos_in, feature_of}

-- 2 does not divide an odd number
pub twos_odd : (fuel bits : ℕ) → bits % 2 ≡ 1 → twos_in (suc fuel) bits ≡ 0
unfolding twos_in
twos_odd fuel bits e = rw (eq-eqb (bits % 2) 1 e, twos_in)

-- 2 divides an even number once more than its half
pub twos_even : (fuel bits : ℕ) → bits % 2 ≡ 0 → twos_in (suc fuel) bits ≡ suc (twos_in fuel (bits / 2))
unfolding twos_in
twos_even fuel bits e = let h : eqb (bits % 2) 1 ≡ false = ne_eqb (bits % 2) 1 (omega arith) in rw (h, twos_in)

-- 2 divides 2 ^ f f times
pub twos_in_power : (fuel f : ℕ) → f < fuel → twos_in fuel (2 ^ f) ≡ f
twos_in_power zero f h = absurd (omega arith)
twos_in_power (suc fuel) zero h = twos_odd fuel 1 refl
twos_in_power (suc fuel) (suc f) h =
    let e = pow-suc 2 f in
    let half : 2 ^ suc f / 2 ≡ 2 ^ f = omega arith in
    twos_even fuel (2 ^ suc f) (omega arith) ∙ ap (λ x. suc (twos_in fuel x)) half ∙ ap suc (twos_in_power fuel f (omega arith))

-- a number is below its power of two
pub below_power : (f : ℕ) → f < 2 ^ f
below_power zero = omega arith
below_power (suc f) = let e = pow-suc 2 f in let h = below_power f in omega arith

-- the feature of 2 ^ f is f
pub feature_of_power : (f : ℕ) → feature_of (2 ^ f) ≡ f
unfolding feature_of
feature_of_power f = twos_in_power (2 ^ f) f (below_power f)

-- powers of two are equal only where their exponents are
pub power_inj : (f g : ℕ) → 2 ^ f ≡ 2 ^ g → f ≡ g
power_inj f g e = sym (feature_of_power f) ∙ ap feature_of e ∙ feature_of_power g
