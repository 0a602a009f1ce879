-- Below the one slot of a leaf stand as many zeros as its feature says, and fewer than 32. Rests on OneSlot.
use Prim.Native.Nat.{ℕ, zero, suc, ◌/◌, ◌%◌, ◌^◌, ◌<◌}
use mathlib.Core.Path.{◌≡◌, refl, ◌∙◌, ap}
use mathlib.Core.Bool.{true}
use native.Mathlib.Nat.{pow-suc}
use native.Mathlib.Omega.{arith}
use lib.Count.{count_trailing_zeros}
use lib.Pow.{pow_mono}
use Rattle.keys.proofs.Cases.{split}
use Rattle.definitions.specs.Bits.{feature_of}
use Rattle.list.specs.Check.{one_slot}
use Rattle.list.proofs.OneSlot.{one_slot_power}

odd : (k n : ℕ) → n % 2 ≡ 1 → count_trailing_zeros (suc k) n ≡ 0
unfolding count_trailing_zeros
odd k n e = rw e

even : (k n : ℕ) → n % 2 ≡ 0 → count_trailing_zeros (suc k) n ≡ suc (count_trailing_zeros k (n / 2))
unfolding count_trailing_zeros
even k n e = rw e

power : (k f : ℕ) → f < k → count_trailing_zeros k (2 ^ f) ≡ f
power zero f h = absurd (omega arith)
power (suc k) zero h = odd k 1 refl
power (suc k) (suc f) h =
    let e = pow-suc 2 f in
    let half : 2 ^ suc f / 2 ≡ 2 ^ f = omega arith in
    even k (2 ^ suc f) (omega arith) ∙ ap (λ x. suc (count_trailing_zeros k x)) half ∙ ap suc (power k f (omega arith))

module _ (bits : ℕ) (leaf : one_slot bits ≡ true) (fits : bits < 2 ^ 32) where
  -- a slot of a number that fits 32 bits
  pub feature_below : feature_of bits < 32
  feature_below =
      split (feature_of bits) 32 (λ a. a) (λ a. let g = pow_mono a in let e = one_slot_power bits leaf in absurd (omega arith))

  pub trailing_feature : count_trailing_zeros 32 bits ≡ feature_of bits
  trailing_feature = ap (count_trailing_zeros 32) (one_slot_power bits leaf) ∙ power 32 (feature_of bits) feature_below
