-- A slot tested by its bit: the bit 2 ^ f is in common exactly when slot f is set. Rests on the laws of bits.
use Prim.Native.Nat.{ℕ, ◌*◌, ◌/◌, ◌%◌, ◌^◌, ◌<◌}
use mathlib.Core.Path.{◌≡◌, sym, ◌∙◌, ap}
use mathlib.Core.Bool.{true, false}
use native.Mathlib.Nat.{zero-div, div_self, mod_self, div-add-mod'}
use native.Mathlib.Omega.{arith}
use lib.Bits.{bit_and, and_shr, and_mod, and_mask, and_zero_r}
use lib.Pow.{pow_pos}
use borrow.Author.Tests.{eq-eqb, ne_eqb}
use Rattle.keys.proofs.Cases.{equal}
use Rattle.definitions.specs.Bits.{has_slot}

-- what a number and 2 ^ f have in common is 2 ^ f times the number's slot
shared_bit : (b f : ℕ) → bit_and b (2 ^ f) / 2 ^ f ≡ b / 2 ^ f % 2
shared_bit b f = and_shr b (2 ^ f) f ∙ ap (bit_and (b / 2 ^ f)) (div_self (pow_pos f)) ∙ and_mask (b / 2 ^ f) 1

shared_rest : (b f : ℕ) → bit_and b (2 ^ f) % 2 ^ f ≡ 0
shared_rest b f = and_mod b (2 ^ f) f ∙ ap (bit_and (b % 2 ^ f)) (mod_self (2 ^ f)) ∙ and_zero_r (b % 2 ^ f)

-- nothing in common: the slot is not set
pub bit_zero : (b f : ℕ) → bit_and b (2 ^ f) ≡ 0 → has_slot b f ≡ false
bit_zero b f e =
    let h : b / 2 ^ f % 2 ≡ 0 = sym (shared_bit b f) ∙ ap (λ x. x / 2 ^ f) e ∙ zero-div (2 ^ f) in
    ne_eqb (b / 2 ^ f % 2) 1 (omega arith)

zero_bit : (b f : ℕ) → b / 2 ^ f % 2 ≡ 0 → bit_and b (2 ^ f) ≡ 0
zero_bit b f e =
    let q : bit_and b (2 ^ f) / 2 ^ f ≡ 0 = shared_bit b f ∙ e in
    let z : bit_and b (2 ^ f) / 2 ^ f * 2 ^ f ≡ 0 * 2 ^ f = ap (λ x. x * 2 ^ f) q in
    let r = shared_rest b f in
    let d = div-add-mod' (bit_and b (2 ^ f)) (2 ^ f) in
    omega arith

-- something in common: it is
pub bit_some : (b f : ℕ) → (bit_and b (2 ^ f) ≡ 0 → ⊥) → has_slot b f ≡ true
bit_some b f n = eq-eqb (b / 2 ^ f % 2) 1 (equal (b / 2 ^ f % 2) 0 (λ z. absurd (n (zero_bit b f z))) (λ z. let h = mod_two (b / 2 ^ f) in omega arith))
  where
    mod_two : (x : ℕ) → x % 2 < 2
    mod_two x = omega arith
