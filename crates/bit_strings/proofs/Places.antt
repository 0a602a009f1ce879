-- A block's place among the keys: its digits, that its keys are the map's, and the levels below it; a child's place follows from its parent's.
-- Rests on the keys' laws of zeros.
use Prim.Native.Nat.{ℕ, zero, suc, ◌+◌, ◌-◌, ◌*◌, ◌/◌, ◌%◌, ◌^◌, ◌≤◌}
use mathlib.Core.Path.{◌≡◌, sym, ap, ap₂, ◌∙◌}
use native.Mathlib.Nat.{pow-suc, one-le-pow, add-mul, mul_assoc, zero-mul, pow-le-pow_right, mul-le-mul_right}
use native.Mathlib.Omega.{arith}
use Rattle.keys.specs.Key.{child_key, zeros_at_end}
use Rattle.keys.proofs.Cases.{split}
use Rattle.keys.proofs.LastZeros.{zeros_more, zeros_none, zeros_root}

pub record Place (m k κ : ℕ) : Type 0 where
  pub digits : ℕ
  pub is : κ ≡ digits * 5 ^ k
  pub room : κ + 5 ^ k ≤ 5 ^ m
  pub levels : zeros_at_end m κ ≡ k

zeros_at : (k j q : ℕ) → (q % 5 ≡ 0 → ⊥) → zeros_at_end (k + j) (q * 5 ^ k) ≡ k
zeros_at zero j q h = zeros_none (zero + j) (q * 5 ^ 0) (λ e. h (omega arith))
zeros_at (suc k) j q h =
    let p : q * 5 ^ suc k ≡ q * 5 ^ k * 5 = ap (λ x. q * x) (pow-suc 5 k) ∙ sym (mul_assoc q (5 ^ k) 5) in
    let e : suc k + j ≡ suc (k + j) = omega arith in
    let zero-digit : (q * 5 ^ suc k) % 5 ≡ 0 = omega arith in
    let rest : q * 5 ^ suc k / 5 ≡ q * 5 ^ k = omega arith in
    ap (λ n. zeros_at_end n (q * 5 ^ suc k)) e
    ∙ zeros_more (k + j) (q * 5 ^ suc k) zero-digit
    ∙ ap (λ x. suc (zeros_at_end (k + j) x)) rest
    ∙ ap suc (zeros_at k j q h)

pub root_place : (m : ℕ) → Place m m 0
root_place m = record { digits = 0; is = sym (zero-mul (5 ^ m)); room = omega arith; levels = zeros_root m }

height_less : (m k κ : ℕ) → κ + 5 ^ k ≤ 5 ^ m → k ≤ m
height_less m k κ h =
    split m k
    (λ l. let e = pow-suc 5 m in
    let p = pow-le-pow_right {n = 5} (omega arith) {i = suc m} {j = k} l in
    let o = one-le-pow m 5 (omega arith) in
    absurd (omega arith))
    (λ l. l)

pub child_place : {m k κ : ℕ} → Place m (suc k) κ → (d : ℕ) → 1 ≤ d → d ≤ 4 → Place m k (child_key κ k d)
child_place {m} {k} {κ} p d low high =
    let q = p.digits in
    let r = p.room in
    let e = pow-suc 5 k in
    let o = one-le-pow k 5 (omega arith) in
    let twice : q * 5 ^ suc k ≡ q * 5 * 5 ^ k = ap (λ x. q * x) (pow-suc 5 k ∙ turned (5 ^ k)) ∙ sym (mul_assoc q 5 (5 ^ k)) in
    let key : child_key κ k d ≡ (q * 5 + d) * 5 ^ k = ap (λ x. x + d * 5 ^ k) (p.is ∙ twice) ∙ sym (add-mul (q * 5) d (5 ^ k)) in
    let inside = height_less m (suc k) κ r in
    let m_is : m ≡ k + (m - k) = omega arith in
    let some : d * 5 ^ k ≤ 4 * 5 ^ k = times d 4 (5 ^ k) high in
    record {
      digits = q * 5 + d;
      is = key;
      room = omega arith;
      levels = ap₂ zeros_at_end m_is key ∙ zeros_at k (m - k) (q * 5 + d) (λ z. omega arith);
    }
  where
    turned : (x : ℕ) → x * 5 ≡ 5 * x
    turned x = omega arith

    times : (a b x : ℕ) → a ≤ b → a * x ≤ b * x
    times a b x h = mul-le-mul_right x h
