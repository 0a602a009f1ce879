-- The zeros at the end of a key: found digit by digit, and as many as a valid key's block has levels below it. Rests on LastDigit.
use Prim.Native.Nat.{ℕ, zero, suc, ◌+◌, ◌-◌, ◌*◌, ◌/◌, ◌%◌, ◌^◌, ◌≤◌, ◌<◌}
use mathlib.Core.Path.{◌≡◌, refl, sym, ap, ap₂, ◌∙◌}
use mathlib.Core.Bool.{true}
use native.Mathlib.Nat.{pow-suc, mul_comm, div-div-eq-div-mul, div-lt_iff_lt-mul}
use native.Mathlib.Omega.{arith}
use lib.Dec.{lit<, eqb}
use lib.Arith.{mod-mul}
use lib.Pow.{pow-add}
use borrow.Author.Tests.{eq-eqb, ne_eqb, eqb-true}
use Rattle.keys.specs.Key.{zeros_at_end, valid_key, level_of, height_of}
use Rattle.keys.proofs.Cases.{equal}
use Rattle.keys.proofs.Digits.{level_most}
use Rattle.keys.proofs.LastDigit.{fifth_below, valid_last_zero, valid_last_digit, level_last_zero, full_last_digit, full_over, valid_over}
use Rattle.keys.proofs.Powers.{five_le, five_pos}
use Rattle.keys.proofs.Valid.{valid_below}

pub zeros_more : (k κ : ℕ) → κ % 5 ≡ 0 → zeros_at_end (suc k) κ ≡ suc (zeros_at_end k (κ / 5))
unfolding zeros_at_end
zeros_more k κ e = rw (eq-eqb (κ % 5) 0 e) refl

pub zeros_none : (k κ : ℕ) → (κ % 5 ≡ 0 → ⊥) → zeros_at_end k κ ≡ 0
unfolding zeros_at_end
zeros_none zero κ e = refl
zeros_none (suc k) κ e = rw (ne_eqb (κ % 5) 0 e) refl

no_digits_left : (κ : ℕ) → zeros_at_end 0 κ ≡ 0
unfolding zeros_at_end
no_digits_left κ = refl

pub zeros_most : (k κ : ℕ) → zeros_at_end k κ ≤ k
zeros_most zero κ = let e = no_digits_left κ in omega arith
zeros_most (suc k) κ =
    equal (κ % 5) 0
    (λ e. let l = zeros_more k κ e in let h = zeros_most k (κ / 5) in omega arith)
    (λ e. let l = zeros_none (suc k) κ e in omega arith)

-- so a block has no more keys than the map
pub keys_most : (m κ : ℕ) → 5 ^ zeros_at_end m κ ≤ 5 ^ m
keys_most m κ = five_le m (zeros_most m κ)

-- all digits of the root are
pub zeros_root : (m : ℕ) → zeros_at_end m 0 ≡ m
unfolding zeros_at_end
zeros_root zero = refl
zeros_root (suc m) = ap suc (zeros_root m)

-- and a number is a multiple of the power that goes with them
pub zeros_divide : (k κ : ℕ) → κ % 5 ^ zeros_at_end k κ ≡ 0
zeros_divide zero κ = ap (λ n. κ % 5 ^ n) (no_digits_left κ) ∙ omega arith
zeros_divide (suc k) κ =
    equal (κ % 5) 0
    (λ e.
    let i = zeros_divide k (κ / 5) in
    ap (λ n. κ % 5 ^ n) (zeros_more k κ e)
    ∙ ap (λ x. κ % x) (pow-suc 5 (zeros_at_end k (κ / 5)))
    ∙ mod-mul κ {m = 5 ^ zeros_at_end k (κ / 5)} {c = 5} (five_pos (zeros_at_end k (κ / 5))) (lit< tt)
    ∙ omega (arith, ap (λ x. x * 5) i))
    (λ e. ap (λ n. κ % 5 ^ n) (zeros_none (suc k) κ e) ∙ omega arith)

-- ---- found digit by digit

pub zeros_start : (m κ : ℕ) → 0 + zeros_at_end (m - 0) κ ≡ zeros_at_end m κ
zeros_start m κ = let e : m - 0 ≡ m = omega arith in let l = ap (λ k. zeros_at_end k κ) e in omega arith

module _ (m κ count rest : ℕ) (so_far : count + zeros_at_end (m - count) rest ≡ zeros_at_end m κ) where
  pub zeros_turn : count < m → rest % 5 ≡ 0 → (count + 1) + zeros_at_end (m - (count + 1)) (rest / 5) ≡ zeros_at_end m κ
  zeros_turn h e =
      let one : suc (m - (count + 1)) ≡ m - count = omega arith in
      let l = sym (zeros_more (m - (count + 1)) rest e) ∙ ap (λ k. zeros_at_end k rest) one in
      omega arith

  pub zeros_stop : (rest % 5 ≡ 0 → ⊥) → count ≡ zeros_at_end m κ
  zeros_stop e = let l = zeros_none (m - count) rest e in omega arith

  pub zeros_end : m ≤ count → count ≡ zeros_at_end m κ
  zeros_end h =
      let z : m - count ≡ 0 = omega arith in
      let l = ap (λ k. zeros_at_end k rest) z ∙ no_digits_left rest in
      omega arith

-- ---- of a valid key

-- as many zeros as levels below the block
pub zeros_height : (m κ : ℕ) → valid_key m κ ≡ true → zeros_at_end m κ ≡ height_of m κ
unfolding height_of
zeros_height zero κ valid = let e = no_digits_left κ in omega arith
zeros_height (suc k) κ valid =
    let below = valid_below (suc k) κ valid in
    equal (κ % 5) 0
    (λ none.
    let l = level_last_zero k κ below none in
    let n = level_most k (κ / 5) in
    let h = zeros_height k (κ / 5) (sym (valid_last_zero k κ below none) ∙ valid) in
    let z = zeros_more k κ none in
    omega arith)
    (λ some.
    let l = eqb-true (level_of (suc k) κ) (suc k) (full_last_digit k κ below some ∙ sym (valid_last_digit k κ below some) ∙ valid) in
    let z = zeros_none (suc k) κ some in
    omega arith)

-- past the zeros at its end a number has as many digits less
pub zeros_rest : (m κ : ℕ) → κ < 5 ^ m → κ / 5 ^ zeros_at_end m κ < 5 ^ (m - zeros_at_end m κ)
zeros_rest m κ below =
    let most = zeros_most m κ in
    let all : m ≡ (m - zeros_at_end m κ) + zeros_at_end m κ = omega arith in
    (div-lt_iff_lt-mul (five_pos (zeros_at_end m κ))).1 (let e = ap (λ k. 5 ^ k) all ∙ pow-add 5 (m - zeros_at_end m κ) (zeros_at_end m κ) in omega arith)

-- past the zeros at its end a number is a key's exactly when no digit is 0
pub zeros_valid : (m κ : ℕ) → κ < 5 ^ m → valid_key m κ ≡ eqb (level_of (m - zeros_at_end m κ) (κ / 5 ^ zeros_at_end m κ)) (m - zeros_at_end m κ)
zeros_valid zero κ below = valid_over 0 κ (omega arith) below ∙ sym (full_over (0 - zeros_at_end 0 κ) (κ / 5 ^ zeros_at_end 0 κ) (omega arith))
zeros_valid (suc k) κ below =
    equal (κ % 5) 0
    (λ none.
    let z : zeros_at_end (suc k) κ ≡ suc (zeros_at_end k (κ / 5)) = zeros_more k κ none in
    let left : suc k - zeros_at_end (suc k) κ ≡ k - zeros_at_end k (κ / 5) = omega arith in
    let rest : κ / 5 ^ zeros_at_end (suc k) κ ≡ κ / 5 / 5 ^ zeros_at_end k (κ / 5) = ap (λ n. κ / 5 ^ n) z ∙ ap (λ x. κ / x) (pow-suc 5 (zeros_at_end k (κ / 5)) ∙ mul_comm (5 ^ zeros_at_end k (κ / 5)) 5) ∙ sym (div-div-eq-div-mul κ 5 (5 ^ zeros_at_end k (κ / 5))) in
    valid_last_zero k κ below none
    ∙ zeros_valid k (κ / 5) (fifth_below k κ below)
    ∙ sym (ap₂ (λ n x. eqb (level_of n x) n) left rest))
    (λ some.
    let z : zeros_at_end (suc k) κ ≡ 0 = zeros_none (suc k) κ some in
    let left : suc k - zeros_at_end (suc k) κ ≡ suc k = omega arith in
    let rest : κ / 5 ^ zeros_at_end (suc k) κ ≡ κ = ap (λ n. κ / 5 ^ n) z ∙ omega arith in
    valid_last_digit k κ below some
    ∙ sym (full_last_digit k κ below some)
    ∙ sym (ap₂ (λ n x. eqb (level_of n x) n) left rest))

-- and so as many keys as the zeros say
pub keys_height : (m κ : ℕ) → valid_key m κ ≡ true → 5 ^ zeros_at_end m κ ≡ 5 ^ height_of m κ
keys_height m κ valid = ap (λ k. 5 ^ k) (zeros_height m κ valid)
