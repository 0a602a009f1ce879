-- `Key::around` meets its contract: after each turn the number is the key's digits so far, and the pixel's lower bits have the others.
use Prim.Native.Nat.{ℕ, suc, ◌+◌, ◌-◌, ◌*◌, ◌/◌, ◌%◌, ◌^◌, ◌≤◌, ◌<◌}
use mathlib.Core.Path.{◌≡◌, sym, ap, ap₂, ◌∙◌}
use native.Mathlib.Omega.{arith}
use native.Mathlib.Nat.{pow-suc, mod-lt, mod-eq_of_lt, mul_assoc, mul_comm, add-mul, div-mul-le_self}
use lib.Arith.{digits_div}
use lib.Dec.{lit<}
use Rattle.keys.specs.Block.{pixel_key, key_around}
use Rattle.keys.proofs.Powers.{five_pos, five_le}
use Rattle.keys.proofs.Pixel.{pixel_key-lt}
use Rattle.keys.proofs.PixelBits.{binary_digit, pixel_bits}
use Rattle.keys.proofs.Key.around.Invariants.{Passed}
use Rattle.keys.proofs.Key.around.Goals as goal
use Rattle.keys.proofs.Key.around.Goals.{After-power_of_five-step}

begins : (m row column last : ℕ) → last ≤ m → row < 2 ^ m → column < 2 ^ m → Passed m row column last 0 m
begins m row column last far low narrow =
    record {
      far = far;
      small = five_pos (m - m);
      found = omega (arith, ap₂ (pixel_key m) (mod-eq_of_lt low) (mod-eq_of_lt narrow));
    }

two : 0 < 2
two = lit< tt

-- the digit that a turn adds, by its two bits
abbrev digit_of : (k row column : ℕ) → ℕ
digit_of k row column = 1 + binary_digit k column + binary_digit k row * 2

module _ {m row column last number left : ℕ} (p : Passed m row column last number left) (h : last < left) (within : left ≤ m) where
  levels : left ≡ suc (left - 1)
  levels = omega arith

  four : digit_of (left - 1) row column ≤ 4
  four =
      let s = mod-lt (row / 2 ^ (left - 1)) two in
      let e = mod-lt (column / 2 ^ (left - 1)) two in
      omega arith

  small_again : number * 5 + digit_of (left - 1) row column < 5 ^ (m - (left - 1))
  small_again =
      let q : m - (left - 1) ≡ suc (m - left) = omega arith in
      let t = ap (λ (k : ℕ). 5 ^ k) q ∙ pow-suc 5 (m - left) in
      let d = four in
      omega (arith, p.small)

  goes : Passed m row column last (number * 5 + digit_of (left - 1) row column) (left - 1)
  goes =
      record {
        far = omega arith;
        small = small_again;
        found = p.found ∙ ap (λ (k : ℕ). number * 5 ^ k + pixel_key k (row % 2 ^ k) (column % 2 ^ k)) levels ∙ ap (λ (x : ℕ). number * 5 ^ suc (left - 1) + x) (pixel_bits (left - 1) row column) ∙ joined _;
      }
    where
      joined : (x : ℕ) → number * 5 ^ suc (left - 1) + (digit_of (left - 1) row column * 5 ^ (left - 1) + x) ≡ (number * 5 + digit_of (left - 1) row column) * 5 ^ (left - 1) + x
      joined x =
          ap (λ (y : ℕ). number * y + (digit_of (left - 1) row column * 5 ^ (left - 1) + x)) (pow-suc 5 (left - 1))
          ∙ let a = add-mul (number * 5) (digit_of (left - 1) row column) (5 ^ (left - 1)) in
          let b = mul_assoc number 5 (5 ^ (left - 1)) in
          let c = mul_comm 5 (5 ^ (left - 1)) in
          let d = ap (λ (y : ℕ). number * y) c in
          omega arith

ends : {m row column last number left : ℕ} → Passed m row column last number left → left ≤ last → number * 5 ^ last ≡ pixel_key m row column / 5 ^ last * 5 ^ last
ends {m} {row} {column} {last} {number} {left} p h =
    let e : left ≡ last = omega (arith, p.far) in
    let f = p.found ∙ ap (λ (k : ℕ). number * 5 ^ k + pixel_key k (row % 2 ^ k) (column % 2 ^ k)) e in
    sym (ap (λ (x : ℕ). x / 5 ^ last * 5 ^ last) f ∙ ap (λ (x : ℕ). x * 5 ^ last) (digits_div number (pixel_key-lt last (row % 2 ^ last) (column % 2 ^ last))))

-- the digits so far stay below 5 ^ 10
fits : {m row column last number left : ℕ} → m ≤ 10 → Passed m row column last number left → last < left → left ≤ m → number * 5 + digit_of (left - 1) row column < 5 ^ 10
fits {m} {left = left} ten p h within = let s = small_again p h within in let g : m - (left - 1) ≤ 10 = omega arith in let f = five_le 10 g in omega arith

pub loop-height-init : goal.loop-height-init
loop-height-init c = begins _ _ _ _ (omega arith) c.requires.2 c.requires.3

pub overflow_mul-number : goal.overflow_mul-number
overflow_mul-number c = let h = fits c.requires.0 c.loop-height.invariant c.loop-height-test.true c.loop-height.auto.height in omega arith

pub overflow_add-number-in-loop-height-2 : goal.overflow_add-number-in-loop-height-2
overflow_add-number-in-loop-height-2 c = let h = fits c.requires.0 c.loop-height.invariant c.loop-height-test.true c.loop-height.auto.height in omega arith

pub loop-height-preserved : goal.loop-height-preserved
loop-height-preserved c = goes c.loop-height.invariant c.loop-height-test.true c.loop-height.auto.height

-- the key, as the definition has it
key : (c : After-power_of_five-step) → c.loop-height.number * c.power_of_five-step.result ≡ key_around c.args.m c.args.level c.args.row c.args.column
unfolding key_around
key c = ap (λ (x : ℕ). c.loop-height.number * x) c.power_of_five-step.ensures ∙ ends c.loop-height.invariant c.loop-height-test.false

around_fits : (m level row column : ℕ) → m ≤ 10 → key_around m level row column < 5 ^ 10
unfolding key_around
around_fits m level row column ten =
    let h = div-mul-le_self (pixel_key m row column) (5 ^ (m - level)) in
    let p = pixel_key-lt m row column in
    let f = five_le 10 ten in
    omega arith

pub overflow_mul-result : goal.overflow_mul-result
overflow_mul-result c =
    let a = c.before.before.before in
    let h = around_fits a.args.m a.args.level a.args.row a.args.column a.requires.0 in
    omega (arith, key c)

pub returns : goal.returns
returns c = key c
