-- A level of a pixel's key by the bits of its row and column: the bit of the row says south, that of the column east, and the bits below
-- are the pixel's place inside the quadrant. Rests on Descent.
use Prim.Native.Nat.{ℕ, suc, ◌+◌, ◌*◌, ◌/◌, ◌%◌, ◌^◌, ◌≤◌, ◌<◌}
use mathlib.Core.Path.{◌≡◌, ap, ap₂, ◌∙◌}
use native.Mathlib.Omega.{arith}
use native.Mathlib.Nat.{pow-suc, mod-lt}
use lib.Arith.{mod-mul}
use lib.Dec.{lit<}
use Rattle.keys.proofs.Cases.{split}
use lib.Pow.{pow_pos}
use borrow.Author.Tests.{lt-ltb, le-ltb}
use Rattle.keys.specs.Block.{pixel_key, quadrant_digit, in_quadrant}
use Rattle.keys.proofs.Descent.{pixel_goes}

-- a bit of a number at a level
abbrev pub binary_digit : (k x : ℕ) → ℕ
binary_digit k x = x / 2 ^ k % 2

-- the lower bits of a number, with one more: that bit's worth, and the others
halves : (k x : ℕ) → x % 2 ^ suc k ≡ binary_digit k x * 2 ^ k + x % 2 ^ k
halves k x = ap (λ (y : ℕ). x % y) (omega (arith, pow-suc 2 k)) ∙ mod-mul x (lit< tt) (pow_pos k)

-- a bit is 0 or 1, so its worth in a square is nothing or the side
record Halved (side bit low x : ℕ) : Type 0 where
  north : x < side → bit ≡ 0
  south : side ≤ x → bit ≡ 1
  within : in_quadrant side x ≡ low

halved : (side bit low x : ℕ) → bit < 2 → low < side → x ≡ bit * side + low → Halved side bit low x
halved side bit low x two h e =
    split bit 1
    (λ none.
    let b : bit ≡ 0 = omega arith in
    let f : x ≡ 0 * side + low = e ∙ ap (λ (y : ℕ). y * side + low) b in
    let below : x < side = omega arith in
    record { north = λ _. b; south = λ g. absurd (omega arith); within = simp (lt-ltb _ _ below) (omega arith) })
    (λ one.
    let b : bit ≡ 1 = omega arith in
    let f : x ≡ 1 * side + low = e ∙ ap (λ (y : ℕ). y * side + low) b in
    let above : side ≤ x = omega arith in
    record { north = λ g. absurd (omega arith); south = λ _. b; within = simp (le-ltb _ _ above) (omega arith) })

-- so the two bits tell the digit
digit_by_bits : {side south east low narrow row column : ℕ}
    → Halved side south low row
    → Halved side east narrow column
    → quadrant_digit side row column ≡ 1 + east + south * 2
digit_by_bits {side} {row = row} {column = column} r c =
    split row side
    (λ n.
    let a = r.north n in
    split column side
    (λ w. let b = c.north w in simp (lt-ltb _ _ n, lt-ltb _ _ w) (omega arith))
    (λ e. let b = c.south e in simp (lt-ltb _ _ n, le-ltb _ _ e) (omega arith)))
    (λ s.
    let a = r.south s in
    split column side
    (λ w. let b = c.north w in simp (le-ltb _ _ s, lt-ltb _ _ w) (omega arith))
    (λ e. let b = c.south e in simp (le-ltb _ _ s, le-ltb _ _ e) (omega arith)))

-- the lower bits of a number in the square of its level
half : (k x : ℕ) → Halved (2 ^ k) (binary_digit k x) (x % 2 ^ k) (x % 2 ^ suc k)
half k x = halved (2 ^ k) (binary_digit k x) (x % 2 ^ k) (x % 2 ^ suc k) (mod-lt _ (lit< tt)) (mod-lt x (pow_pos k)) (halves k x)

-- the key of a pixel in a square of one level more
pub pixel_bits : (k row column : ℕ)
    → pixel_key (suc k) (row % 2 ^ suc k) (column % 2 ^ suc k)
    ≡ (1 + binary_digit k column + binary_digit k row * 2) * 5 ^ k + pixel_key k (row % 2 ^ k) (column % 2 ^ k)
pixel_bits k row column =
    pixel_goes k (row % 2 ^ suc k) (column % 2 ^ suc k)
    ∙ ap (λ (d : ℕ). d * 5 ^ k + pixel_key k (in_quadrant (2 ^ k) (row % 2 ^ suc k)) (in_quadrant (2 ^ k) (column % 2 ^ suc k))) (digit_by_bits (half k row) (half k column))
    ∙ ap₂ (λ (r c : ℕ). (1 + binary_digit k column + binary_digit k row * 2) * 5 ^ k + pixel_key k r c) (half k row).within (half k column).within
