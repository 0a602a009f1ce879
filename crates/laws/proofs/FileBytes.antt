-- Numbers as bytes, high byte first: what is written reads back, and what is read writes back (specification S15.5). Rests on the laws of
-- division.
use Prim.Native.Nat.{ℕ, zero, suc, ◌+◌, ◌*◌, ◌/◌, ◌%◌, ◌^◌, ◌<◌}
use mathlib.Core.Path.{◌≡◌, refl, ap, ap₂, ◌∙◌}
use mathlib.Core.List.{List, [], ◌∷◌}
use native.Mathlib.Nat.{pow-succ', mul_assoc, mod-eq_of_lt, one-le-pow, zero-add, zero-mul, add-mul}
use native.Mathlib.Omega.{arith}
use lib.ListN.{length, get_or, take, drop}
use lib.Arith.{mod-mul, digits_lt, digits_div, digits_mod}
use lib.Dec.{lit<}
use Rattle.definitions.specs.File.{bytes_of, number_after, number_of}

-- every number of the list is a byte
pub data Bytes : List ℕ → Type 0 where
  no_byte : Bytes []
  byte : {b : ℕ} {bs : List ℕ} → b < 256 → Bytes bs → Bytes (b ∷ bs)

-- numbers that are below 256 at each place are bytes
pub bytes_at_places : (bs : List ℕ) → ((i : ℕ) → get_or bs i 0 < 256) → Bytes bs
bytes_at_places [] each = no_byte
bytes_at_places (b ∷ bs) each = byte (each 0) (bytes_at_places bs (λ i. each (suc i)))

-- the first of some bytes are bytes
pub bytes_take : (n : ℕ) {bs : List ℕ} → Bytes bs → Bytes (take n bs)
bytes_take zero h = no_byte
bytes_take (suc n) no_byte = no_byte
bytes_take (suc n) (byte b h) = byte b (bytes_take n h)

-- bytes without the first of them are bytes
pub bytes_drop : (n : ℕ) {bs : List ℕ} → Bytes bs → Bytes (drop n bs)
bytes_drop zero h = h
bytes_drop (suc n) no_byte = no_byte
bytes_drop (suc n) (byte b h) = bytes_drop n h

power_positive : (k : ℕ) → 0 < 256 ^ k
power_positive k = one-le-pow k 256 (lit< tt)

-- a number in k bytes has k bytes
pub length-bytes : (k x : ℕ) → length (bytes_of k x) ≡ k
unfolding bytes_of
length-bytes zero x = refl
length-bytes (suc k) x = ap suc (length-bytes k x)

-- a number and then k bytes of another
number_after_bytes : (k a x : ℕ) → number_after a (bytes_of k x) ≡ a * 256 ^ k + x % 256 ^ k
unfolding bytes_of number_after
number_after_bytes zero a x = omega arith
number_after_bytes (suc k) a x =
    let ih = number_after_bytes k (a * 256 + x / 256 ^ k % 256) x in
    let e = add-mul (a * 256) (x / 256 ^ k % 256) (256 ^ k) in
    let g = mul_assoc a 256 (256 ^ k) in
    let d = mod-mul x {m = 256} {c = 256 ^ k} (lit< tt) (power_positive k) in
    rw pow-succ' (omega arith)

-- reading the bytes of a number that they hold gives the number
pub number_of_bytes : (k x : ℕ) → x < 256 ^ k → number_of (bytes_of k x) ≡ x
unfolding number_of
number_of_bytes k x h = number_after_bytes k 0 x ∙ omega (arith, mod-eq_of_lt h, zero-mul (256 ^ k))

-- a number before the bytes counts as often as they have values
number_before : (a : ℕ) (bs : List ℕ) → number_after a bs ≡ a * 256 ^ length bs + number_of bs
unfolding number_of number_after
number_before a [] = omega arith
number_before a (b ∷ bs) =
    let e = number_before (a * 256 + b) bs in
    let e₀ = number_before (0 * 256 + b) bs in
    let g = add-mul (a * 256) b (256 ^ length bs) in
    let g₀ = add-mul (0 * 256) b (256 ^ length bs) in
    let h = mul_assoc a 256 (256 ^ length bs) in
    rw pow-succ' (omega arith)

-- the first byte counts as often as the others have values
pub number_first : (b : ℕ) (bs : List ℕ) → number_of (b ∷ bs) ≡ b * 256 ^ length bs + number_of bs
unfolding number_of number_after
number_first b bs = rw zero-add (number_before b bs)

none_below : number_of [] < 1
unfolding number_of number_after
none_below = lit< tt

-- the number that k bytes stand for is below 256 ^ k
pub number_below : {bs : List ℕ} → Bytes bs → number_of bs < 256 ^ length bs
number_below no_byte = none_below
number_below (byte {b} {bs} h r) =
    let g = digits_lt {q = b} {m = 256} h (number_below r) in
    let e = number_first b bs in
    rw pow-succ' (omega arith)

-- whatever number stands before bytes, its last bytes are they
bytes_after : (a : ℕ) {bs : List ℕ} → Bytes bs → bytes_of (length bs) (number_after a bs) ≡ bs
unfolding bytes_of number_after
bytes_after a no_byte = refl
bytes_after a (byte {b} {bs} h r) =
    let first : number_after (a * 256 + b) bs / 256 ^ length bs ≡ a * 256 + b
    = ap (λ x. x / 256 ^ length bs) (number_before (a * 256 + b) bs) ∙ digits_div (a * 256 + b) (number_below r) in
    ap₂ (λ x y. x ∷ y) (ap (λ x. x % 256) first ∙ digits_mod a h) (bytes_after (a * 256 + b) r)

-- writing the number that bytes stand for, in as many bytes, gives the bytes
pub bytes_of_number : {bs : List ℕ} → Bytes bs → bytes_of (length bs) (number_of bs) ≡ bs
unfolding number_of
bytes_of_number h = bytes_after 0 h
