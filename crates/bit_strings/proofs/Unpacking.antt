-- Bits into bytes and back: what is packed and unpacked again is the same bits with spare zeros after them, and what is unpacked packs into the same
-- bytes. Rests on Bytes and Bitwise.
use Prim.Native.Nat.{ℕ, zero, suc, ◌+◌, ◌-◌, ◌*◌, ◌/◌, ◌%◌, ◌^◌, ◌≤◌, ◌<◌}
use mathlib.Core.Path.{◌≡◌, refl, sym, ap, ap₂, ◌∙◌}
use mathlib.Core.Bool.{Bool, true, false, cond, not, false≢true}
use mathlib.Core.List.{List, [], ◌∷◌, ◌++◌}
use native.Mathlib.Nat.{zero-add, pow-succ', pow-suc, mod-lt, mod-eq_of_lt, zero-mul, one-mul, mul_assoc, add-mul-div_right}
use native.Mathlib.Omega.{arith}
use lib.ListN.{length, get_or, drop, length-append}
use lib.Seq.{drop_at, get_or-drop, drop-drop}
use lib.Dec.{eqb, leb}
use lib.Arith.{mod-mul, digits_div}
use lib.Pow.{pow_pos, pow-add}
use borrow.Author.Tests.{not-true, leb-false}
use Rattle.keys.proofs.Cases.{decide, and_left, and_right, neither_left, neither_right}
use Rattle.definitions.specs.BitStrings.{high_first, packed_in, bytes_for, packed, bits_of_byte, bits_in, any_set}
use Rattle.laws.proofs.FileBytes.{Bytes, no_byte, byte}
use Rattle.bit_strings.specs.Steps.{is_spare}
use Rattle.bit_strings.proofs.Bytes.{length-byte, length-bits}
use Rattle.bit_strings.proofs.Bitwise.{high_suc}

-- ---- spare bits count for nothing

-- two strings with the same bits, where a bit past the end is zero
abbrev Alike : List Bool → List Bool → Type 0
Alike l l' = (i : ℕ) → get_or l i false ≡ get_or l' i false

alike-drop : (n : ℕ) (l l' : List Bool) → Alike l l' → Alike (drop n l) (drop n l')
alike-drop n l l' h i = get_or-drop n l i false ∙ h (n + i) ∙ sym (get_or-drop n l' i false)

high_none : (l : List Bool) → high_first 0 l ≡ 0
unfolding high_first
high_none l = refl

high_alike : (k : ℕ) (l l' : List Bool) → Alike l l' → high_first k l ≡ high_first k l'
high_alike zero l l' h = high_none l ∙ sym (high_none l')
high_alike (suc k) l l' h =
    high_suc k l
    ∙ ap₂ (λ b r. cond b 1 0 * 2 ^ k + r) (h 0) (high_alike k (drop 1 l) (drop 1 l') (alike-drop 1 l l' h))
    ∙ sym (high_suc k l')

packed_alike : (n : ℕ) (l l' : List Bool) → Alike l l' → packed_in n l ≡ packed_in n l'
unfolding packed_in
packed_alike zero l l' h = refl
packed_alike (suc n) l l' h = ap₂ (λ b r. b ∷ r) (high_alike 8 l l' h) (packed_alike n (drop 8 l) (drop 8 l') (alike-drop 8 l l' h))

none-set : (l : List Bool) → any_set l ≡ false → (i : ℕ) → get_or l i false ≡ false
unfolding any_set
none-set [] e i = refl
none-set (b ∷ l) e zero = neither_left b (any_set l) e
none-set (b ∷ l) e (suc i) = none-set l (neither_right b (any_set l) e) i

spare_unset : (l : List Bool) → is_spare l ≡ true → any_set l ≡ false
unfolding is_spare
spare_unset l e = not_true' (any_set l) (and_right (not (leb 8 (length l))) (not (any_set l)) e)
  where
    not_true' : (b : Bool) → not b ≡ true → b ≡ false
    not_true' true e = absurd (false≢true e)
    not_true' false e = refl

spare_short : (l : List Bool) → is_spare l ≡ true → length l < 8
unfolding is_spare
spare_short l e = leb-false 8 (length l) (not-true (leb 8 (length l)) (and_left (not (leb 8 (length l))) (not (any_set l)) e))

alike_spare : (l rest : List Bool) → is_spare rest ≡ true → Alike (l ++ rest) l
alike_spare [] rest e i = none-set rest (spare_unset rest e) i
alike_spare (b ∷ l) rest e zero = refl
alike_spare (b ∷ l) rest e (suc i) = alike_spare l rest e i

-- ---- bytes, their bits, and the bytes again

high_byte : (k b : ℕ) (rest : List Bool) → high_first k (bits_of_byte k b ++ rest) ≡ b % 2 ^ k
unfolding high_first bits_of_byte
high_byte zero b rest = omega arith
high_byte (suc k) b rest =
    let parts : b % 2 ^ suc k ≡ (b / 2 ^ k % 2) * 2 ^ k + b % 2 ^ k = ap (λ x. b % x) (pow-succ' 2 k) ∙ mod-mul b (omega arith) (pow_pos k) in
    ap₂ ◌+◌ (digit (b / 2 ^ k % 2) (mod-lt (b / 2 ^ k) (omega arith)) (2 ^ k)) (high_byte k b rest) ∙ sym parts
  where
    digit : (d : ℕ) → d < 2 → (p : ℕ) → cond (eqb d 1) p 0 ≡ d * p
    digit zero h p = sym (zero-mul p)
    digit (suc zero) h p = sym (one-mul p)
    digit (suc (suc d)) h p = absurd (omega arith)

pub packed_bytes : {bytes : List ℕ} → Bytes bytes → packed_in (length bytes) (bits_in bytes) ≡ bytes
unfolding packed_in bits_in
packed_bytes no_byte = refl
packed_bytes (byte {b} {bs} small more) =
    ap₂ (λ x r. x ∷ r)
    (high_byte 8 b (bits_in bs) ∙ mod-eq_of_lt small)
    (ap (packed_in (length bs)) (drop_at (bits_of_byte 8 b) (bits_in bs) 8 (length-byte 8 b)) ∙ packed_bytes more)

-- bytes whose bits are a string and then spare bits are the string's bytes
pub packed_back : {bytes : List ℕ} → Bytes bytes → (l rest : List Bool) → bits_in bytes ≡ l ++ rest → is_spare rest ≡ true → packed l ≡ bytes
unfolding packed
packed_back {bytes} small l rest is spare =
    let short = spare_short rest spare in
    let many : 8 * length bytes ≡ length l + length rest = sym (length-bits bytes) ∙ ap length is ∙ length-append l rest in
    let count : bytes_for (length l) ≡ length bytes = omega arith in
    ap (λ n. packed_in n l) count
    ∙ sym (packed_alike (length bytes) (l ++ rest) l (alike_spare l rest spare))
    ∙ ap (packed_in (length bytes)) (sym is)
    ∙ packed_bytes small

-- ---- bits, their bytes, and the bits again

-- the first n bits, with zeros past the end
unfoldable pub leading_bits : ℕ → List Bool → List Bool
leading_bits zero l = []
leading_bits (suc n) l = get_or l 0 false ∷ leading_bits n (drop 1 l)

high_small : (k : ℕ) (l : List Bool) → high_first k l < 2 ^ k
high_small zero l = let e = high_none l in omega arith
high_small (suc k) l =
    let e = high_suc k l in
    let h = high_small k (drop 1 l) in
    let p = pow-suc 2 k in
    decide (get_or l 0 false)
    (λ t. let f = ap (λ b. cond b 1 0 * 2 ^ k) t in let g = one-mul (2 ^ k) in omega arith)
    (λ t. let f = ap (λ b. cond b 1 0 * 2 ^ k) t in let g = zero-mul (2 ^ k) in omega arith)

-- a digit far up does not reach a lower slot
slot_low : (c r n k : ℕ) → k < n → (c * 2 ^ n + r) / 2 ^ k % 2 ≡ r / 2 ^ k % 2
slot_low c r n k h =
    let j = n - suc k in
    let up : n ≡ suc j + k = omega arith in
    let power : 2 ^ n ≡ 2 ^ suc j * 2 ^ k = ap (λ x. 2 ^ x) up ∙ pow-add 2 (suc j) k in
    let product : c * 2 ^ n ≡ c * 2 ^ suc j * 2 ^ k = ap (λ x. c * x) power ∙ sym (mul_assoc c (2 ^ suc j) (2 ^ k)) in
    let even : c * 2 ^ suc j ≡ c * 2 ^ j * 2 = ap (λ x. c * x) (pow-suc 2 j) ∙ sym (mul_assoc c (2 ^ j) 2) in
    let turned : c * 2 ^ n + r ≡ r + c * 2 ^ suc j * 2 ^ k = omega arith in
    let quotient : (c * 2 ^ n + r) / 2 ^ k ≡ r / 2 ^ k + c * 2 ^ suc j = ap (λ x. x / 2 ^ k) turned ∙ add-mul-div_right r (c * 2 ^ suc j) (pow_pos k) in
    ap (λ x. x % 2) quotient ∙ odd (r / 2 ^ k) (c * 2 ^ j) (c * 2 ^ suc j) even
  where
    odd : (a w x : ℕ) → x ≡ w * 2 → (a + x) % 2 ≡ a % 2
    odd a w x e = omega arith

low_bits : (k c r n : ℕ) → k ≤ n → bits_of_byte k (c * 2 ^ n + r) ≡ bits_of_byte k r
unfolding bits_of_byte
low_bits zero c r n h = refl
low_bits (suc k) c r n h = ap₂ (λ d l. eqb d 1 ∷ l) (slot_low c r n k h) (low_bits k c r n (omega arith))

byte_back : (k : ℕ) (l : List Bool) → bits_of_byte k (high_first k l) ≡ leading_bits k l
unfolding bits_of_byte leading_bits
byte_back zero l = refl
byte_back (suc k) l =
    let c : ℕ = cond (get_or l 0 false) 1 0 in
    let r = high_first k (drop 1 l) in
    let split = high_suc k l in
    ap (λ v. bits_of_byte (suc k) v) split
    ∙ ap₂ (λ d t. eqb (d % 2) 1 ∷ t) (digits_div c (high_small k (drop 1 l))) (low_bits k c r k (omega arith) ∙ byte_back k (drop 1 l))
    ∙ ap (λ b. b ∷ leading_bits k (drop 1 l)) (told (get_or l 0 false))
  where
    told : (b : Bool) → eqb (cond {A = ℕ} b 1 0 % 2) 1 ≡ b
    told true = refl
    told false = refl

first_add : (a b : ℕ) (l : List Bool) → leading_bits (a + b) l ≡ leading_bits a l ++ leading_bits b (drop a l)
unfolding leading_bits
first_add zero b l = ap (λ n. leading_bits n l) (zero-add b)
first_add (suc a) b l =
    let e : suc a + b ≡ suc (a + b) = omega arith in
    ap (λ n. leading_bits n l) e
    ∙ ap (λ r. get_or l 0 false ∷ r) (first_add a b (drop 1 l) ∙ ap (λ r. leading_bits a (drop 1 l) ++ leading_bits b r) (drop-drop a 1 l ∙ ap (λ n. drop n l) one))
  where
    one : 1 + a ≡ suc a
    one = omega arith

bits_packed : (n : ℕ) (l : List Bool) → bits_in (packed_in n l) ≡ leading_bits (8 * n) l
unfolding bits_in packed_in leading_bits
bits_packed zero l = refl
bits_packed (suc n) l =
    let e : 8 + 8 * n ≡ 8 * suc n = omega arith in
    ap₂ ◌++◌ (byte_back 8 l) (bits_packed n (drop 8 l)) ∙ sym (first_add 8 (8 * n) l) ∙ ap (λ k. leading_bits k l) e

first_all : (n : ℕ) (l : List Bool) → length l ≤ n → leading_bits n l ≡ l ++ leading_bits (n - length l) []
unfolding leading_bits
first_all n [] h = ap (λ k. leading_bits k []) (sub_none n)
  where
    sub_none : (n : ℕ) → n ≡ n - 0
    sub_none n = omega arith
first_all zero (b ∷ l) h = absurd (omega arith)
first_all (suc n) (b ∷ l) h =
    let e : n - length l ≡ suc n - suc (length l) = omega arith in
    ap (λ r. b ∷ r) (first_all n l (omega arith) ∙ ap (λ k. l ++ leading_bits k []) e)

pub zeros_spare : (r : ℕ) → r < 8 → is_spare (leading_bits r []) ≡ true
unfolding is_spare any_set leading_bits
zeros_spare zero h = refl
zeros_spare (suc zero) h = refl
zeros_spare (suc (suc zero)) h = refl
zeros_spare (suc (suc (suc zero))) h = refl
zeros_spare (suc (suc (suc (suc zero)))) h = refl
zeros_spare (suc (suc (suc (suc (suc zero))))) h = refl
zeros_spare (suc (suc (suc (suc (suc (suc zero)))))) h = refl
zeros_spare (suc (suc (suc (suc (suc (suc (suc zero))))))) h = refl
zeros_spare (suc (suc (suc (suc (suc (suc (suc (suc r)))))))) h = absurd (omega arith)

-- a string that was packed is there again, with spare bits after it
pub record Again (l : List Bool) : Type 0 where
  pub rest : List Bool
  pub is : bits_in (packed l) ≡ l ++ rest
  pub spare : is_spare rest ≡ true

pub again : (l : List Bool) → Again l
unfolding packed
again l = record {
  rest = leading_bits (8 * bytes_for (length l) - length l) [];
  is = bits_packed (bytes_for (length l)) l ∙ first_all (8 * bytes_for (length l)) l (omega arith);
  spare = zeros_spare (8 * bytes_for (length l) - length l) (omega arith);
}
