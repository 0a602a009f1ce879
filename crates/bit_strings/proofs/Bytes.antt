-- The bits of a byte string by the place of the byte and the place in it: which bit comes next, and when what is left is spare. Rests on the laws of
-- lists and of division.
use Prim.Native.Nat.{ℕ, zero, suc, ◌+◌, ◌-◌, ◌*◌, ◌/◌, ◌%◌, ◌^◌, ◌≤◌, ◌<◌}
use mathlib.Core.Path.{◌≡◌, refl, sym, ap, ◌∙◌}
use mathlib.Core.Bool.{Bool, true, false, cond, not, ◌&&◌, ◌||◌}
use mathlib.Core.List.{List, [], ◌∷◌, ◌++◌, append-nil}
use native.Mathlib.Nat.{zero-add, pow-succ', mod-lt, zero-mul}
use native.Mathlib.Omega.{arith}
use lib.ListN.{length, get_or, drop, length-append, length-drop}
use lib.Seq.{drop-nil, drop-append-le, drop-append-add}
use lib.Dec.{leb, eqb}
use lib.Arith.{mod-mul}
use lib.Pow.{pow_pos}
use borrow.Author.Tests.{ne_eqb, eqb-true, eqb-false, le-leb, lt-leb}
use Rattle.keys.proofs.Cases.{decide}
use Rattle.definitions.specs.Bits.{has_slot}
use Rattle.definitions.specs.BitStrings.{bits_of_byte, bits_in, any_set}
use Rattle.bit_strings.specs.Steps.{next_bit, is_spare}

pub length-byte : (k byte : ℕ) → length (bits_of_byte k byte) ≡ k
unfolding bits_of_byte
length-byte zero byte = refl
length-byte (suc k) byte = ap suc (length-byte k byte)

-- a byte without its first bits
drop-byte : (t k n byte : ℕ) → n ≡ t + k → drop t (bits_of_byte n byte) ≡ bits_of_byte k byte
unfolding bits_of_byte
drop-byte zero k n byte e = ap (λ x. bits_of_byte x byte) (e ∙ zero-add k)
drop-byte (suc t) k zero byte e = absurd (omega arith)
drop-byte (suc t) k (suc n) byte e = drop-byte t k n byte (omega arith)

-- the bits from bit t of byte k on
bits_at : (bytes : List ℕ) (k t : ℕ) → k < length bytes → t < 8
    → drop (8 * k + t) (bits_in bytes) ≡ bits_of_byte (8 - t) (get_or bytes k 0) ++ bits_in (drop (suc k) bytes)
unfolding bits_in
bits_at [] k t h l = absurd (omega arith)
bits_at (b ∷ bytes) zero t h l =
    let same : 8 * 0 + t ≡ t = omega arith in
    let long : t ≤ length (bits_of_byte 8 b) = rw (length-byte 8 b) (omega arith) in
    ap (λ i. drop i (bits_of_byte 8 b ++ bits_in bytes)) same
    ∙ drop-append-le t (bits_of_byte 8 b) (bits_in bytes) long
    ∙ ap (λ x. x ++ bits_in bytes) (drop-byte t (8 - t) 8 b (omega arith))
bits_at (b ∷ bytes) (suc k) t h l =
    let same : 8 * suc k + t ≡ length (bits_of_byte 8 b) + (8 * k + t) = rw (length-byte 8 b) (omega arith) in
    ap (λ i. drop i (bits_of_byte 8 b ++ bits_in bytes)) same
    ∙ drop-append-add (bits_of_byte 8 b) (bits_in bytes) (8 * k + t)
    ∙ bits_at bytes k t (omega arith) l

-- past the last byte there are none
pub bits_past : (bytes : List ℕ) (k t : ℕ) → length bytes ≤ k → drop (8 * k + t) (bits_in bytes) ≡ []
unfolding bits_in
bits_past [] k t h = drop-nil (8 * k + t)
bits_past (b ∷ bytes) zero t h = absurd (omega arith)
bits_past (b ∷ bytes) (suc k) t h =
    let same : 8 * suc k + t ≡ length (bits_of_byte 8 b) + (8 * k + t) = rw (length-byte 8 b) (omega arith) in
    ap (λ i. drop i (bits_of_byte 8 b ++ bits_in bytes)) same
    ∙ drop-append-add (bits_of_byte 8 b) (bits_in bytes) (8 * k + t)
    ∙ bits_past bytes k t (omega arith)

abbrev pub bits_after : List ℕ → ℕ → List Bool
bits_after bytes i = drop i (bits_in bytes)

-- a place is a byte's and one in it
by_byte : (bytes : List ℕ) (i : ℕ) → bits_after bytes i ≡ bits_after bytes (8 * (i / 8) + i % 8)
by_byte bytes i = let e : i ≡ 8 * (i / 8) + i % 8 = omega arith in ap (bits_after bytes) e

worth : (d : ℕ) → d < 2 → cond (eqb d 1) 1 0 ≡ d
worth zero h = refl
worth (suc zero) h = refl
worth (suc (suc d)) h = absurd (omega arith)

next_in : (byte j n : ℕ) (rest : List Bool) → n ≡ suc j → next_bit (bits_of_byte n byte ++ rest) ≡ byte / 2 ^ j % 2
unfolding next_bit bits_of_byte
next_in byte j zero rest e = absurd (omega arith)
next_in byte j (suc n) rest e =
    let same : n ≡ j = omega arith in
    ap (λ x. cond (has_slot byte x) 1 0) same ∙ worth (byte / 2 ^ j % 2) (mod-lt (byte / 2 ^ j) (omega arith))

-- the bit at a place
pub bit_there : (bytes : List ℕ) (i : ℕ) → i / 8 < length bytes → get_or bytes (i / 8) 0 / 2 ^ (7 - i % 8) % 2 ≡ next_bit (bits_after bytes i)
bit_there bytes i h =
    sym (ap next_bit (by_byte bytes i ∙ bits_at bytes (i / 8) (i % 8) h (omega arith))
    ∙ next_in (get_or bytes (i / 8) 0) (7 - i % 8) (8 - i % 8) (bits_in (drop (suc (i / 8)) bytes)) (omega arith))

-- as it is told
pub bit_found : (bytes : List ℕ) (i : ℕ) → i / 8 < length bytes → cond (eqb (get_or bytes (i / 8) 0 / 2 ^ (7 - i % 8) % 2) 1) 1 0 ≡ next_bit (bits_after bytes i)
bit_found bytes i h = worth (get_or bytes (i / 8) 0 / 2 ^ (7 - i % 8) % 2) (mod-lt (get_or bytes (i / 8) 0 / 2 ^ (7 - i % 8)) (omega arith)) ∙ bit_there bytes i h

pub none_there : (bytes : List ℕ) (i : ℕ) → length bytes ≤ i / 8 → bits_after bytes i ≡ []
none_there bytes i h = by_byte bytes i ∙ bits_past bytes (i / 8) (i % 8) h

-- ---- what is left is spare

below_two : (d : ℕ) → d < 2 → (d ≡ 1 → ⊥) → d ≡ 0
below_two zero h e = refl
below_two (suc zero) h e = absurd (e refl)
below_two (suc (suc d)) h e = absurd (omega arith)

-- some bit is set where the number is not zero
any_byte : (k byte : ℕ) → any_set (bits_of_byte k byte) ≡ not (eqb (byte % 2 ^ k) 0)
unfolding any_set bits_of_byte
any_byte zero byte = let e : byte % 2 ^ 0 ≡ 0 = omega arith in rw e refl
any_byte (suc k) byte =
    let parts : byte % 2 ^ suc k ≡ (byte / 2 ^ k % 2) * 2 ^ k + byte % 2 ^ k = ap (λ x. byte % x) (pow-succ' 2 k) ∙ mod-mul byte (omega arith) (pow_pos k) in
    let above = pow_pos k in
    decide (eqb (byte / 2 ^ k % 2) 1)
    (λ e. let one = eqb-true (byte / 2 ^ k % 2) 1 e in
    let big : (byte / 2 ^ k % 2) * 2 ^ k + byte % 2 ^ k ≡ 1 * 2 ^ k + byte % 2 ^ k = ap (λ d. d * 2 ^ k + byte % 2 ^ k) one in
    ap (λ b. b || any_set (bits_of_byte k byte)) e ∙ sym (ap not (ne_eqb (byte % 2 ^ suc k) 0 (λ z. omega arith))))
    (λ e. let other = eqb-false (byte / 2 ^ k % 2) 1 e in
    let bound = mod-lt (byte / 2 ^ k) {m = 2} (omega arith) in
    let none : byte / 2 ^ k % 2 ≡ 0 = below_two (byte / 2 ^ k % 2) bound other in
    let small : (byte / 2 ^ k % 2) * 2 ^ k + byte % 2 ^ k ≡ byte % 2 ^ k = ap (λ d. d * 2 ^ k + byte % 2 ^ k) none ∙ (omega (arith, zero-mul (2 ^ k))) in
    ap (λ b. b || any_set (bits_of_byte k byte)) e ∙ any_byte k byte ∙ sym (ap (λ x. not (eqb x 0)) (parts ∙ small)))

pub spare_none : (l : List Bool) → l ≡ [] → is_spare l ≡ true
unfolding is_spare any_set
spare_none l e = ap is_spare e

spare_long : (l : List Bool) → 8 ≤ length l → is_spare l ≡ false
unfolding is_spare
spare_long l h = rw (le-leb 8 (length l) h) refl

pub length-bits : (bytes : List ℕ) → length (bits_in bytes) ≡ 8 * length bytes
unfolding bits_in
length-bits [] = refl
length-bits (b ∷ bytes) = length-append (bits_of_byte 8 b) (bits_in bytes) ∙ rw (length-byte 8 b, length-bits bytes) (omega arith)

-- how many bits are left
left-length : (bytes : List ℕ) (k t : ℕ) → k < length bytes → t < 8
    → length (bits_after bytes (8 * k + t)) ≡ (8 - t) + 8 * length (drop (suc k) bytes)
left-length bytes k t h l =
    ap length (bits_at bytes k t h l)
    ∙ length-append (bits_of_byte (8 - t) (get_or bytes k 0)) (bits_in (drop (suc k) bytes))
    ∙ rw (length-byte (8 - t) (get_or bytes k 0), length-bits (drop (suc k) bytes)) refl

no_more : (l : List ℕ) → length l ≡ 0 → l ≡ []
no_more [] e = refl
no_more (x ∷ l) e = absurd (omega arith)

append-none : (l : List Bool) → l ++ bits_in [] ≡ l
unfolding bits_in
append-none l = append-nil l

not_not : (b : Bool) → not (not b) ≡ b
not_not true = refl
not_not false = refl

module _ (bytes : List ℕ) (i : ℕ) (inside : i / 8 < length bytes) where
  many : length (bits_after bytes i) ≡ (8 - i % 8) + 8 * length (drop (suc (i / 8)) bytes)
  many = ap length (by_byte bytes i) ∙ left-length bytes (i / 8) (i % 8) inside (omega arith)

  -- a byte that nothing was read of
  pub spare_byte : i % 8 ≡ 0 → is_spare (bits_after bytes i) ≡ false
  spare_byte e = let h = many in spare_long (bits_after bytes i) (omega arith)

  -- a byte more than needed
  pub spare_more : i / 8 + 1 < length bytes → is_spare (bits_after bytes i) ≡ false
  spare_more e = let h = many in let d = length-drop (suc (i / 8)) bytes in spare_long (bits_after bytes i) (omega arith)

  -- in the last byte, what is left of it decides
  pub spare_last : length bytes ≤ i / 8 + 1 → (i % 8 ≡ 0 → ⊥) → eqb (get_or bytes (i / 8) 0 % 2 ^ (8 - i % 8)) 0 ≡ is_spare (bits_after bytes i)
  unfolding is_spare
  spare_last last part =
      let byte = get_or bytes (i / 8) 0 in
      let d = length-drop (suc (i / 8)) bytes in
      let end : drop (suc (i / 8)) bytes ≡ [] = no_more (drop (suc (i / 8)) bytes) (omega arith) in
      let bits : bits_after bytes i ≡ bits_of_byte (8 - i % 8) byte =
      by_byte bytes i
      ∙ bits_at bytes (i / 8) (i % 8) inside (omega arith)
      ∙ ap (λ l. bits_of_byte (8 - i % 8) byte ++ bits_in l) end
      ∙ append-none (bits_of_byte (8 - i % 8) byte) in
      let short : leb 8 (length (bits_of_byte (8 - i % 8) byte)) ≡ false = rw (length-byte (8 - i % 8) byte) (lt-leb 8 (8 - i % 8) (omega arith)) in
      sym (ap is_spare bits
      ∙ ap (λ b. not b && not (any_set (bits_of_byte (8 - i % 8) byte))) short
      ∙ ap not (any_byte (8 - i % 8) byte)
      ∙ not_not (eqb (byte % 2 ^ (8 - i % 8)) 0))

pub bit_past : (bytes : List ℕ) (i : ℕ) → length bytes ≤ i / 8 → 2 ≡ next_bit (bits_after bytes i)
unfolding next_bit
bit_past bytes i h = sym (ap next_bit (none_there bytes i h))

-- a power is a divisor
pub power_positive : (p k : ℕ) → p ≡ 2 ^ k → 0 < p
power_positive p k e = let h = pow_pos k in omega arith
