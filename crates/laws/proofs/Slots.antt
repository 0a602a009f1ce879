-- Slots of bitstrings: those of a union and of a power of two; numbers with the same slots are equal. Rests on keys' Cases.
use Prim.Native.Nat.{ℕ, zero, suc, ◌+◌, ◌*◌, ◌/◌, ◌%◌, ◌^◌, max, ◌≤◌, ◌<◌}
use mathlib.Core.Path.{◌≡◌, refl, sym, ◌∙◌, ap, ap₂}
use mathlib.Core.Bool.{Bool, true, false, ◌||◌, false≢true}
use native.Mathlib.Nat.{pow-suc, div-one, div-eq_of_lt, zero-div}
use native.Mathlib.Omega.{arith}
use lib.Arith.{bin_ind}
use lib.Bits.{bit_or, or_step, or_shr, or_lt}
use lib.Dec.{eqb, eqb-zero-suc, eqb-suc-zero, eqb-suc-suc}
use lib.Pow.{shr-shr}
use borrow.Author.Tests.{eqb-true, eq-eqb, ne_eqb, eqb-false}
use Rattle.keys.proofs.Cases.{decide, split, or_left, or_right}
use Rattle.definitions.specs.Bits.{has_slot, union_of_four}

-- the first slot is the last binary digit
pub slot_zero : (b : ℕ) → has_slot b zero ≡ eqb (b % 2) 1
slot_zero b = ap (λ x. eqb (x % 2) 1) (div-one b)

-- the next slots are those of the half
pub slot_suc : (b i : ℕ) → has_slot b (suc i) ≡ has_slot (b / 2) i
slot_suc b i = ap (λ x. eqb (x % 2) 1) (ap (λ x. b / 2 ^ x) (omega arith) ∙ sym (shr-shr b 1 i))

-- zero has no slot
pub slot_of_zero : (i : ℕ) → has_slot 0 i ≡ false
slot_of_zero i = ap (λ x. eqb (x % 2) 1) (zero-div (2 ^ i))

-- a power of two has its one slot
pub slot_power : (f i : ℕ) → has_slot (2 ^ f) i ≡ eqb f i
slot_power zero zero = refl
slot_power zero (suc i) = slot_suc 1 i ∙ slot_of_zero i ∙ sym (eqb-zero-suc i)
slot_power (suc f) zero = let e = pow-suc 2 f in slot_zero (2 ^ suc f) ∙ ne_eqb (2 ^ suc f % 2) 1 (omega arith) ∙ sym (eqb-suc-zero f)
slot_power (suc f) (suc i) =
    let e = pow-suc 2 f in
    let h : 2 ^ suc f / 2 ≡ 2 ^ f = omega arith in
    slot_suc (2 ^ suc f) i ∙ ap (λ x. has_slot x i) h ∙ slot_power f i ∙ sym (eqb-suc-suc f i)

max_digit : (u v w x : ℕ) → x ≡ w * 2 + max (u % 2) (v % 2) → eqb (x % 2) 1 ≡ eqb (u % 2) 1 || eqb (v % 2) 1
max_digit u v w x e = decide (eqb (u % 2) 1)
    (λ a. let h = eqb-true (u % 2) 1 a in rw a (eq-eqb (x % 2) 1 (omega arith)))
    (λ a. let h = eqb-false (u % 2) 1 a in rw a (let j : x % 2 ≡ v % 2 = omega arith in rw j))

-- a slot of a union is set exactly when it is set in one or the other
pub slot_union : (a b i : ℕ) → has_slot (bit_or a b) i ≡ has_slot a i || has_slot b i
slot_union a b i =
    ap (λ x. eqb (x % 2) 1) (or_shr a b i)
    ∙ max_digit (a / 2 ^ i) (b / 2 ^ i) (bit_or (a / 2 ^ i / 2) (b / 2 ^ i / 2)) (bit_or (a / 2 ^ i) (b / 2 ^ i)) (or_step (a / 2 ^ i) (b / 2 ^ i))

-- numbers with the same last digit and the same half are equal
same_digit : (a b : ℕ) → eqb (a % 2) 1 ≡ eqb (b % 2) 1 → a / 2 ≡ b / 2 → a ≡ b
same_digit a b e h = decide (eqb (a % 2) 1)
    (λ x. let u = eqb-true (a % 2) 1 x in let v = eqb-true (b % 2) 1 (sym e ∙ x) in omega arith)
    (λ x. let u = eqb-false (a % 2) 1 x in let v = eqb-false (b % 2) 1 (sym e ∙ x) in omega arith)

same_rest : (a b : ℕ) → ((i : ℕ) → has_slot a i ≡ has_slot b i) → (i : ℕ) → has_slot (a / 2) i ≡ has_slot (b / 2) i
same_rest a b h i = sym (slot_suc a i) ∙ h (suc i) ∙ slot_suc b i

same_first : (a b : ℕ) → ((i : ℕ) → has_slot a i ≡ has_slot b i) → eqb (a % 2) 1 ≡ eqb (b % 2) 1
same_first a b h = sym (slot_zero a) ∙ h zero ∙ slot_zero b

-- a number without slots is zero
pub no_slots : (b : ℕ) → ((i : ℕ) → has_slot 0 i ≡ has_slot b i) → 0 ≡ b
no_slots = bin_ind (λ b. ((i : ℕ) → has_slot 0 i ≡ has_slot b i) → 0 ≡ b) (λ h. refl)
    (λ b below h. same_digit 0 b (same_first 0 b h) (below (same_rest 0 b h)))

-- numbers with the same slots are equal
pub bits_equal : (a b : ℕ) → ((i : ℕ) → has_slot a i ≡ has_slot b i) → a ≡ b
bits_equal = bin_ind (λ a. (b : ℕ) → ((i : ℕ) → has_slot a i ≡ has_slot b i) → a ≡ b) no_slots
    (λ a below b h. same_digit a b (same_first a b h) (below (b / 2) (same_rest a b h)))

-- a slot that is set is worth at most the number
pub slot_le : (b i : ℕ) → has_slot b i ≡ true → 2 ^ i ≤ b
slot_le b i e = split b (2 ^ i) (λ h. absurd (false≢true (sym (ap (λ x. eqb (x % 2) 1) (div-eq_of_lt h)) ∙ e))) (λ h. h)

either_assoc : (a b c : Bool) → a || b || c ≡ a || (b || c)
either_assoc true b c = refl
either_assoc false b c = refl

-- unions may be grouped either way
pub or_assoc : (a b c : ℕ) → bit_or (bit_or a b) c ≡ bit_or a (bit_or b c)
or_assoc a b c = bits_equal _ _
    (λ i. slot_union (bit_or a b) c i ∙ ap (λ x. x || has_slot c i) (slot_union a b i)
    ∙ either_assoc (has_slot a i) (has_slot b i) (has_slot c i)
    ∙ sym (slot_union a (bit_or b c) i ∙ ap (λ x. has_slot a i || x) (slot_union b c i)))

-- a slot of the union of four is set exactly when it is set in one of them
pub slot_four : (a b c d i : ℕ) → has_slot (union_of_four a b c d) i ≡ has_slot a i || has_slot b i || (has_slot c i || has_slot d i)
unfolding union_of_four
slot_four a b c d i = slot_union (bit_or a b) (bit_or c d) i ∙ ap₂ ◌||◌ (slot_union a b i) (slot_union c d i)

one-of-four {ℓ} : {C : Type ℓ} (a b c d : Bool) → a || b || (c || d) ≡ true
    → (a ≡ true → C)
    → (b ≡ true → C)
    → (c ≡ true → C)
    → (d ≡ true → C)
    → C
one-of-four true b c d e in-a in_b in_c in-d = in-a refl
one-of-four false true c d e in-a in_b in_c in-d = in_b refl
one-of-four false false true d e in-a in_b in_c in-d = in_c refl
one-of-four false false false d e in-a in_b in_c in-d = in-d e

-- where a slot of the union of four comes from
pub slot_cases {ℓ} : {C : Type ℓ} (a b c d i : ℕ) → has_slot (union_of_four a b c d) i ≡ true
    → (has_slot a i ≡ true → C)
    → (has_slot b i ≡ true → C)
    → (has_slot c i ≡ true → C)
    → (has_slot d i ≡ true → C)
    → C
slot_cases a b c d i e = one-of-four (has_slot a i) (has_slot b i) (has_slot c i) (has_slot d i) (sym (slot_four a b c d i) ∙ e)

-- a slot of the first, of the second, of the third, of the fourth is one of the union
pub slot_nw : (a b c d i : ℕ) → has_slot a i ≡ true → has_slot (union_of_four a b c d) i ≡ true
slot_nw a b c d i h = slot_four a b c d i ∙ or_left (has_slot a i || has_slot b i) _ (or_left (has_slot a i) _ h)

pub slot_ne : (a b c d i : ℕ) → has_slot b i ≡ true → has_slot (union_of_four a b c d) i ≡ true
slot_ne a b c d i h = slot_four a b c d i ∙ or_left (has_slot a i || has_slot b i) _ (or_right (has_slot a i) _ h)

pub slot_sw : (a b c d i : ℕ) → has_slot c i ≡ true → has_slot (union_of_four a b c d) i ≡ true
slot_sw a b c d i h = slot_four a b c d i ∙ or_right (has_slot a i || has_slot b i) _ (or_left (has_slot c i) _ h)

pub slot_se : (a b c d i : ℕ) → has_slot d i ≡ true → has_slot (union_of_four a b c d) i ≡ true
slot_se a b c d i h = slot_four a b c d i ∙ or_right (has_slot a i || has_slot b i) _ (or_right (has_slot c i) _ h)

-- the union of four numbers below a power of two is below it
pub four_lt : (k a b c d : ℕ) → a < 2 ^ k → b < 2 ^ k → c < 2 ^ k → d < 2 ^ k → union_of_four a b c d < 2 ^ k
unfolding union_of_four
four_lt k a b c d ha hb hc hd = or_lt k (bit_or a b) (bit_or c d) (or_lt k a b ha hb) (or_lt k c d hc hd)

-- unions of equal parts are equal
pub same_four : {a b c d a' b' c' d' : ℕ} → a ≡ a' → b ≡ b' → c ≡ c' → d ≡ d' → union_of_four a b c d ≡ union_of_four a' b' c' d'
same_four e f g h = cc
