-- Exactly one slot: a bitstring has it exactly when it is a power of two, and the code's test of it (specification S4.8). Rests on keys' Cases and laws' BitsOf and FeatureOf.
use Prim.Native.Nat.{ℕ, suc, ◌-◌, ◌/◌, ◌%◌, ◌^◌, ◌<◌}
use mathlib.Core.Path.{◌≡◌, refl, sym, ◌∙◌, ap, ap₂}
use mathlib.Core.Bool.{Bool, true, false, true≢false, ◌&&◌, ◌||◌}
use native.Mathlib.Nat.{pow-suc, mod_self}
use native.Mathlib.Omega.{arith}
use lib.Arith.{bin_ind}
use lib.Bits.{bit_and, bit_or, and_step, and_self, and_mask, and_le_l, and_le_r, or_zero_l, or_add_and}
use lib.Dec.{eqb}
use lib.Pow.{pow_pos}
use borrow.Author.Tests.{eqb-true, eq-eqb, eqb-false}
use Rattle.keys.proofs.Cases.{decide, same_test, and_left, and_right, and_both}
use Rattle.definitions.specs.Picture.{Picture, one_feature}
use Rattle.definitions.specs.Bits.{feature_of, bits_of}
use Rattle.laws.proofs.BitsOf.{bits_one, power_one}
use Rattle.laws.proofs.FeatureOf.{feature_of_power}
use Rattle.list.specs.Check.{one_slot}

-- a power of two has one slot, its exponent's
pub power_slot : (f : ℕ) → one_slot (2 ^ f) ≡ true
unfolding one_slot
power_slot f = eq-eqb _ _ (ap (λ x. 2 ^ x) (sym (feature_of_power f)))

-- what has one slot is the power of its feature
pub one_slot_power : (bits : ℕ) → one_slot bits ≡ true → bits ≡ 2 ^ feature_of bits
unfolding one_slot
one_slot_power bits e = eqb-true _ _ e

-- what is no power of two has not exactly one slot
pub not_slot : (bits : ℕ) → ((f : ℕ) → bits ≡ 2 ^ f → ⊥) → one_slot bits ≡ false
not_slot bits h = decide (one_slot bits) (λ e. absurd (h (feature_of bits) (one_slot_power bits e))) (λ e. e)

-- one less than a power of two has all slots below it, and none of its own
pub power_clear : (f : ℕ) → bit_and (2 ^ f) (2 ^ f - 1) ≡ 0
power_clear f = and_mask (2 ^ f) f ∙ mod_self (2 ^ f)

-- a number that shares no slot with the number before it is a power of two
pub clear_power : (b : ℕ) → 0 < b → bit_and b (b - 1) ≡ 0 → (f : ℕ) × (b ≡ 2 ^ f)
clear_power = bin_ind (λ b. 0 < b → bit_and b (b - 1) ≡ 0 → (f : ℕ) × (b ≡ 2 ^ f)) (λ h e. absurd (omega arith)) turn
  where
    odd : (b : ℕ) → b % 2 ≡ 1 → bit_and b (b - 1) ≡ 0 → (f : ℕ) × (b ≡ 2 ^ f)
    odd b one e =
        let half : (b - 1) / 2 ≡ b / 2 = omega arith in
        let same : bit_and (b / 2) ((b - 1) / 2) ≡ b / 2 = ap (bit_and (b / 2)) half ∙ and_self (b / 2) in
        let step = and_step b (b - 1) in
        (0, omega arith)

    even : (b : ℕ) → 0 < b → b % 2 ≡ 0 → (0 < b / 2 → bit_and (b / 2) (b / 2 - 1) ≡ 0 → (f : ℕ) × (b / 2 ≡ 2 ^ f)) → bit_and b (b - 1) ≡ 0 → (f : ℕ) × (b ≡ 2 ^ f)
    even b h none below e =
        let half : (b - 1) / 2 ≡ b / 2 - 1 = omega arith in
        let same : bit_and (b / 2) ((b - 1) / 2) ≡ bit_and (b / 2) (b / 2 - 1) = ap (bit_and (b / 2)) half in
        let step = and_step b (b - 1) in
        let found = below (omega arith) (omega arith) in
        let power = pow-suc 2 found.0 in
        let is = found.1 in
        (suc found.0, omega arith)

    turn : (b : ℕ) → (0 < b / 2 → bit_and (b / 2) (b / 2 - 1) ≡ 0 → (f : ℕ) × (b / 2 ≡ 2 ^ f)) → 0 < b → bit_and b (b - 1) ≡ 0 → (f : ℕ) × (b ≡ 2 ^ f)
    turn b below h e =
        decide (eqb (b % 2) 1)
        (λ one. odd b (eqb-true _ _ one) e)
        (λ other. even b h (let n = eqb-false (b % 2) 1 other in omega arith) below e)

-- the code's test: 0 has no slot
pub none_slot : one_slot 0 ≡ false
none_slot = not_slot 0 (λ f e. let h = pow_pos f in omega arith)

-- of another number the test is whether it shares a slot with the number before it
pub clear_slot : (b : ℕ) → 0 < b → eqb (bit_and b (b - 1)) 0 ≡ one_slot b
clear_slot b h =
    decide (eqb (bit_and b (b - 1)) 0)
    (λ e. let found = clear_power b h (eqb-true _ _ e) in e ∙ sym (ap one_slot found.1 ∙ power_slot found.0))
    (λ e. e ∙ sym (not_slot b (λ f is. true≢false (sym (eq-eqb _ _ (ap (λ x. bit_and x (x - 1)) is ∙ power_clear f)) ∙ e))))

-- a union is 0 exactly when both parts are
or_none : (a b : ℕ) → eqb (bit_or a b) 0 ≡ eqb a 0 && eqb b 0
or_none a b =
    same_test (eqb (bit_or a b) 0) (eqb a 0 && eqb b 0)
    (λ e. let none = eqb-true (bit_or a b) 0 e in
    let sum = or_add_and a b in
    let left = and_le_l a b in
    let right = and_le_r a b in
    and_both (eqb a 0) (eqb b 0) (eq-eqb a 0 (omega arith)) (eq-eqb b 0 (omega arith)))
    (λ e. eq-eqb (bit_or a b) 0 (ap₂ bit_or (eqb-true a 0 (and_left (eqb a 0) (eqb b 0) e)) (eqb-true b 0 (and_right (eqb a 0) (eqb b 0) e)) ∙ or_zero_l 0))

-- four numbers that are not 0 have one slot each exactly when what they share with the numbers before them is nothing
pub four_clear : (a b c d : ℕ) → 0 < a → 0 < b → 0 < c → 0 < d
    → eqb (bit_or (bit_or (bit_or (bit_and a (a - 1)) (bit_and b (b - 1))) (bit_and c (c - 1))) (bit_and d (d - 1))) 0
    ≡ ((one_slot a && one_slot b) && one_slot c) && one_slot d
four_clear a b c d ha hb hc hd =
    let x = bit_and a (a - 1) in
    let y = bit_and b (b - 1) in
    let z = bit_and c (c - 1) in
    let w = bit_and d (d - 1) in
    or_none (bit_or (bit_or x y) z) w
    ∙ ap (λ t. t && eqb w 0) (or_none (bit_or x y) z ∙ ap (λ t. t && eqb z 0) (or_none x y))
    ∙ ap₂ ◌&&◌ (ap₂ ◌&&◌ (ap₂ ◌&&◌ (clear_slot a ha) (clear_slot b hb)) (clear_slot c hc)) (clear_slot d hd)

or_cases : {C : Type 0} (a b : Bool) → a || b ≡ true → (a ≡ true → C) → (b ≡ true → C) → C
or_cases true b e left right = left refl
or_cases false b e left right = right e

neither_left : (a b : Bool) → a || b ≡ false → a ≡ false
neither_left false b e = refl
neither_left true b e = e

neither_right : (a b : Bool) → a || b ≡ false → b ≡ false
neither_right false b e = e
neither_right true false e = refl
neither_right true true e = e

no_slot : (x : ℕ) → eqb x 0 ≡ true → one_slot x ≡ false
no_slot x h = ap one_slot (eqb-true _ _ h) ∙ none_slot

and_none : (b c : Bool) → c ≡ false → b && c ≡ false
and_none true c e = e
and_none false c e = refl

none_and : (b c : Bool) → b ≡ false → b && c ≡ false
none_and b c e = ap (λ t. t && c) e

-- one of four that is 0 has no slot
pub four_none : (a b c d : ℕ) → ((eqb a 0 || eqb b 0) || eqb c 0) || eqb d 0 ≡ true → false ≡ ((one_slot a && one_slot b) && one_slot c) && one_slot d
four_none a b c d e =
    let two = one_slot a && one_slot b in
    let three = two && one_slot c in
    sym
    (or_cases (eqb a 0 || eqb b 0 || eqb c 0) (eqb d 0) e
    (λ abc.
    none_and three (one_slot d)
    (or_cases (eqb a 0 || eqb b 0) (eqb c 0) abc
    (λ ab.
    none_and two (one_slot c)
    (or_cases (eqb a 0) (eqb b 0) ab (λ h. none_and (one_slot a) (one_slot b) (no_slot a h)) (λ h. and_none (one_slot a) (one_slot b) (no_slot b h))))
    (λ h. and_none two (one_slot c) (no_slot c h))))
    (λ h. and_none three (one_slot d) (no_slot d h)))

-- where none of four is 0
pub four_some : (a b c d : ℕ) → ((eqb a 0 || eqb b 0) || eqb c 0) || eqb d 0 ≡ false → ((0 < a) × (0 < b)) × ((0 < c) × (0 < d))
four_some a b c d e =
    let abc = neither_left (eqb a 0 || eqb b 0 || eqb c 0) (eqb d 0) e in
    let ab = neither_left (eqb a 0 || eqb b 0) (eqb c 0) abc in
    let na = eqb-false a 0 (neither_left (eqb a 0) (eqb b 0) ab) in
    let nb = eqb-false b 0 (neither_right (eqb a 0) (eqb b 0) ab) in
    let nc = eqb-false c 0 (neither_right (eqb a 0 || eqb b 0) (eqb c 0) abc) in
    let nd = eqb-false d 0 (neither_right (eqb a 0 || eqb b 0 || eqb c 0) (eqb d 0) e) in
    ((omega arith, omega arith), (omega arith, omega arith))

-- the bits of a block are one slot exactly when it has one feature
pub slot_feature : (p : Picture) (k r c : ℕ) → one_slot (bits_of p k r c) ≡ one_feature p k r c
slot_feature p k r c =
    same_test (one_slot (bits_of p k r c)) (one_feature p k r c)
    (λ e. power_one p (feature_of (bits_of p k r c)) k r c (one_slot_power (bits_of p k r c) e))
    (λ e. ap one_slot (bits_one p k r c e) ∙ power_slot (p r c))
