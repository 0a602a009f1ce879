-- What the printed characters say: a decimal read back is its number and has no zero in front, and the character of a slot stands at its place,
-- slot 0 leftmost. Rests on Pieces.
use Prim.Native.Nat.{ℕ, zero, suc, ◌+◌, ◌-◌, ◌*◌, ◌/◌, ◌%◌, ◌≤◌, ◌<◌}
use mathlib.Core.Path.{◌≡◌, refl, sym, ap, ◌∙◌}
use mathlib.Core.Bool.{cond}
use mathlib.Core.List.{List, [], ◌∷◌, ◌++◌}
use native.Mathlib.Omega.{arith}
use native.Mathlib.Nat.{add-zero, zero-add, add-suc, suc-add}
use lib.ListN.{length, get_or, length-append, get_or-append}
use Rattle.keys.proofs.Cases.{split}
use Rattle.definitions.specs.Bits.{has_slot}
use Rattle.definitions.specs.Listing.{character_of, decimal, slots_from, slots_text}
use Rattle.listing_text.proofs.Pieces.{decimal_digit, decimal_tenth}

-- the number that characters stand for, after those that stand for v
abbrev pub value_after : ℕ → List ℕ → ℕ
value_after v [] = v
value_after v (c ∷ cs) = value_after (v * 10 + (c - 48)) cs

value-append : (v : ℕ) (a b : List ℕ) → value_after v (a ++ b) ≡ value_after (value_after v a) b
value-append v [] b = refl
value-append v (c ∷ a) b = value-append (v * 10 + (c - 48)) a b

value_to : (most x : ℕ) → x ≤ most → value_after 0 (decimal x) ≡ x
value_to zero x h = let e = ap (value_after 0) (decimal_digit x (omega arith)) in omega arith
value_to (suc most) x h =
    split x 10
    (λ small. let e = ap (value_after 0) (decimal_digit x small) in omega arith)
    (λ large.
    let e = ap (value_after 0) (decimal_tenth x large) ∙ value-append 0 (decimal (x / 10)) (character_of (x % 10) ∷ []) in
    let q = value_to most (x / 10) (omega arith) in
    omega arith)

-- a decimal read back is its number
pub decimal_value : (x : ℕ) → value_after 0 (decimal x) ≡ x
decimal_value x = value_to x x (omega arith)

some_digits : (x : ℕ) → 0 < length (decimal x)
some_digits x =
    split x 10
    (λ small. let e = ap length (decimal_digit x small) in omega arith)
    (λ large.
    let e = ap length (decimal_tenth x large) ∙ length-append (decimal (x / 10)) (character_of (x % 10) ∷ []) in
    omega arith)

front_to : (most x : ℕ) → x ≤ most → 0 < x → character_of 0 < get_or (decimal x) 0 0
front_to zero x h pos = absurd (omega arith)
front_to (suc most) x h pos =
    split x 10
    (λ small. let e = ap (λ (l : List ℕ). get_or l 0 0) (decimal_digit x small) in omega arith)
    (λ large.
    let e = ap (λ (l : List ℕ). get_or l 0 0) (decimal_tenth x large)
    ∙ get_or-append (decimal (x / 10)) (character_of (x % 10) ∷ []) 0 0 (some_digits (x / 10)) in
    let q = front_to most (x / 10) (omega arith) (omega arith) in
    omega arith)

-- and has no zero in front
pub decimal_front : (x : ℕ) → 0 < x → character_of 0 < get_or (decimal x) 0 0
decimal_front x pos = front_to x x (omega arith) pos

slot_from : (j s bits i : ℕ) → i < s → get_or (slots_from j s bits) i 0 ≡ character_of (cond (has_slot bits (j + i)) 1 0)
unfolding slots_from
slot_from j zero bits i h = absurd (omega arith)
slot_from j (suc s) bits zero h = ap (λ (k : ℕ). character_of (cond (has_slot bits k) 1 0)) (sym (add-zero j))
slot_from j (suc s) bits (suc i) h =
    slot_from (suc j) s bits i (omega arith)
    ∙ ap (λ (k : ℕ). character_of (cond (has_slot bits k) 1 0)) (suc-add j i ∙ sym (add-suc j i))

-- the character at place i, from the left, is slot i's: 1 where it is set, else 0
pub slot_character : (s bits i : ℕ) → i < s → get_or (slots_text s bits) i 0 ≡ character_of (cond (has_slot bits i) 1 0)
slot_character s bits i h = slot_from 0 s bits i h ∙ ap (λ (k : ℕ). character_of (cond (has_slot bits k) 1 0)) (zero-add i)
