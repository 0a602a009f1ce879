-- The printed text, a piece at a time: the equations of decimal numbers, of a key's digits and of slots. Rests on the descent of keys.
use Prim.Native.Nat.{ℕ, zero, suc, ◌+◌, ◌-◌, ◌/◌, ◌%◌, ◌^◌, ◌≤◌, ◌<◌}
use mathlib.Core.Path.{◌≡◌, refl, sym, ap, ◌∙◌}
use mathlib.Core.Bool.{cond}
use mathlib.Core.List.{List, [], ◌∷◌, ◌++◌}
use native.Mathlib.Omega.{arith}
use native.Mathlib.Nat.{pow-suc, div-div-eq-div-mul}
use native.Mathlib.Numerals.{add-one}
use lib.Dec.{ltb, eqb}
use borrow.Author.Tests.{lt-ltb, le-ltb, ltb-true, ltb-false, eqb-true, eqb-false}
use Rattle.keys.specs.Key.{digits_of}
use Rattle.keys.proofs.Cases.{decide}
use Rattle.keys.proofs.Descent.{one_less}
use Rattle.definitions.specs.Listing.{character_of, decimal_in, decimal, digits_text, slots_from}

-- a number below ten is one digit, whatever the fuel
decimal_one : (fuel x : ℕ) → x < 10 → decimal_in fuel x ≡ character_of x ∷ []
unfolding decimal_in
decimal_one zero x h = refl
decimal_one (suc fuel) x h = rw (lt-ltb x 10 h, decimal_in)

-- a number from ten on is its tenth and its last digit
decimal_more : (fuel x : ℕ) → 10 ≤ x → decimal_in (suc fuel) x ≡ decimal_in fuel (x / 10) ++ (character_of (x % 10) ∷ [])
unfolding decimal_in
decimal_more fuel x h = rw (le-ltb x 10 h, decimal_in)

-- as much fuel as the number is enough
decimal_enough : (f g x : ℕ) → x ≤ f → x ≤ g → decimal_in f x ≡ decimal_in g x
decimal_enough zero g x h k = decimal_one zero x (omega arith) ∙ sym (decimal_one g x (omega arith))
decimal_enough (suc f) zero x h k = decimal_one (suc f) x (omega arith) ∙ sym (decimal_one zero x (omega arith))
decimal_enough (suc f) (suc g) x h k =
    decide (ltb x 10)
    (λ e. decimal_one (suc f) x (ltb-true x 10 e) ∙ sym (decimal_one (suc g) x (ltb-true x 10 e)))
    (λ e.
    let m : 10 ≤ x = ltb-false x 10 e in
    decimal_more f x m
    ∙ ap (λ (l : List ℕ). l ++ (character_of (x % 10) ∷ [])) (decimal_enough f g (x / 10) (omega arith) (omega arith))
    ∙ sym (decimal_more g x m))

-- a number below ten is its digit
pub decimal_digit : (x : ℕ) → x < 10 → decimal x ≡ character_of x ∷ []
unfolding decimal
decimal_digit x h = decimal_one x x h

-- a number from ten on is the decimal of its tenth, then its last digit
pub decimal_tenth : (x : ℕ) → 10 ≤ x → decimal x ≡ decimal (x / 10) ++ (character_of (x % 10) ∷ [])
unfolding decimal
decimal_tenth zero h = absurd (omega arith)
decimal_tenth (suc x) h =
    decimal_more x (suc x) h
    ∙ ap (λ (l : List ℕ). l ++ (character_of (suc x % 10) ∷ [])) (decimal_enough x (suc x / 10) (suc x / 10) (omega arith) (omega arith))

-- a turn of a key's digits: the first of those left, and those of the rest
pub digits_piece : (m i x step : ℕ) → i < m → step ≡ 5 ^ (m - (i + 1))
    → digits_text (m - i) x ≡ (character_of (x / step) ∷ []) ++ digits_text (m - (i + 1)) (x % step)
unfolding digits_of
digits_piece m i x step h e =
    ap (λ (k : ℕ). digits_text k x) (one_less m i h)
    ∙ ap (λ (p : ℕ). character_of (x / p) ∷ digits_text (m - (i + 1)) (x % p)) (sym e)

-- a slot is the number's remainder of two
slot_digit : (x : ℕ) → cond (eqb (x % 2) 1) 1 0 ≡ x % 2
slot_digit x =
    decide (eqb (x % 2) 1)
    (λ e. rw e (sym (eqb-true (x % 2) 1 e)))
    (λ e. rw e (let n = eqb-false (x % 2) 1 e in omega arith))

-- a turn of the slots: slot i, and those from the next on
pub slots_piece : (s i bits rest : ℕ) → i < s → rest ≡ bits / 2 ^ i
    → slots_from i (s - i) bits ≡ (character_of (rest % 2) ∷ []) ++ slots_from (i + 1) (s - (i + 1)) bits
unfolding slots_from
slots_piece s i bits rest h e =
    ap (λ (k : ℕ). slots_from i k bits) (one_less s i h)
    ∙ ap (λ (d : ℕ). character_of d ∷ slots_from (suc i) (s - (i + 1)) bits) (slot_digit (bits / 2 ^ i))
    ∙ ap (λ (y : ℕ). character_of (y % 2) ∷ slots_from (suc i) (s - (i + 1)) bits) (sym e)
    ∙ ap (λ (k : ℕ). character_of (rest % 2) ∷ slots_from k (s - (i + 1)) bits) (sym (add-one i))

-- the slots that are left, as a number, lose one a turn
pub slots_down : (bits i rest : ℕ) → rest ≡ bits / 2 ^ i → rest / 2 ≡ bits / 2 ^ (i + 1)
slots_down bits i rest e =
    ap (λ (x : ℕ). x / 2) e ∙ div-div-eq-div-mul bits (2 ^ i) 2 ∙ ap (λ (x : ℕ). bits / x) (sym (pow-suc 2 i) ∙ ap (λ (k : ℕ). 2 ^ k) (sym (add-one i)))
