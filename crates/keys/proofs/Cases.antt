-- Cases that nearly every proof makes: a test is true or false, a number is below another or not, and what a test of two parts says of each.
-- Assumes nothing.
use Prim.Native.Nat.{ℕ, ◌<◌, ◌≤◌}
use mathlib.Core.Path.{◌≡◌, refl, sym}
use mathlib.Core.Bool.{Bool, true, false, ◌&&◌, ◌||◌, true≢false}
use mathlib.Core.Logic.{◌⊎◌, inl, inr}
use lib.Dec.{ltb, eqb}
use borrow.Author.Tests.{ltb-true, ltb-false, eqb-true, eqb-false}

-- a test is true or false, with the equation in hand
pub decide {ℓ} : {C : Type ℓ} (b : Bool) → (b ≡ true → C) → (b ≡ false → C) → C
decide true yes' no' = yes' refl
decide false yes' no' = no' refl

-- a is below b, or b is at most a
pub split {ℓ} : {C : Type ℓ} (a b : ℕ) → (a < b → C) → (b ≤ a → C) → C
split a b below not_below = decide (ltb a b) (λ e. below (ltb-true a b e)) (λ e. not_below (ltb-false a b e))

-- two numbers are equal or not
pub equal {ℓ} : {C : Type ℓ} (a b : ℕ) → (a ≡ b → C) → ((a ≡ b → ⊥) → C) → C
equal a b same other = decide (eqb a b) (λ e. same (eqb-true a b e)) (λ e. other (eqb-false a b e))

pub and_left : (a b : Bool) → a && b ≡ true → a ≡ true
and_left true b e = refl
and_left false b e = e

pub and_right : (a b : Bool) → a && b ≡ true → b ≡ true
and_right true b e = e
and_right false true e = refl
and_right false false e = e

pub and_both : (a b : Bool) → a ≡ true → b ≡ true → a && b ≡ true
and_both true b p q = q
and_both false b p q = p

pub or_either : (a b : Bool) → a || b ≡ true → (a ≡ true) ⊎ (b ≡ true)
or_either true b e = inl refl
or_either false b e = inr e

pub or_left : (a b : Bool) → a ≡ true → a || b ≡ true
or_left true b p = refl
or_left false true p = refl
or_left false false p = p

pub or_right : (a b : Bool) → b ≡ true → a || b ≡ true
or_right true b q = refl
or_right false b q = q

pub neither_left : (a b : Bool) → a || b ≡ false → a ≡ false
neither_left true b e = e
neither_left false b e = refl

pub neither_right : (a b : Bool) → a || b ≡ false → b ≡ false
neither_right true b e = absurd (true≢false e)
neither_right false b e = e

-- two tests that hold at the same time are the same
pub same_test : (a b : Bool) → (a ≡ true → b ≡ true) → (b ≡ true → a ≡ true) → a ≡ b
same_test true b to from = sym (to refl)
same_test false true to from = from refl
same_test false false to from = refl
