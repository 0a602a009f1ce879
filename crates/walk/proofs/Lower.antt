-- The keys of a list that are below a bound: of two lists, of keys that are all below or all at or past it, and of two bounds with no key between
-- them. Rests on keys' Cases and laws' AscendingKeys.
use Prim.Native.Nat.{ℕ, ◌+◌, ◌≤◌, ◌<◌}
use mathlib.Core.Path.{◌≡◌, refl, sym, ◌∙◌, ap, ap₂}
use mathlib.Core.List.{List, [], ◌∷◌, ◌++◌, Memᴰ, append_assoc, append-nil}
use native.Mathlib.Omega.{arith}
use lib.ListN.{length}
use borrow.Author.Tests.{lt-ltb, le-ltb}
use Rattle.keys.proofs.Cases.{split}
use Rattle.walk.specs.Given.{lower}
use Rattle.laws.proofs.AscendingKeys.{AscendingKeys, no_key, key, keys_bounds}

lower_nil : (x : ℕ) → lower x [] ≡ []
unfolding lower
lower_nil x = refl

lower_yes : (x y : ℕ) (l : List ℕ) → y < x → lower x (y ∷ l) ≡ y ∷ lower x l
unfolding lower
lower_yes x y l h = rw (lt-ltb y x h)

lower_no : (x y : ℕ) (l : List ℕ) → x ≤ y → lower x (y ∷ l) ≡ lower x l
unfolding lower
lower_no x y l h = rw (le-ltb y x h)

pub lower-append : (x : ℕ) (a b : List ℕ) → lower x (a ++ b) ≡ lower x a ++ lower x b
lower-append x [] b = ap (λ l. l ++ lower x b) (sym (lower_nil x))
lower-append x (y ∷ a) b =
    split y x
    (λ h. lower_yes x y (a ++ b) h ∙ ap (λ l. y ∷ l) (lower-append x a b) ∙ ap (λ l. l ++ lower x b) (sym (lower_yes x y a h)))
    (λ h. lower_no x y (a ++ b) h ∙ lower-append x a b ∙ ap (λ l. l ++ lower x b) (sym (lower_no x y a h)))

-- keys that are all below
pub lower_all : (x : ℕ) {lo hi : ℕ} {l : List ℕ} → AscendingKeys lo hi l → hi ≤ x → lower x l ≡ l
lower_all x (no_key h) j = lower_nil x
lower_all x (key {x = y} h t) j = let b = keys_bounds t in lower_yes x y _ (omega arith) ∙ ap (λ l. y ∷ l) (lower_all x t j)

-- keys that are all at or past the bound
pub lower_none : (x : ℕ) {lo hi : ℕ} {l : List ℕ} → AscendingKeys lo hi l → x ≤ lo → lower x l ≡ []
lower_none x (no_key h) j = lower_nil x
lower_none x (key {x = y} h t) j = lower_no x y _ (omega arith) ∙ lower_none x t (omega arith)

-- with no key between two bounds they leave the same
pub lower_gap : (x y : ℕ) (l : List ℕ) → x ≤ y → ((z : ℕ) → Memᴰ z l → x ≤ z → z < y → ⊥) → lower x l ≡ lower y l
lower_gap x y [] h gap = lower_nil x ∙ sym (lower_nil y)
lower_gap x y (z ∷ l) h gap =
    let rest = lower_gap x y l h (λ u i. gap u (Memᴰ.tail i)) in
    split z x
    (λ low. lower_yes x z l low ∙ ap (λ k. z ∷ k) rest ∙ sym (lower_yes y z l (omega arith)))
    (λ high. lower_no x z l high ∙ rest ∙ sym (lower_no y z l (split z y (λ between. absurd (gap z (Memᴰ.head refl) high between)) (λ past. past))))

-- at most as many as there are
pub lower-length : (x : ℕ) (l : List ℕ) → length (lower x l) ≤ length l
lower-length x [] = let e = ap length (lower_nil x) in omega arith
lower-length x (y ∷ l) =
    let h = lower-length x l in
    split y x (λ low. let e = ap length (lower_yes x y l low) in omega arith) (λ high. let e = ap length (lower_no x y l high) in omega arith)

-- ascending keys are at most as many as there are numbers between their bounds
pub ascending-length : {lo hi : ℕ} {l : List ℕ} → AscendingKeys lo hi l → lo + length l ≤ hi
ascending-length (no_key h) = omega arith
ascending-length (key h t) = let j = ascending-length t in omega arith

module _ (x y : ℕ) (a rest more : List ℕ) where
  -- what comes between the bounds comes in the first of two lists
  pub lower_first : lower y a ≡ lower x a ++ more → lower y rest ≡ [] → lower x rest ≡ [] → lower y (a ++ rest) ≡ lower x (a ++ rest) ++ more
  lower_first e f g =
      lower-append y a rest
      ∙ ap₂ (λ u v. u ++ v) e f
      ∙ append-nil (lower x a ++ more)
      ∙ ap (λ u. u ++ more) (sym (lower-append x a rest ∙ ap (λ v. lower x a ++ v) g ∙ append-nil (lower x a)))

  -- or in the second
  pub lower_later : lower y a ≡ a → lower x a ≡ a → lower y rest ≡ lower x rest ++ more → lower y (a ++ rest) ≡ lower x (a ++ rest) ++ more
  lower_later e f g =
      lower-append y a rest
      ∙ ap₂ (λ u v. u ++ v) e g
      ∙ sym (append_assoc a (lower x rest) more)
      ∙ ap (λ u. u ++ more) (sym (lower-append x a rest ∙ ap (λ u. u ++ lower x rest) f))
