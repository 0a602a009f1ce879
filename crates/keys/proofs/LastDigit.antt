-- A key's last digit and those before it: whether the key is valid and how many digits stand before its first zero, by both. Rests on Digits.
use Prim.Native.Nat.{ℕ, zero, suc, ◌+◌, ◌-◌, ◌*◌, ◌/◌, ◌%◌, ◌^◌, ◌≤◌, ◌<◌}
use mathlib.Core.Path.{◌≡◌, refl, sym, ap, ap₂, ◌∙◌}
use mathlib.Core.Bool.{true, false}
use mathlib.Core.List.{List, [], ◌∷◌, ◌++◌}
use native.Mathlib.Nat.{pow-suc, mul_comm, mod-lt, div-div-eq-div-mul}
use native.Mathlib.Omega.{arith}
use lib.Arith.{mod-mul}
use lib.Dec.{lit<, eqb, eqb-zero-suc, eqb-suc-suc}
use lib.ListN.{length}
use borrow.Author.Tests.{lt-ltb, eq-eqb, ne_eqb}
use Rattle.keys.specs.Key.{digits_of, only_zeros, digits_then_zeros, valid_key, digits_before_zero, level_of}
use Rattle.keys.proofs.Cases.{equal}
use Rattle.keys.proofs.Powers.{five_pos}
use Rattle.keys.proofs.Digits.{level_most}

-- the digits before the last are those of a fifth
pub fifth_below : (k κ : ℕ) → κ < 5 ^ suc k → κ / 5 < 5 ^ k
fifth_below k κ below = let e = pow-suc 5 k in omega arith

digits_last : (k κ : ℕ) → κ < 5 ^ suc k → digits_of (suc k) κ ≡ digits_of k (κ / 5) ++ (κ % 5 ∷ [])
unfolding digits_of
digits_last zero κ below = ap (λ d. d ∷ []) (omega arith)
digits_last (suc k) κ below =
    let e = pow-suc 5 k in
    let f : κ % 5 ^ suc k ≡ κ / 5 % 5 ^ k * 5 + κ % 5 = ap (λ x. κ % x) e ∙ mod-mul κ {m = 5 ^ k} {c = 5} (five_pos k) (lit< tt) in
    let first : κ / 5 ^ suc k ≡ κ / 5 / 5 ^ k = ap (λ x. κ / x) (e ∙ mul_comm (5 ^ k) 5) ∙ sym (div-div-eq-div-mul κ 5 (5 ^ k)) in
    let before : κ % 5 ^ suc k / 5 ≡ κ / 5 % 5 ^ k = omega arith in
    let last : κ % 5 ^ suc k % 5 ≡ κ % 5 = omega arith in
    ap₂ (λ d l. d ∷ l) first
    (digits_last k (κ % 5 ^ suc k) (mod-lt κ (five_pos (suc k))) ∙ ap₂ (λ x d. digits_of k x ++ (d ∷ [])) before last)

count_digits : (k κ : ℕ) → length (digits_of k κ) ≡ k
unfolding digits_of
count_digits zero κ = refl
count_digits (suc k) κ = ap suc (count_digits k (κ % 5 ^ k))

-- ---- lists of digits with one more at their end

module _ (d : ℕ) (none : d ≡ 0) where
  zeros_then : (l : List ℕ) → only_zeros (l ++ (d ∷ [])) ≡ only_zeros l
  unfolding only_zeros
  zeros_then [] = rw (eq-eqb d 0 none) refl
  zeros_then (x ∷ l) = rw (zeros_then l) refl

  valid_then_zero : (l : List ℕ) → digits_then_zeros (l ++ (d ∷ [])) ≡ digits_then_zeros l
  unfolding digits_then_zeros only_zeros
  valid_then_zero [] = rw (eq-eqb d 0 none) refl
  valid_then_zero (x ∷ l) = rw (zeros_then l, valid_then_zero l) refl

  count_then_zero : (l : List ℕ) → digits_before_zero (l ++ (d ∷ [])) ≡ digits_before_zero l
  unfolding digits_before_zero
  count_then_zero [] = rw (eq-eqb d 0 none) refl
  count_then_zero (x ∷ l) = rw (count_then_zero l) refl

module _ (d : ℕ) (some : d ≡ 0 → ⊥) where
  no_zeros : (l : List ℕ) → only_zeros (l ++ (d ∷ [])) ≡ false
  unfolding only_zeros
  no_zeros [] = rw (ne_eqb d 0 some) refl
  no_zeros (x ∷ l) = equal x 0 (λ e. rw (eq-eqb x 0 e) (no_zeros l)) (λ e. rw (ne_eqb x 0 e) refl)

  valid_then_digit : (l : List ℕ) → digits_then_zeros (l ++ (d ∷ [])) ≡ eqb (digits_before_zero l) (length l)
  unfolding digits_then_zeros digits_before_zero
  valid_then_digit [] = rw (ne_eqb d 0 some) refl
  valid_then_digit (x ∷ l) =
      equal x 0
      (λ e. rw (eq-eqb x 0 e) (no_zeros l ∙ sym (eqb-zero-suc (length l))))
      (λ e. rw (ne_eqb x 0 e) (valid_then_digit l ∙ sym (eqb-suc-suc (digits_before_zero l) (length l))))

  full_then_digit : (l : List ℕ) → eqb (digits_before_zero (l ++ (d ∷ []))) (suc (length l)) ≡ eqb (digits_before_zero l) (length l)
  unfolding digits_before_zero
  full_then_digit [] = rw (ne_eqb d 0 some) refl
  full_then_digit (x ∷ l) =
      equal x 0
      (λ e. rw (eq-eqb x 0 e) (eqb-zero-suc (suc (length l)) ∙ sym (eqb-zero-suc (length l))))
      (λ e.
      rw (ne_eqb x 0 e)
      (eqb-suc-suc (digits_before_zero (l ++ (d ∷ []))) (suc (length l)) ∙ full_then_digit l ∙ sym (eqb-suc-suc (digits_before_zero l) (length l))))

-- ---- keys

module _ (k κ : ℕ) (below : κ < 5 ^ suc k) where
  valid_is : valid_key (suc k) κ ≡ digits_then_zeros (digits_of k (κ / 5) ++ (κ % 5 ∷ []))
  unfolding valid_key
  valid_is = rw (lt-ltb κ (5 ^ suc k) below) (ap digits_then_zeros (digits_last k κ below))

  level_is : level_of (suc k) κ ≡ digits_before_zero (digits_of k (κ / 5) ++ (κ % 5 ∷ []))
  unfolding level_of
  level_is = ap digits_before_zero (digits_last k κ below)

  -- before a zero stands a valid key
  pub valid_last_zero : κ % 5 ≡ 0 → valid_key (suc k) κ ≡ valid_key k (κ / 5)
  unfolding valid_key
  valid_last_zero none =
      valid_is ∙ valid_then_zero (κ % 5) none (digits_of k (κ / 5)) ∙ rw (lt-ltb (κ / 5) (5 ^ k) (fifth_below k κ below)) refl

  -- before another digit stands no zero
  pub valid_last_digit : (κ % 5 ≡ 0 → ⊥) → valid_key (suc k) κ ≡ eqb (level_of k (κ / 5)) k
  unfolding level_of
  valid_last_digit some =
      valid_is
      ∙ valid_then_digit (κ % 5) some (digits_of k (κ / 5))
      ∙ ap (eqb (digits_before_zero (digits_of k (κ / 5)))) (count_digits k (κ / 5))

  -- a zero at the end changes no level
  pub level_last_zero : κ % 5 ≡ 0 → level_of (suc k) κ ≡ level_of k (κ / 5)
  unfolding level_of
  level_last_zero none = level_is ∙ count_then_zero (κ % 5) none (digits_of k (κ / 5))

  -- so no key that ends with one is of the deepest level
  pub full_last_zero : κ % 5 ≡ 0 → eqb (level_of (suc k) κ) (suc k) ≡ false
  full_last_zero none =
      let e = level_last_zero none in
      let h = level_most k (κ / 5) in
      ne_eqb (level_of (suc k) κ) (suc k) (λ f. omega arith)

  -- a key that ends with another digit is of the deepest level exactly when the digits before it have no zero
  pub full_last_digit : (κ % 5 ≡ 0 → ⊥) → eqb (level_of (suc k) κ) (suc k) ≡ eqb (level_of k (κ / 5)) k
  unfolding level_of
  full_last_digit some =
      let n = count_digits k (κ / 5) in
      let l = digits_of k (κ / 5) in
      ap₂ (λ a b. eqb a (suc b)) level_is (sym n) ∙ full_then_digit (κ % 5) some l ∙ ap (eqb (digits_before_zero l)) n

-- ---- the same of so many digits that are left

module _ (left rest : ℕ) (some_left : 0 < left) (below : rest < 5 ^ left) where
  one_more : left ≡ suc (left - 1)
  one_more = omega arith

  before : rest < 5 ^ suc (left - 1)
  before = let e = ap (λ k. 5 ^ k) one_more in omega arith

  pub rest_below : rest / 5 < 5 ^ (left - 1)
  rest_below = fifth_below (left - 1) rest before

  pub valid_goes : rest % 5 ≡ 0 → valid_key left rest ≡ valid_key (left - 1) (rest / 5)
  valid_goes none = ap (λ k. valid_key k rest) one_more ∙ valid_last_zero (left - 1) rest before none

  pub valid_stops : (rest % 5 ≡ 0 → ⊥) → valid_key left rest ≡ eqb (level_of (left - 1) (rest / 5)) (left - 1)
  valid_stops some = ap (λ k. valid_key k rest) one_more ∙ valid_last_digit (left - 1) rest before some

  pub full_stops : rest % 5 ≡ 0 → eqb (level_of left rest) left ≡ false
  full_stops none = ap (λ k. eqb (level_of k rest) k) one_more ∙ full_last_zero (left - 1) rest before none

  pub full_goes : (rest % 5 ≡ 0 → ⊥) → eqb (level_of left rest) left ≡ eqb (level_of (left - 1) (rest / 5)) (left - 1)
  full_goes some = ap (λ k. eqb (level_of k rest) k) one_more ∙ full_last_digit (left - 1) rest before some

-- no digit is left
pub full_over : (left rest : ℕ) → left ≤ 0 → eqb (level_of left rest) left ≡ true
full_over left rest none = let h = level_most left rest in eq-eqb (level_of left rest) left (omega arith)

pub valid_over : (left rest : ℕ) → left ≤ 0 → rest < 5 ^ left → valid_key left rest ≡ true
unfolding valid_key digits_of digits_then_zeros
valid_over left rest none below =
    let e : left ≡ 0 = omega arith in
    rw (lt-ltb rest (5 ^ left) below) (ap (λ k. digits_then_zeros (digits_of k rest)) e)
