-- The next bit of a string and the tests on the bits that come: what a bit that was read says of the string from its place on. Rests on the laws of
-- lists.
use Prim.Native.Nat.{ℕ, suc, ◌+◌, ◌-◌, ◌≤◌, ◌<◌}
use mathlib.Core.Path.{◌≡◌, refl, sym, ap, ◌∙◌}
use mathlib.Core.Bool.{Bool, true, false, cond, not, beq, true≢false}
use mir.Val.{bool_byte}
use mathlib.Core.List.{List, [], ◌∷◌}
use native.Mathlib.Nat.{add_assoc}
use native.Mathlib.Omega.{arith}
use lib.ListN.{get_or, drop}
use lib.Seq.{drop-drop}
use lib.Dec.{eqb}
use borrow.Author.Tests.{eq-eqb, ne_eqb}
use Rattle.definitions.specs.BitStrings.{begins_with}
use Rattle.std.specs.Prelude.{Option, Some, None, IsSome}
use Rattle.bit_strings.specs.Steps.{bit_told, next_bit}

-- one place on
pub drop-on : (l : List Bool) (i : ℕ) → drop 1 (drop i l) ≡ drop (i + 1) l
drop-on l i = drop-drop 1 i l

next_cons : (l : List Bool) → next_bit l ≡ 1 → l ≡ true ∷ drop 1 l
unfolding next_bit
next_cons [] e = absurd (omega arith)
next_cons (true ∷ l) e = refl
next_cons (false ∷ l) e = absurd (omega arith)

-- the first bit, zero where there is none
pub next_first : (l : List Bool) → eqb (next_bit l) 1 ≡ get_or l 0 false
unfolding next_bit
next_first [] = refl
next_first (true ∷ l) = refl
next_first (false ∷ l) = refl

-- ---- a string that begins with equal bits

-- a digit is no 2, and digits of two bits are equal where the bits are
pub no_digit : (b : Bool) → ◌≡◌ {A = ℕ} 2 (cond b 1 0) → ⊥
no_digit true e = omega arith
no_digit false e = omega arith

pub differ : (a b : Bool) → not (beq a b) ≡ true → ◌≡◌ {A = ℕ} (cond a 1 0) (cond b 1 0) → ⊥
differ true true h e = true≢false (sym h)
differ true false h e = omega arith
differ false true h e = omega arith
differ false false h e = true≢false (sym h)

pub agree : (a b : Bool) → not (beq a b) ≡ false → ◌≡◌ {A = ℕ} (cond a 1 0) (cond b 1 0)
agree true true h = refl
agree true false h = absurd (true≢false h)
agree false true h = absurd (true≢false h)
agree false false h = refl

-- the number of a bit
pub byte_digit : (b : Bool) → bool_byte b ≡ cond b 1 0
byte_digit true = refl
byte_digit false = refl

pub digit_most : (b : Bool) → cond b 1 0 ≤ 1
digit_most true = omega arith
digit_most false = omega arith

-- a digit is 1 where its bit is set, and no 2
pub told_one : (b : Bool) (d : ℕ) → cond b 1 0 ≡ d → eqb d 1 ≡ b
told_one true d e = eq-eqb d 1 (sym e)
told_one false d e = ne_eqb d 1 (λ (z : d ≡ 1). omega arith)

-- a bit that is 0 or 1 was found
pub found_some : (o : Option Bool) (d : ℕ) → bit_told o ≡ d → d ≤ 1 → IsSome o
found_some None d e h = absurd (omega arith)
found_some (Some b) d e h = refl

pub begins_on : (k : ℕ) (bit : Bool) (l : List Bool) → next_bit l ≡ cond bit 1 0 → begins_with (suc k) bit l ≡ begins_with k bit (drop 1 l)
unfolding next_bit begins_with
begins_on k true [] e = absurd (omega arith)
begins_on k false [] e = absurd (omega arith)
begins_on k false (true ∷ l) e = absurd (omega arith)
begins_on k false (false ∷ l) e = refl
begins_on k true (true ∷ l) e = refl
begins_on k true (false ∷ l) e = absurd (omega arith)

pub begins_not : (k : ℕ) (bit : Bool) (l : List Bool) → (next_bit l ≡ cond bit 1 0 → ⊥) → begins_with (suc k) bit l ≡ false
unfolding next_bit begins_with
begins_not k bit [] e = refl
begins_not k false (true ∷ l) e = refl
begins_not k false (false ∷ l) e = absurd (e refl)
begins_not k true (true ∷ l) e = absurd (e refl)
begins_not k true (false ∷ l) e = refl

pub begins_none : (b : Bool) (l : List Bool) → begins_with 0 b l ≡ true
unfolding begins_with
begins_none b l = refl

-- four bits, one after the other
module _ (l : List Bool) (at i : ℕ) (bit all : Bool) (more : i < 4) (so_far : begins_with (4 - i) bit (drop (at + i) l) ≡ all) where
  one_fewer : suc (4 - (i + 1)) ≡ 4 - i
  one_fewer = omega arith

  pub begins_turn : next_bit (drop (at + i) l) ≡ cond bit 1 0 → begins_with (4 - (i + 1)) bit (drop (at + (i + 1)) l) ≡ all
  begins_turn e =
      sym (begins_on (4 - (i + 1)) bit (drop (at + i) l) e ∙ ap (begins_with (4 - (i + 1)) bit) (drop-on l (at + i) ∙ ap (λ k. drop k l) (add_assoc at i 1)))
      ∙ ap (λ k. begins_with k bit (drop (at + i) l)) one_fewer
      ∙ so_far

  pub begins_stop : (next_bit (drop (at + i) l) ≡ cond bit 1 0 → ⊥) → false ≡ all
  begins_stop e =
      sym (begins_not (4 - (i + 1)) bit (drop (at + i) l) e)
      ∙ ap (λ k. begins_with k bit (drop (at + i) l)) one_fewer
      ∙ so_far

pub begins_end : (l : List Bool) (at i : ℕ) (bit all : Bool) → 4 ≤ i → begins_with (4 - i) bit (drop (at + i) l) ≡ all → true ≡ all
begins_end l at i bit all h e =
    let none : 4 - i ≡ 0 = omega arith in
    sym (begins_none bit (drop (at + i) l)) ∙ ap (λ n. begins_with n bit (drop (at + i) l)) (sym none) ∙ e
