-- A call's table of refusals: the first row whose test holds gives its number, and 0 is given exactly where no test holds; what an accepted call
-- gives and a refused one leaves (specification S1.9 to S1.11). Rests on keys' Cases.
use Prim.Native.Nat.{ℕ}
use mathlib.Core.Path.{◌≡◌, refl, sym, ap, ◌∙◌}
use mathlib.Core.Logic.{◌↔◌}
use mathlib.Core.Bool.{Bool, true, false, cond, not, ◌&&◌}
use mathlib.Core.List.{List, [], ◌∷◌, ◌++◌}
use lib.Dec.{eqb}
use borrow.Author.Tests.{eqb-false, eq-eqb, ne_eqb, not-true}
use Rattle.keys.proofs.Cases.{decide, and_left, and_right}
use Rattle.definitions.specs.Refusal.{Row, ◌gives◌, first, accepted}

-- every row has a number, which is not 0; of a written table this holds by computation
abbrev pub numbered : List Row → Bool
numbered [] = true
numbered (r ∷ rs) = not (eqb r.number 0) && numbered rs

-- no test of the table holds, row by row
abbrev pub NoneHolds : List Row → Type 0
NoneHolds [] = Unit
NoneHolds (r ∷ rs) = (r.test ≡ false) × NoneHolds rs

-- the first row whose test holds has number k
pub data FirstHolds (k : ℕ) : List Row → Type 0 where
  this : {r : Row} {rs : List Row} → r.test ≡ true → r.number ≡ k → FirstHolds k (r ∷ rs)
  later : {r : Row} {rs : List Row} → r.test ≡ false → FirstHolds k rs → FirstHolds k (r ∷ rs)

-- a row whose test holds gives its number
pub first_this : (r : Row) (rs : List Row) → r.test ≡ true → first (r ∷ rs) ≡ r.number
unfolding first
first_this r rs e = ap (λ test. cond test r.number (first rs)) e

-- a row whose test does not hold is passed over
pub first_later : (r : Row) (rs : List Row) → r.test ≡ false → first (r ∷ rs) ≡ first rs
unfolding first
first_later r rs e = ap (λ test. cond test r.number (first rs)) e

-- past the last row 0 is given
pub first_end : first [] ≡ 0
unfolding first
first_end = refl

-- where no test holds, 0 is given
pub none_first : (rows : List Row) → NoneHolds rows → first rows ≡ 0
none_first [] h = first_end
none_first (r ∷ rs) h = first_later r rs h.0 ∙ none_first rs h.1

-- where 0 is given, no test holds
pub first_none : (rows : List Row) → numbered rows ≡ true → first rows ≡ 0 → NoneHolds rows
first_none [] n e = tt
first_none (r ∷ rs) n e =
    decide r.test
    (λ holds. absurd (eqb-false r.number 0 (not-true (eqb r.number 0) (and_left (not (eqb r.number 0)) (numbered rs) n)) (sym (first_this r rs holds) ∙ e)))
    (λ fails. (fails, first_none rs (and_right (not (eqb r.number 0)) (numbered rs) n) (sym (first_later r rs fails) ∙ e)))

-- 0 is given exactly when no test of the table holds
pub first_zero : (rows : List Row) → numbered rows ≡ true → (first rows ≡ 0) ↔ NoneHolds rows
first_zero rows n = (first_none rows n, none_first rows)

-- the first row that holds gives its number
pub holds_first : {k : ℕ} {rows : List Row} → FirstHolds k rows → first rows ≡ k
holds_first (this {r} {rs} holds number) = first_this r rs holds ∙ number
holds_first (later {r} {rs} fails h) = first_later r rs fails ∙ holds_first h

-- the first row that holds stays the first where more rows follow
pub holds_more : {k : ℕ} {rows : List Row} (more : List Row) → FirstHolds k rows → FirstHolds k (rows ++ more)
holds_more more (this holds number) = this holds number
holds_more more (later fails h) = later fails (holds_more more h)

-- a number that is given, and is not 0, is that of the first row that holds
pub first_holds : (k : ℕ) (rows : List Row) → (k ≡ 0 → ⊥) → first rows ≡ k → FirstHolds k rows
first_holds k [] not-zero e = absurd (not-zero (sym e ∙ first_end))
first_holds k (r ∷ rs) not-zero e =
    decide r.test
    (λ holds. this holds (sym (first_this r rs holds) ∙ e))
    (λ fails. later fails (first_holds k rs not-zero (sym (first_later r rs fails) ∙ e)))

-- rows of which one gives a number decide, whatever follows
pub early_first : (k : ℕ) (rows more : List Row) → k ≡ first rows → (k ≡ 0 → ⊥) → k ≡ first (rows ++ more)
early_first k rows more e not-zero = sym (holds_first (holds_more more (first_holds k rows not-zero (sym e))))

-- rows of which none holds are passed over
pub rest_first : (rows more : List Row) → NoneHolds rows → first more ≡ first (rows ++ more)
rest_first [] more h = refl
rest_first (r ∷ rs) more h = rest_first rs more h.1 ∙ sym (first_later r (rs ++ more) h.0)

-- the one row that is left
pub last_row : (test : Bool) (number : ℕ) → first (test gives number ∷ []) ≡ cond test number 0
unfolding first
last_row test number = refl

-- a number other than 0 is given exactly when some row with that number holds and no earlier row does
pub first_exactly : (k : ℕ) (rows : List Row) → (k ≡ 0 → ⊥) → (first rows ≡ k) ↔ FirstHolds k rows
first_exactly k rows not-zero = (first_holds k rows not-zero, holds_first)

module _ {ℓ} {A : Type ℓ} where
  -- an accepted call gives what is done
  pub accepted_done : {refusal : ℕ} (done left : A) → refusal ≡ 0 → accepted refusal done left ≡ done
  accepted_done {refusal} done left e = ap (λ test. cond test done left) (eq-eqb refusal 0 e)

  -- a refused call leaves what was there
  pub accepted_left : {refusal : ℕ} (done left : A) → (refusal ≡ 0 → ⊥) → accepted refusal done left ≡ left
  accepted_left {refusal} done left h = ap (λ test. cond test done left) (ne_eqb refusal 0 h)
