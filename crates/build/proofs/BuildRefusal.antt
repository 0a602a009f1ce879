-- Refusals of build: the table of its tests, what it answers and leaves in each case, and what holds once the first three are passed.
-- Rests on definitions' Refused and Needed.
use Prim.Native.Nat.{ℕ, ◌*◌, ◌^◌, ◌≤◌, ◌<◌}
use mathlib.Core.Path.{◌≡◌, refl, sym, ◌∙◌, ap}
use mathlib.Core.Bool.{Bool, true, false, cond, not}
use mathlib.Core.List.{List, [], ◌∷◌}
use native.Mathlib.Omega.{arith}
use lib.ListN.{length}
use borrow.Author.Tests.{lt-ltb, le-ltb, eq-eqb, ne_eqb}
use Rattle.definitions.specs.List.{list_of_raster, keys_of, values_of}
use Rattle.definitions.specs.Read.{room}
use Rattle.definitions.specs.Buffer.{over}
use Rattle.definitions.specs.Refusal.{◌gives◌, first, accepted, bad_settings, bad_length, bad_pixel}
use Rattle.definitions.specs.Calls.Build.{build_refusal, build, build_keys, build_bits}
use Rattle.std.specs.Prelude.{Err}
use Rattle.definitions.specs.Answered.{as_counted}
use Rattle.definitions.specs.Refused.{refusal_number}
use Rattle.definitions.specs.declared.Counted.{Counted}
use Rattle.definitions.specs.declared.refusal.Refusal.{Refusal}
use Rattle.definitions.proofs.Refused.{refusal_some}
use Rattle.definitions.proofs.Needed.{counted_alone}

-- the tests of settings and raster, which come before the test of room
abbrev early : ℕ → ℕ → List ℕ → ℕ
early m s raster = first (bad_settings m s gives 1 ∷ bad_length m raster gives 2 ∷ bad_pixel s raster gives 3 ∷ [])

-- the first three tests are passed
pub record EarlyPassed (m s : ℕ) (raster : List ℕ) : Type 0 where
  pub settings : bad_settings m s ≡ false
  pub size : bad_length m raster ≡ false
  pub pixels : bad_pixel s raster ≡ false

-- where a test of the first three applies
first_one : (a b c : Bool) → a ≡ true → 1 ≡ first (a gives 1 ∷ b gives 2 ∷ c gives 3 ∷ [])
unfolding first
first_one a b c e = rw e

first_two : (a b c : Bool) → a ≡ false → b ≡ true → 2 ≡ first (a gives 1 ∷ b gives 2 ∷ c gives 3 ∷ [])
unfolding first
first_two a b c e f = rw (e, f)

first_three : (a b c : Bool) → a ≡ false → b ≡ false → c ≡ true → 3 ≡ first (a gives 1 ∷ b gives 2 ∷ c gives 3 ∷ [])
unfolding first
first_three a b c e f g = rw (e, f, g)

first_none : (a b c : Bool) → a ≡ false → b ≡ false → c ≡ false → 0 ≡ first (a gives 1 ∷ b gives 2 ∷ c gives 3 ∷ [])
unfolding first
first_none a b c e f g = rw (e, f, g)

-- the same for the tests of build
module _ (m s : ℕ) (raster : List ℕ) where
  pub early_one : bad_settings m s ≡ true → 1 ≡ early m s raster
  early_one e = first_one (bad_settings m s) (bad_length m raster) (bad_pixel s raster) e

  pub early_two : bad_settings m s ≡ false → bad_length m raster ≡ true → 2 ≡ early m s raster
  early_two e f = first_two (bad_settings m s) (bad_length m raster) (bad_pixel s raster) e f

  pub early_three : bad_settings m s ≡ false → bad_length m raster ≡ false → bad_pixel s raster ≡ true → 3 ≡ early m s raster
  early_three e f g = first_three (bad_settings m s) (bad_length m raster) (bad_pixel s raster) e f g

  pub early_none : EarlyPassed m s raster → 0 ≡ early m s raster
  early_none p = first_none (bad_settings m s) (bad_length m raster) (bad_pixel s raster) p.settings p.size p.pixels

none_passed : (a b c : Bool) → first (a gives 1 ∷ b gives 2 ∷ c gives 3 ∷ []) ≡ 0 → (a ≡ false) × (b ≡ false) × (c ≡ false)
unfolding first
none_passed true b c e = absurd (omega arith)
none_passed false true c e = absurd (omega arith)
none_passed false false true e = absurd (omega arith)
none_passed false false false e = (refl, refl, refl)

-- where no test of the first three applies they are passed
pub early_passed : (m s : ℕ) (raster : List ℕ) → early m s raster ≡ 0 → EarlyPassed m s raster
early_passed m s raster e =
    let h = none_passed (bad_settings m s) (bad_length m raster) (bad_pixel s raster) e in
    record { settings = h.0; size = h.1; pixels = h.2 }

first_early : (a b c d : Bool) → (first (a gives 1 ∷ b gives 2 ∷ c gives 3 ∷ []) ≡ 0 → ⊥)
    → first (a gives 1 ∷ b gives 2 ∷ c gives 3 ∷ []) ≡ first (a gives 1 ∷ b gives 2 ∷ c gives 3 ∷ d gives 9 ∷ [])
unfolding first
first_early true b c d h = refl
first_early false true c d h = refl
first_early false false true d h = refl
first_early false false false d h = absurd (h refl)

first_late : (a b c d : Bool) → a ≡ false → b ≡ false → c ≡ false → cond d 9 0 ≡ first (a gives 1 ∷ b gives 2 ∷ c gives 3 ∷ d gives 9 ∷ [])
unfolding first
first_late a b c d e f g = rw (e, f, g)

-- an answer by its two numbers
same_answer : {r r' n n' : ℕ} → r ≡ r' → n ≡ n' → ◌≡◌ {A = Counted} (record { refusal = r; count = n }) (record { refusal = r'; count = n' })
same_answer e f = λ i. record { refusal = e i; count = f i }

-- what is left where there is a refusal, and what is done where there is none
left_where : {A : Type 0} (r : ℕ) (finished left : A) → (r ≡ 0 → ⊥) → left ≡ accepted r finished left
left_where r finished left h = rw (ne_eqb r 0 h)

done_where : {A : Type 0} (r : ℕ) (finished left : A) → 0 ≡ r → finished ≡ accepted r finished left
done_where r finished left e = rw (eq-eqb r 0 (sym e))

-- the refusal of build: what settings and raster decide, and else whether the list has room
module _ (m s : ℕ) (raster keys bits : List ℕ) where
  pub refusal_early : (early m s raster ≡ 0 → ⊥) → early m s raster ≡ build_refusal m s raster keys bits
  unfolding build_refusal
  refusal_early h = first_early (bad_settings m s) (bad_length m raster) (bad_pixel s raster) _ h

  pub refusal_nine : EarlyPassed m s raster → room keys bits < length (list_of_raster m raster) → 9 ≡ build_refusal m s raster keys bits
  unfolding build_refusal
  refusal_nine p h = sym (ap (λ d. cond d 9 0) (lt-ltb _ _ h)) ∙ first_late _ _ _ _ p.settings p.size p.pixels

  pub refusal_none : EarlyPassed m s raster → length (list_of_raster m raster) ≤ room keys bits → 0 ≡ build_refusal m s raster keys bits
  unfolding build_refusal
  refusal_none p h = sym (ap (λ d. cond d 9 0) (le-ltb _ _ h)) ∙ first_late _ _ _ _ p.settings p.size p.pixels

  -- what a refused call answers and leaves
  pub refused : (r : ℕ) → r ≡ build_refusal m s raster keys bits → (r ≡ 0 → ⊥)
      → (◌≡◌ {A = Counted} (record { refusal = r; count = 0 }) (build m s raster keys bits))
      × ((keys ≡ build_keys m s raster keys bits) × (bits ≡ build_bits m s raster keys bits))
  unfolding build build_keys build_bits
  refused r e h =
      let j : build_refusal m s raster keys bits ≡ 0 → ⊥ = λ z. h (e ∙ z) in (
        same_answer e (left_where (build_refusal m s raster keys bits) (length (list_of_raster m raster)) 0 j),
        (
          left_where (build_refusal m s raster keys bits) (over (keys_of (list_of_raster m raster)) keys) keys j,
          left_where (build_refusal m s raster keys bits) (over (values_of (list_of_raster m raster)) bits) bits j,
        ),
      )

  -- what an accepted call answers and leaves
  pub done : (n : ℕ) (keys' bits' : List ℕ) → 0 ≡ build_refusal m s raster keys bits
      → n ≡ length (list_of_raster m raster)
      → keys' ≡ over (keys_of (list_of_raster m raster)) keys
      → bits' ≡ over (values_of (list_of_raster m raster)) bits
      → (◌≡◌ {A = Counted} (record { refusal = 0; count = n }) (build m s raster keys bits))
      × ((keys' ≡ build_keys m s raster keys bits) × (bits' ≡ build_bits m s raster keys bits))
  unfolding build build_keys build_bits
  done n keys' bits' e f g h = (
    same_answer e (f ∙ done_where (build_refusal m s raster keys bits) (length (list_of_raster m raster)) 0 e),
    (
      g ∙ done_where (build_refusal m s raster keys bits) (over (keys_of (list_of_raster m raster)) keys) keys e,
      h ∙ done_where (build_refusal m s raster keys bits) (over (values_of (list_of_raster m raster)) bits) bits e,
    ),
  )

-- none of the first three is refusal 12
not_twelve : (a b c : Bool) → first (a gives 1 ∷ b gives 2 ∷ c gives 3 ∷ []) ≡ 12 → ⊥
unfolding first
not_twelve true b c e = omega arith
not_twelve false true c e = omega arith
not_twelve false false true e = omega arith
not_twelve false false false e = omega arith

-- so what they refuse is told with no count, and leaves both slices
module _ (m s : ℕ) (raster keys bits : List ℕ) where
  pub early_refused : (r : Refusal) → refusal_number r ≡ early m s raster → (as_counted (Err r) ≡ build m s raster keys bits)
      × ((keys ≡ build_keys m s raster keys bits) × (bits ≡ build_bits m s raster keys bits))
  early_refused r e =
      let some = refusal_some r in
      let h = refused m s raster keys bits (refusal_number r) (e ∙ refusal_early m s raster keys bits (λ z. some (e ∙ z))) some in
      (counted_alone r (λ z. not_twelve _ _ _ (sym e ∙ z)) ∙ h.0, h.1)

-- refusal 2 by the side that the code has
module _ (m side : ℕ) (raster : List ℕ) (e : side ≡ 2 ^ m) where
  pub length-bad : (length raster ≡ side * side → ⊥) → bad_length m raster ≡ true
  unfolding bad_length
  length-bad h = ap not (ne_eqb (length raster) (2 ^ m * 2 ^ m) (λ z. h (z ∙ ap (λ x. x * x) (sym e))))

  pub length-good : length raster ≡ side * side → bad_length m raster ≡ false
  unfolding bad_length
  length-good h = ap not (eq-eqb (length raster) (2 ^ m * 2 ^ m) (h ∙ ap (λ x. x * x) e))
