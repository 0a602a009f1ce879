-- Refusals: a call's table of tests in order (specification S1.9); the first that applies is given, and 0 where none does. The tests that several
-- calls share stand here too, under their numbers. Rests on Read.
use Rattle.std.specs.Prelude.{ℕ, ◌*◌, ◌^◌, Bool, false, cond, not, ◌||◌, List, [], ◌∷◌, length, leb, ltb, eqb}
use Rattle.keys.specs.Key.{deepest_level, slot_limit, valid_key}
use Rattle.definitions.specs.Read.{is_list}

-- a row of a table: the number is given when the test holds
pub record Row : Type 0 where
  pub test : Bool
  pub number : ℕ

infix 70 ◌gives◌
abbrev pub ◌gives◌ : (test : Bool) (number : ℕ) → Row
◌gives◌ test number = record { test = test; number = number }

unfoldable pub first : List Row → ℕ
first [] = 0
first (r ∷ rs) = cond r.test r.number (first rs)

-- what an accepted call gives, and what a refused one leaves
abbrev pub accepted {ℓ} : {A : Type ℓ} → (refusal : ℕ) (done left : A) → A
accepted refusal done left = cond (eqb refusal 0) done left

-- 1
unfoldable pub bad_settings : (m s : ℕ) → Bool
bad_settings m s = ltb deepest_level m || (eqb s 0 || ltb slot_limit s)

-- 2
unfoldable pub bad_length : (m : ℕ) (raster : List ℕ) → Bool
bad_length m raster = not (eqb (length raster) (2 ^ m * 2 ^ m))

-- 3
unfoldable pub bad_pixel : (s : ℕ) (raster : List ℕ) → Bool
bad_pixel s [] = false
bad_pixel s (x ∷ xs) = leb s x || bad_pixel s xs

-- 4
abbrev pub no_list : (m s : ℕ) (keys bits : List ℕ) (n : ℕ) → Bool
no_list m s keys bits n = not (is_list m s keys bits n)

-- 7
abbrev pub bad_feature : (s f : ℕ) → Bool
bad_feature s f = leb s f

-- 8
abbrev pub bad_key : (m κ : ℕ) → Bool
bad_key m κ = not (valid_key m κ)
