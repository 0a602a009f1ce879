-- The tests of the tables of refusals that begin with 1 and 4: what settings that are not refused say, and what an accepted call of standing, part
-- and raster has passed. A table with known tests gives its number by the law `holds_first` of First, or 0 by `None-first`.
use Prim.Native.Nat.{ℕ, ◌*◌, ◌^◌, ◌≤◌}
use mathlib.Core.Path.{◌≡◌, refl}
use mathlib.Core.Bool.{true, false, ◌||◌}
use mathlib.Core.List.{List}
use native.Mathlib.Omega.{arith}
use lib.ListN.{length}
use lib.Dec.{ltb, eqb}
use borrow.Author.Tests.{ltb-false, eqb-false, not-false}
use Rattle.keys.specs.Key.{slot_limit, valid_key}
use Rattle.keys.proofs.Cases.{neither_left, neither_right}
use Rattle.definitions.specs.Read.{is_list}
use Rattle.definitions.specs.Refusal.{bad_settings}
use Rattle.definitions.specs.Calls.Standing.{standing_refusal}
use Rattle.definitions.specs.Calls.Raster.{raster_refusal}
use Rattle.laws.proofs.RasterOf.{length_to}
use Rattle.laws.proofs.First.{first_none}

-- settings that refusal 1 passes
pub record GoodSettings (m s : ℕ) : Type 0 where
  pub deep : m ≤ 10
  pub some : 1 ≤ s
  pub few : s ≤ slot_limit

pub good_settings : (m s : ℕ) → bad_settings m s ≡ false → GoodSettings m s
unfolding bad_settings
good_settings m s e =
    let slots = neither_right (ltb 10 m) (eqb s 0 || ltb slot_limit s) e in
    let not-zero = eqb-false s 0 (neither_left (eqb s 0) (ltb slot_limit s) slots) in
    record {
      deep = ltb-false 10 m (neither_left (ltb 10 m) (eqb s 0 || ltb slot_limit s) e);
      some = omega arith;
      few = ltb-false slot_limit s (neither_right (eqb s 0) (ltb slot_limit s) slots);
    }

-- what a call of standing or part that is not refused has passed
pub record StandingPassed (m s : ℕ) (keys bits : List ℕ) (n κ : ℕ) : Type 0 where
  pub settings : GoodSettings m s
  pub list : is_list m s keys bits n ≡ true
  pub valid : valid_key m κ ≡ true

pub standing_passed : (m s : ℕ) (keys bits : List ℕ) (n κ : ℕ) → standing_refusal m s keys bits n κ ≡ 0 → StandingPassed m s keys bits n κ
unfolding standing_refusal
standing_passed m s keys bits n κ e =
    let none = first_none _ refl e in
    record {
      settings = good_settings m s none.0;
      list = not-false (is_list m s keys bits n) none.1.0;
      valid = not-false (valid_key m κ) none.1.1.0;
    }

-- what a call of raster that is not refused has passed
pub record RasterPassed (m s : ℕ) (keys bits : List ℕ) (n : ℕ) (raster : List ℕ) : Type 0 where
  pub settings : GoodSettings m s
  pub list : is_list m s keys bits n ≡ true
  pub sized : length raster ≡ 2 ^ m * 2 ^ m

pub raster_passed : (m s : ℕ) (keys bits : List ℕ) (n : ℕ) (raster : List ℕ) → raster_refusal m s keys bits n raster ≡ 0 → RasterPassed m s keys bits n raster
unfolding raster_refusal
raster_passed m s keys bits n raster e =
    let none = first_none _ refl e in
    record {
      settings = good_settings m s none.0;
      list = not-false (is_list m s keys bits n) none.1.0;
      sized = length_to m raster none.1.1.0;
    }
