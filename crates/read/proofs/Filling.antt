-- A run of places that is filled one after the other, and a square that is filled row by row: what is done after each turn. Rests on Painted and
-- Rectangle.
use Prim.Native.Nat.{ℕ, zero, suc, ◌+◌, ◌-◌, ◌*◌, ◌/◌, ◌%◌, ◌≤◌, ◌<◌}
use mathlib.Core.Path.{◌≡◌, refl, sym, ◌∙◌, ap}
use mathlib.Core.List.{List, ◌++◌, append_assoc}
use native.Mathlib.Numerals.{add-one}
use native.Mathlib.Nat.{le_antisymm, suc-mul, div-add-mod'}
use native.Mathlib.Omega.{arith}
use lib.ListN.{length, set, take, drop, replicate, length-drop, length-replicate}
use lib.Seq.{sets, sets-eq, length-take-le, drop-drop}
use borrow.Rule.Slice.PartMut.{put_mid}
use lib.Dec.{eqb}
use Rattle.read.specs.Fill.{filled_by, in_run, rectangle_painted}
use Rattle.read.proofs.Painted.{painted_join, painted_same, painted_none, set-painted}
use Rattle.read.proofs.Rectangle.{run_empty, run_next, rectangle_none, rectangle_row}

-- the places from one up to i have the feature
pub record PlacesPassed (raster₀ : List ℕ) (from until feature : ℕ) (raster : List ℕ) (i : ℕ) : Type 0 where
  pub low : from ≤ i
  pub high : i ≤ until
  pub done : raster ≡ filled_by (in_run from i) (λ j. feature) raster₀

pub places_begin : (raster : List ℕ) (from until feature : ℕ) → from ≤ until → PlacesPassed raster from until feature raster from
places_begin raster from until feature h =
    record { low = omega arith; high = h; done = sym (painted_none (in_run from from) (λ j. feature) raster (run_empty from)) }

module _ {raster₀ : List ℕ} {from until feature : ℕ} {raster : List ℕ} {i : ℕ} (p : PlacesPassed raster₀ from until feature raster i) where
  pub place_goes : i < until → PlacesPassed raster₀ from until feature (set raster i feature) (i + 1)
  place_goes h =
      let low = p.low in
      record {
        low = omega arith;
        high = omega arith;
        done = set-painted feature i raster
            ∙ ap (filled_by (λ j. eqb j i) (λ j. feature)) p.done
            ∙ painted_join (in_run from i) (λ j. eqb j i) (λ j. feature) raster₀
            ∙ painted_same _ _ _ _ raster₀ (λ j. run_next from i j low) (λ j e. refl);
      }

  pub places_end : until ≤ i → raster ≡ filled_by (in_run from until) (λ j. feature) raster₀
  places_end h = p.done ∙ ap (λ n. filled_by (in_run from n) (λ j. feature) raster₀) (le_antisymm p.high h)

-- a run of one number stored from place i up to the end
run_goes : {raster₀ : List ℕ} {from until feature : ℕ} {raster : List ℕ} (i n : ℕ) → i + n ≡ until → PlacesPassed raster₀ from until feature raster i
    → sets raster i (replicate n feature) ≡ filled_by (in_run from until) (λ j. feature) raster₀
run_goes i zero e p = places_end p (omega arith)
run_goes {feature = feature} {raster = raster} i (suc n) e p =
    ap (λ k. sets (set raster i feature) k (replicate n feature)) (sym (add-one i)) ∙ run_goes (i + 1) n (omega arith) (place_goes p (omega arith))

-- a part that the library filled
pub part_filled : (raster part : List ℕ) (from until feature : ℕ) → from ≤ until → until ≤ length raster
    → part ≡ replicate (length (take (until - from) (drop from raster))) feature
    → put_mid from (until - from) raster part ≡ filled_by (in_run from until) (λ j. feature) raster
part_filled raster part from until feature low high filled =
    let n = until - from in
    let rest = length-drop from raster in
    let run : part ≡ replicate n feature = filled ∙ ap (λ k. replicate k feature) (length-take-le n (drop from raster) (omega arith)) in
    let size : length part ≡ n = ap length run ∙ length-replicate n feature in
    let parts = sets-eq part raster from (omega arith) ∙ append_assoc (take from raster) part (drop (from + length part) raster) in
    ap (λ r. take from raster ++ (part ++ r)) (drop-drop n from raster ∙ ap (λ k. drop (from + k) raster) (sym size))
    ∙ sym parts
    ∙ ap (sets raster from) run
    ∙ run_goes from n (omega arith) (places_begin raster from until feature low)

-- the rows of a square up to row i are painted, and `from` is where the next one begins
pub record RowsPassed (raster₀ : List ℕ) (wide place side feature : ℕ) (raster : List ℕ) (from i : ℕ) : Type 0 where
  pub high : i ≤ side
  pub next : from ≡ (place / wide + i) * wide + place % wide
  pub done : raster ≡ rectangle_painted wide (λ a b. feature) (place / wide) (place % wide) i side raster₀

pub rows_begin : (raster : List ℕ) (wide place side feature : ℕ) → RowsPassed raster wide place side feature raster place 0
rows_begin raster wide place side feature =
    let e = div-add-mod' place wide in
    let f : place / wide + 0 ≡ place / wide = omega arith in
    record {
      high = omega arith;
      next = rw f (sym e);
      done = sym (rectangle_none wide (λ a b. feature) (place / wide) (place % wide) side raster);
    }

module _ {raster₀ : List ℕ} {wide place side feature : ℕ} {raster : List ℕ} {from i : ℕ} (p : RowsPassed raster₀ wide place side feature raster from i) where
  module _ (a : (place % wide + side ≤ wide) × ((place / wide + side) * wide ≤ length raster₀) × (0 < wide)) (h : i < side) where
    pub row_goes : (after : List ℕ) → after ≡ filled_by (in_run from (from + side)) (λ j. feature) raster → RowsPassed raster₀ wide place side feature after (from + wide) (i + 1)
    row_goes after e =
        let f = suc-mul (place / wide + i) wide in
        let g : place / wide + (i + 1) ≡ suc (place / wide + i) = omega arith in
        let n = p.next in
        record {
          high = omega arith;
          next = rw (g, f) (omega arith);
          done = e
              ∙ ap (filled_by (in_run from (from + side)) (λ j. feature)) p.done
              ∙ rectangle_row wide feature (place / wide) (place % wide) side i from raster₀ a.2 a.0 n;
        }

  pub rows_end : side ≤ i → raster ≡ rectangle_painted wide (λ a b. feature) (place / wide) (place % wide) side side raster₀
  rows_end h = p.done ∙ ap (λ n. rectangle_painted wide (λ a b. feature) (place / wide) (place % wide) n side raster₀) (le_antisymm p.high h)

-- one store fills a run of one place
pub one_place : (x : List ℕ) (from f : ℕ) → set x from f ≡ filled_by (in_run from (from + 1)) (λ j. f) x
one_place x from f = places_end (place_goes (places_begin x from (from + 1) f (omega arith)) (omega arith)) (omega arith)

-- one row fills a square of side 1
pub one_row : (wide place f : ℕ) (x y : List ℕ) → (place % wide + 1 ≤ wide) × ((place / wide + 1) * wide ≤ length x) × (0 < wide)
    → y ≡ filled_by (in_run place (place + 1)) (λ j. f) x
    → y ≡ rectangle_painted wide (λ a b. f) (place / wide) (place % wide) 1 1 x
one_row wide place f x y a e = rows_end (row_goes (rows_begin x wide place 1 f) a (omega arith) y e) (omega arith)
