-- In any order the raster is the first one with all the paints: each painted pixel has the feature of the one paint that has it in its block, and every
-- other pixel stays. Rests on Swaps and Sheets.
use Prim.Native.Nat.{ℕ, ◌≤◌}
use mathlib.Core.Path.{◌≡◌, refl, sym, ap, ◌∙◌}
use mathlib.Core.Bool.{true, false, ◌||◌}
use mathlib.Core.List.{List, [], ◌∷◌}
use native.Mathlib.Omega.{arith}
use Rattle.keys.specs.Key.{valid_key}
use Rattle.keys.specs.Block.{in_block}
use Rattle.keys.proofs.Cases.{and_left, and_right, neither_left, neither_right}
use Rattle.keys.proofs.InBlock.{in_block_iff, in_raster}
use Rattle.keys.proofs.Valid.{valid_block}
use Rattle.keys.specs.Under.{InSquare}
use Rattle.definitions.specs.Picture.{Picture}
use Rattle.definitions.specs.Read.{picture_of}
use Rattle.definitions.specs.Edit.{paint_in}
use Rattle.history.specs.History.{Buffers, after_calls}
use Rattle.order.specs.Paint.{BlockPaint}
use Rattle.history.proofs.Content.{map_back}
use Rattle.history.proofs.Drawn.{paint_inside, paint_outside}
use Rattle.order.specs.Rearranged.{times_in, Rearranged, Swapped}
use Rattle.order.specs.Apart.{apart, apart_from_all, all_apart, all_valid, in_some_paint}
use Rattle.order.specs.Either.{as_calls, in_full, in_turn, picture_in, AllPaints, after_paints}
use Rattle.order.proofs.Rearrangements.{times_none, found_among, swapped_times, times_swapped}
use Rattle.order.proofs.ApartBlocks.{apart_to, apart_disjoint}
use Rattle.order.proofs.Swaps.{valid_swapped, apart_swapped, picture_either}
use Rattle.order.proofs.Sheets.{in_full_valid, run_shows}

-- a pixel that no paint has in its block stays
stays : (m : ℕ) (p : Picture) (xs : List BlockPaint) (row column : ℕ) → in_some_paint m xs row column ≡ false → in_turn m p xs row column ≡ p row column
unfolding in_turn in_some_paint
stays m p [] row column e = refl
stays m p (x ∷ xs) row column e =
    stays m (paint_in m x.key x.feature p) xs row column (neither_right (in_block m x.key row column) (in_some_paint m xs row column) e)
    ∙ paint_outside m x.key x.feature p row column (neither_left (in_block m x.key row column) (in_some_paint m xs row column) e)

-- no paint that is apart from x has a pixel of x's block
alone : (m : ℕ) (x : BlockPaint) (xs : List BlockPaint) (row column : ℕ) → valid_key m x.key ≡ true → all_valid m xs ≡ true → apart_from_all m x xs ≡ true
    → in_block m x.key row column ≡ true → in_some_paint m xs row column ≡ false
unfolding all_valid apart_from_all in_some_paint
alone m x [] row column v vs h e = refl
alone m x (y ∷ ys) row column v vs h e =
    let valid = and_left (valid_key m y.key) (all_valid m ys) vs in
    let two = and_left (apart m x y) (apart_from_all m x ys) h in
    ap (λ t. t || in_some_paint m ys row column) (apart_disjoint m x.key y.key v valid (apart_to m x y two) row column e)
    ∙ alone m x ys row column v (and_right (valid_key m y.key) (all_valid m ys) vs) (and_right (apart m x y) (apart_from_all m x ys) h) e

-- where x comes first, and the others are apart from it, the pixels of its block have its feature
first_wins : (m : ℕ) (p : Picture) (x : BlockPaint) (xs : List BlockPaint) (row column : ℕ) → all_valid m (x ∷ xs) ≡ true → all_apart m (x ∷ xs) ≡ true
    → in_block m x.key row column ≡ true → in_turn m p (x ∷ xs) row column ≡ x.feature
unfolding in_turn all_valid all_apart
first_wins m p x xs row column v h e =
    stays m (paint_in m x.key x.feature p) xs row column
    (alone m x xs row column (and_left (valid_key m x.key) (all_valid m xs) v) (and_right (valid_key m x.key) (all_valid m xs) v)
    (and_left (apart_from_all m x xs) (all_apart m xs) h) e)
    ∙ paint_inside m x.key x.feature p row column e

-- and so wherever it comes
pub wins : (m : ℕ) (p : Picture) (x : BlockPaint) (xs : List BlockPaint) (row column : ℕ) → all_valid m xs ≡ true → all_apart m xs ≡ true → 1 ≤ times_in x xs
    → in_block m x.key row column ≡ true → in_turn m p xs row column ≡ x.feature
wins m p x xs row column v h comes e =
    let at = found_among x xs comes in
    let back : Rearranged xs (x ∷ at.rest) = λ z. sym (swapped_times at.brought z) in
    let d : Swapped xs (x ∷ at.rest) = times_swapped xs (x ∷ at.rest) back in
    ap (λ q. q row column) (picture_either m xs (x ∷ at.rest) back v h p)
    ∙ first_wins m p x at.rest row column (valid_swapped m d v) (apart_swapped m d h) e

-- a valid block of a run
its_valid : (m : ℕ) (x : BlockPaint) (xs : List BlockPaint) → all_valid m xs ≡ true → 1 ≤ times_in x xs → valid_key m x.key ≡ true
unfolding all_valid
its_valid m x xs v comes =
    let at = found_among x xs comes in
    let d : Swapped xs (x ∷ at.rest) = times_swapped xs (x ∷ at.rest) (λ z. sym (swapped_times at.brought z)) in
    and_left (valid_key m x.key) (all_valid m at.rest) (valid_swapped m d v)

-- a run of paints, every pair apart, that is accepted in full leaves the first raster with all the paints
pub all_paints : (m s : ℕ) (b : Buffers) (xs : List BlockPaint) → all_apart m xs ≡ true → in_full m s b xs ≡ true
    → AllPaints m xs (picture_in m b) (picture_in m (after_paints m s b xs))
unfolding as_calls after_calls
all_paints m s b [] h i = record {
  inside = λ x comes row column e. let none = times_none x in absurd (omega arith);
  outside = λ row column low narrow e. refl;
}
all_paints m s b (x ∷ xs) h i =
    let valid = in_full_valid m s b (x ∷ xs) i in
    let turn : Picture = in_turn m (picture_in m b) (x ∷ xs) in
    let is = (run_shows m s b x xs i).list in
    record {
      inside = λ y comes row column e.
          let block = valid_block m y.key (its_valid m y (x ∷ xs) valid comes) in
          let on-map = in_raster block ((in_block_iff row column block).0 e) in
          let square : InSquare m 0 0 row column = omega arith in
          ap (λ l. picture_of m l row column) is ∙ map_back m turn row column square ∙ wins m (picture_in m b) y (x ∷ xs) row column valid h comes e;
      outside = λ row column low narrow e.
          let square : InSquare m 0 0 row column = omega arith in
          ap (λ l. picture_of m l row column) is ∙ map_back m turn row column square ∙ stays m (picture_in m b) (x ∷ xs) row column e;
    }
