-- Two crews, one sheet: paints of which every pair is apart leave the same list and summary in any order that is accepted in full. First for two
-- paints, by the definitions that paint's promise cites; then for the calls; then for any rearrangement of a run. Rests on Swaps and Sheets.
use Prim.Native.Nat.{ℕ}
use mathlib.Core.Path.{◌≡◌, refl, sym, ap, ◌∙◌}
use mathlib.Core.Bool.{true, ◌&&◌}
use mathlib.Core.List.{List, [], ◌∷◌}
use lib.Dec.{eqb}
use borrow.Author.Tests.{eq-eqb}
use Rattle.keys.specs.Key.{valid_key}
use Rattle.keys.proofs.Cases.{and_both}
use Rattle.definitions.specs.Picture.{Picture}
use Rattle.definitions.specs.List.{Record, list_of_picture}
use Rattle.definitions.specs.Read.{picture_of}
use Rattle.definitions.specs.Area.{summary_of}
use Rattle.definitions.specs.Calls.Paint.{painted_picture, painted}
use Rattle.history.specs.History.{Buffers, answer, after, after_calls}
use Rattle.order.specs.Paint.{BlockPaint}
use Rattle.history.proofs.Content.{painted_list, painted_summary}
use Rattle.order.specs.Rearranged.{Rearranged, swap}
use Rattle.order.specs.Apart.{apart, apart_from_all, all_apart}
use Rattle.order.specs.Either.{as_call, as_calls, in_full, in_turn, picture_in, SameSheet, after_paints}
use Rattle.order.proofs.Rearrangements.{not_none, swapped_times}
use Rattle.order.proofs.Swaps.{two_swap, picture_either}
use Rattle.order.proofs.Sheets.{shows_same, in_full_valid, run_shows}

-- ---- the definitions that paint's promise cites
module _ (m s : ℕ) (x y : BlockPaint) (valid-x : valid_key m x.key ≡ true) (valid-y : valid_key m y.key ≡ true) (h : apart m x y ≡ true) (l : List Record) where
  abbrev first : Picture
  first = painted_picture m l x.key x.feature

  abbrev second : Picture
  second = painted_picture m l y.key y.feature

  -- the painted list of the painted list is the same in either order
  pub either_list : painted m (painted m l x.key x.feature) y.key y.feature
      ≡ painted m (painted m l y.key y.feature) x.key x.feature
  unfolding painted
  either_list =
      painted_list m y.key y.feature first
      ∙ ap (list_of_picture m) (two_swap m x y (picture_of m l) valid-x valid-y h)
      ∙ sym (painted_list m x.key x.feature second)

  -- so is its summary
  pub either_summary : summary_of m s (painted_picture m (painted m l x.key x.feature) y.key y.feature)
      ≡ summary_of m s (painted_picture m (painted m l y.key y.feature) x.key x.feature)
  unfolding painted
  either_summary =
      painted_summary m s y.key y.feature first
      ∙ ap (summary_of m s) (two_swap m x y (picture_of m l) valid-x valid-y h)
      ∙ sym (painted_summary m s x.key x.feature second)

-- ---- calls
same_itself : (b : Buffers) → SameSheet b b
same_itself b = record { count = refl; list = refl; summary = refl }

-- any rearrangement of a run of paints, every pair apart, leaves the same list and summary, where both orders are accepted in full
pub either_order : (m s : ℕ) (b : Buffers) (xs ys : List BlockPaint) → Rearranged xs ys → all_apart m xs ≡ true → in_full m s b xs ≡ true → in_full m s b ys ≡ true
    → SameSheet (after_paints m s b xs) (after_paints m s b ys)
either_order m s b [] [] r h i j = same_itself (after_paints m s b [])
either_order m s b [] (y ∷ ys) r h i j = absurd (not_none y ys r)
either_order m s b (x ∷ xs) [] r h i j = absurd (not_none x xs (λ z. sym (r z)))
either_order m s b (x ∷ xs) (y ∷ ys) r h i j =
    shows_same m s (after_paints m s b (x ∷ xs)) (after_paints m s b (y ∷ ys)) (in_turn m (picture_in m b) (x ∷ xs)) (in_turn m (picture_in m b) (y ∷ ys))
    (run_shows m s b x xs i) (run_shows m s b y ys j)
    (picture_either m (x ∷ xs) (y ∷ ys) r (in_full_valid m s b (x ∷ xs) i) h (picture_in m b))

module _ (m s : ℕ) (b : Buffers) where
  -- two accepted paints are a run
  two_in_full : (x y : BlockPaint) → answer m s b (as_call x) ≡ 0 → answer m s (after m s b (as_call x)) (as_call y) ≡ 0 → in_full m s b (x ∷ y ∷ []) ≡ true
  unfolding in_full
  two_in_full x y i j =
      and_both (eqb (answer m s b (as_call x)) 0) (eqb (answer m s (after m s b (as_call x)) (as_call y)) 0 && true)
      (eq-eqb _ 0 i) (and_both (eqb (answer m s (after m s b (as_call x)) (as_call y)) 0) true (eq-eqb _ 0 j) refl)

  two_apart : (x y : BlockPaint) → apart m x y ≡ true → all_apart m (x ∷ y ∷ []) ≡ true
  unfolding all_apart apart_from_all
  two_apart x y h = and_both (apart m x y && true) true (and_both (apart m x y) true h refl) refl

  -- two paints that are apart, each order accepted, leave the same list and summary
  pub two_paints : (x y : BlockPaint) → apart m x y ≡ true
      → answer m s b (as_call x) ≡ 0
      → answer m s (after m s b (as_call x)) (as_call y) ≡ 0
      → answer m s b (as_call y) ≡ 0
      → answer m s (after m s b (as_call y)) (as_call x) ≡ 0
      → SameSheet (after m s (after m s b (as_call x)) (as_call y)) (after m s (after m s b (as_call y)) (as_call x))
  unfolding as_calls after_calls
  two_paints x y h x-first y-then y-first x-then =
      either_order m s b (x ∷ y ∷ []) (y ∷ x ∷ []) (swapped_times swap) (two_apart x y h) (two_in_full x y x-first y-then) (two_in_full y x y-first x-then)
