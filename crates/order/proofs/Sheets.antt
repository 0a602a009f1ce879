-- What accepted paints leave on a sheet: the list and the summary of the picture with the paints in turn. Any buffers may be the first, since an
-- accepted paint has checked them. Rests on the steps of the history and on paint's own definitions.
use Prim.Native.Nat.{ℕ}
use mathlib.Core.Path.{◌≡◌, refl, sym, ap, subst, ◌∙◌}
use mathlib.Core.Bool.{Bool, true, false, ◌&&◌}
use mathlib.Core.List.{List, [], ◌∷◌}
use lib.ListN.{length}
use lib.Dec.{leb, eqb}
use borrow.Author.Tests.{eqb-true, not-false}
use Rattle.keys.specs.Key.{valid_key}
use Rattle.keys.proofs.Cases.{and_left, and_right, and_both}
use Rattle.definitions.specs.Picture.{Picture, features_below}
use Rattle.definitions.specs.List.{Record, list_of_picture}
use Rattle.definitions.specs.Read.{room, records_of, picture_of, same_records, is_list_of_block, is_list}
use Rattle.definitions.specs.Area.{summary_of}
use Rattle.definitions.specs.Edit.{paint_in}
use Rattle.definitions.specs.Refusal.{bad_feature}
use Rattle.definitions.specs.Calls.Paint.{painted_picture, painted, paint}
use Rattle.laws.proofs.Edits.{edit_passed}
use Rattle.laws.proofs.IsList.{same_to}
use Rattle.history.specs.History.{Buffers, of_block, painting, lent_to, applied, answer, after, after_calls}
use Rattle.order.specs.Paint.{BlockPaint}
use Rattle.history.proofs.Content.{painted_list, painted_summary}
use Rattle.history.proofs.Shown.{shown_records, shown_replaced}
use Rattle.history.proofs.PaintStep.{list_after, paint_done}
use Rattle.order.specs.Apart.{all_valid}
use Rattle.order.specs.Either.{as_call, as_calls, in_full, in_turn, records_on, picture_in, SameSheet, after_paints}

-- what an accepted paint has checked
record Passed (m s : ℕ) (b : Buffers) (κ f : ℕ) : Type 0 where
  list : is_list m s b.keys b.bits b.n ≡ true
  valid : valid_key m κ ≡ true
  below : bad_feature s f ≡ false

passed : (m s : ℕ) (b : Buffers) (κ f : ℕ) → answer m s b (painting (of_block κ f)) ≡ 0 → Passed m s b κ f
unfolding answer
passed m s b κ f e =
    let all = edit_passed (lent_to b (paint m s) κ f) refl e in
    record { list = not-false _ all.sheet.listed; valid = not-false _ all.own.0; below = all.own.1.0 }

-- a list is that of the picture that it shows
shown_list : (m s : ℕ) (keys bits : List ℕ) (n : ℕ) → is_list m s keys bits n ≡ true
    → records_of keys bits n ≡ list_of_picture m (picture_of m (records_of keys bits n))
unfolding is_list is_list_of_block
shown_list m s keys bits n e =
    let l : List Record = records_of keys bits n in
    let own : List Record = list_of_picture m (picture_of m l) in
    let below : Bool = features_below s (picture_of m l) m 0 0 in
    same_to l own (and_left (same_records l own) below (and_right (leb n (room keys bits)) (same_records l own && below) e))

-- the list and the summary of a picture stand on the sheet
pub record SheetShows (m s : ℕ) (b : Buffers) (p : Picture) : Type 0 where
  pub count : b.n ≡ length (list_of_picture m p)
  pub list : records_on b ≡ list_of_picture m p
  pub summary : b.summary ≡ summary_of m s p

-- sheets that show one picture have the same list and summary
pub shows_same : (m s : ℕ) (b b' : Buffers) (p q : Picture) → SheetShows m s b p → SheetShows m s b' q → p ≡ q → SameSheet b b'
shows_same m s b b' p q h j e = record {
  count = h.count ∙ ap (λ r. length (list_of_picture m r)) e ∙ sym j.count;
  list = h.list ∙ ap (list_of_picture m) e ∙ sym j.list;
  summary = h.summary ∙ ap (summary_of m s) e ∙ sym j.summary;
}

module _ (m s : ℕ) where
  -- an accepted paint leaves the list and the summary of the painted picture
  pub paint_shows : (b : Buffers) (p : Picture) (x : BlockPaint) → records_on b ≡ list_of_picture m p → answer m s b (as_call x) ≡ 0
      → SheetShows m s (after m s b (as_call x)) (paint_in m x.key x.feature p)
  unfolding applied painted
  paint_shows b p x e accepted =
      let κ : ℕ = x.key in
      let f : ℕ = x.feature in
      let l : List Record = list_after m b (of_block κ f) in
      let is : l ≡ list_of_picture m (paint_in m κ f p) = ap (λ l'. painted m l' κ f) e ∙ painted_list m κ f p in
      subst (λ b'. SheetShows m s b' (paint_in m κ f p)) (sym (paint_done m s b (of_block κ f) accepted)) (record {
        count = ap length is;
        list = shown_records (shown_replaced b.n l b.keys b.bits) ∙ is;
        summary = ap (λ l'. summary_of m s (painted_picture m l' κ f)) e ∙ painted_summary m s κ f p;
      })

  -- buffers that a paint was accepted on have the list of the picture that they show
  pub accepted_list : (b : Buffers) (x : BlockPaint) → answer m s b (as_call x) ≡ 0 → records_on b ≡ list_of_picture m (picture_in m b)
  accepted_list b x e = shown_list m s b.keys b.bits b.n (passed m s b x.key x.feature e).list

  -- and its key was valid
  pub accepted_valid : (b : Buffers) (x : BlockPaint) → answer m s b (as_call x) ≡ 0 → valid_key m x.key ≡ true
  accepted_valid b x e = (passed m s b x.key x.feature e).valid

  -- and its feature below s
  pub accepted_below : (b : Buffers) (x : BlockPaint) → answer m s b (as_call x) ≡ 0 → bad_feature s x.feature ≡ false
  accepted_below b x e = (passed m s b x.key x.feature e).below

  -- the first paint of a run that is accepted in full is accepted
  pub first_accepted : (b : Buffers) (x : BlockPaint) (xs : List BlockPaint) → in_full m s b (x ∷ xs) ≡ true → answer m s b (as_call x) ≡ 0
  unfolding in_full
  first_accepted b x xs h = eqb-true _ 0 (and_left (eqb (answer m s b (as_call x)) 0) (in_full m s (after m s b (as_call x)) xs) h)

  -- and so is the rest of the run
  pub rest_in_full : (b : Buffers) (x : BlockPaint) (xs : List BlockPaint) → in_full m s b (x ∷ xs) ≡ true → in_full m s (after m s b (as_call x)) xs ≡ true
  unfolding in_full
  rest_in_full b x xs h = and_right (eqb (answer m s b (as_call x)) 0) (in_full m s (after m s b (as_call x)) xs) h

  -- its blocks are blocks
  pub in_full_valid : (b : Buffers) (xs : List BlockPaint) → in_full m s b xs ≡ true → all_valid m xs ≡ true
  unfolding all_valid
  in_full_valid b [] h = refl
  in_full_valid b (x ∷ xs) h =
      and_both (valid_key m x.key) (all_valid m xs)
      (accepted_valid b x (first_accepted b x xs h))
      (in_full_valid (after m s b (as_call x)) xs (rest_in_full b x xs h))

  -- a run on a sheet that shows a picture leaves one that shows the picture with the paints in turn
  more_shows : (b : Buffers) (p : Picture) (xs : List BlockPaint) → SheetShows m s b p → in_full m s b xs ≡ true → SheetShows m s (after_paints m s b xs) (in_turn m p xs)
  unfolding as_calls after_calls in_turn
  more_shows b p [] h e = h
  more_shows b p (x ∷ xs) h e =
      more_shows (after m s b (as_call x)) (paint_in m x.key x.feature p) xs
      (paint_shows b p x h.list (first_accepted b x xs e)) (rest_in_full b x xs e)

  -- a run on a picture's list leaves the list of the picture with the paints in turn
  pub run_list : (b : Buffers) (p : Picture) (xs : List BlockPaint) → records_on b ≡ list_of_picture m p → in_full m s b xs ≡ true
      → records_on (after_paints m s b xs) ≡ list_of_picture m (in_turn m p xs)
  unfolding as_calls after_calls in_turn
  run_list b p [] e h = e
  run_list b p (x ∷ xs) e h =
      run_list (after m s b (as_call x)) (paint_in m x.key x.feature p) xs (paint_shows b p x e (first_accepted b x xs h)).list (rest_in_full b x xs h)

  -- a run of paints that is accepted in full, on any buffers, leaves the list and the summary of their picture with the paints in turn
  pub run_shows : (b : Buffers) (x : BlockPaint) (xs : List BlockPaint) → in_full m s b (x ∷ xs) ≡ true
      → SheetShows m s (after_paints m s b (x ∷ xs)) (in_turn m (picture_in m b) (x ∷ xs))
  unfolding as_calls after_calls in_turn
  run_shows b x xs h =
      let accepted = first_accepted b x xs h in
      more_shows (after m s b (as_call x)) (paint_in m x.key x.feature (picture_in m b)) xs
      (paint_shows b (picture_in m b) x (accepted_list b x accepted) accepted) (rest_in_full b x xs h)
