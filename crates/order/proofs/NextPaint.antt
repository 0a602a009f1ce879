-- After two orders that were accepted in full every further paint is answered alike: list, rooms and the log's length are the same. Rests on the history
-- theorem, Theorem and LogLength.
use Prim.Native.Nat.{ℕ, ◌+◌}
use mathlib.Core.Path.{◌≡◌, sym, ap, ap₂, ◌∙◌}
use mathlib.Core.Bool.{true}
use mathlib.Core.List.{List, [], ◌∷◌}
use lib.ListN.{length}
use lib.Dec.{ltb}
use borrow.Author.Tests.{not-false}
use Rattle.keys.specs.Key.{root_key}
use Rattle.keys.proofs.Cases.{decide}
use Rattle.definitions.specs.Picture.{Picture}
use Rattle.definitions.specs.List.{list_of_picture}
use Rattle.definitions.specs.Read.{room}
use Rattle.definitions.specs.Edit.{paint_in}
use Rattle.definitions.specs.Log.{entry_of}
use Rattle.definitions.specs.Refusal.{Row, ◌gives◌, first, bad_key, bad_feature}
use Rattle.definitions.specs.Calls.Survey.{survey_refusal}
use Rattle.laws.proofs.First.{first_this}
use Rattle.laws.proofs.ListOf.{list_agree}
use Rattle.laws.proofs.Pixels.{Agree}
use Rattle.history.specs.History.{Call, Buffers, answer, picture_left}
use Rattle.order.specs.Paint.{BlockPaint}
use Rattle.history.specs.Claim.{paint_answer}
use Rattle.history.proofs.Content.{entry_agree}
use Rattle.history.proofs.Drawn.{paint_agree}
use Rattle.order.specs.Rearranged.{Rearranged}
use Rattle.order.specs.Apart.{all_apart}
use Rattle.order.specs.Either.{as_call, in_full, after_paints}
use Rattle.order.proofs.Theorem.{either_order}
use Rattle.order.proofs.OnASheet.{one_list, sheet_after, kept_after, after_history}
use Rattle.order.proofs.LogLength.{either_log-length}

-- the rows after 8
abbrev later : (s f room_of_list room_of_log in_force entry list : ℕ) → List Row
later s f room_of_list room_of_log in_force entry list =
    bad_feature s f gives 7 ∷ ltb room_of_log (in_force + entry) gives 10 ∷ ltb room_of_list list gives 9 ∷ []

-- pictures that agree on the map answer a paint alike
answer_agree : (m s : ℕ) (p q : Picture) (room_of_list room_of_log in_force κ f : ℕ) → Agree p q m 0 0
    → paint_answer m s p room_of_list room_of_log in_force κ f ≡ paint_answer m s q room_of_list room_of_log in_force κ f
unfolding paint_answer
answer_agree m s p q room_of_list room_of_log in_force κ f h =
    let row : Row = bad_key m κ gives 8 in
    let rest = later s f room_of_list room_of_log in_force in
    let list : list_of_picture m (paint_in m κ f p) ≡ list_of_picture m (paint_in m κ f q) =
    list_agree (paint_in m κ f p) (paint_in m κ f q) m 0 0 root_key (paint_agree m κ f p q m 0 0 h) in
    decide (bad_key m κ)
    (λ bad. first_this row (rest (length (entry_of m p κ f)) (length (list_of_picture m (paint_in m κ f p)))) bad
    ∙ sym (first_this row (rest (length (entry_of m q κ f)) (length (list_of_picture m (paint_in m κ f q)))) bad))
    (λ good. ap₂ (λ entry l. first (row ∷ rest (length entry) (length l))) (entry_agree m κ f p q (not-false _ good) h) list)

module _ (m s : ℕ) (raster keys bits summary log_keys log_values : List ℕ) (accepted : survey_refusal m s raster keys bits summary ≡ 0) (before : List Call) where
  -- after two orders that were accepted in full every further paint is answered alike
  pub next_alike : (xs ys : List BlockPaint) → Rearranged xs ys → all_apart m xs ≡ true → in_full m s (sheet_after m s raster keys bits summary log_keys log_values before) xs ≡ true
      → in_full m s (sheet_after m s raster keys bits summary log_keys log_values before) ys ≡ true
      → (x : BlockPaint)
      → answer m s (after_paints m s (sheet_after m s raster keys bits summary log_keys log_values before) xs) (as_call x)
      ≡ answer m s (after_paints m s (sheet_after m s raster keys bits summary log_keys log_values before) ys) (as_call x)
  next_alike xs ys r h i j x =
      let a = after_history m s raster keys bits summary log_keys log_values accepted before xs in
      let b = after_history m s raster keys bits summary log_keys log_values accepted before ys in
      let sheet : Buffers = sheet_after m s raster keys bits summary log_keys log_values before in
      let left = kept_after m s raster keys bits summary log_keys log_values before in
      let one : list_of_picture m (picture_left m raster (left xs)) ≡ list_of_picture m (picture_left m raster (left ys)) =
      sym a.picture ∙ (either_order m s sheet xs ys r h i j).list ∙ b.picture in
      a.paints x.key x.feature
      ∙ ap (λ n. paint_answer m s (picture_left m raster (left xs)) (room keys bits) (room log_keys log_values) n x.key x.feature) (either_log-length m s sheet xs ys r h i j)
      ∙ answer_agree m s (picture_left m raster (left xs)) (picture_left m raster (left ys)) (room keys bits) (room log_keys log_values)
      (after_paints m s sheet ys).in_force x.key x.feature
      (one_list m (picture_left m raster (left xs)) (picture_left m raster (left ys)) one)
      ∙ sym (b.paints x.key x.feature)
