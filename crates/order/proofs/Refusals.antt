-- Whatever calls came before, a paint is answered the same, or accepted, or refused for want of room: so the order of paints matters to a refusal only by
-- 10 and 9. Rests on the history theorem.
use Prim.Native.Nat.{ℕ, ◌+◌}
use mathlib.Core.Path.{◌≡◌, sym, ap, ap₂, ◌∙◌}
use mathlib.Core.Bool.{Bool, true, ◌&&◌}
use mathlib.Core.List.{List, [], ◌∷◌}
use lib.ListN.{length}
use lib.Dec.{ltb, eqb}
use borrow.Author.Tests.{eq-eqb}
use Rattle.keys.proofs.Cases.{decide, and_both, or_left, or_right}
use Rattle.definitions.specs.Picture.{Picture}
use Rattle.definitions.specs.List.{list_of_picture}
use Rattle.definitions.specs.Read.{room}
use Rattle.definitions.specs.Edit.{paint_in}
use Rattle.definitions.specs.Log.{entry_of}
use Rattle.definitions.specs.Refusal.{Row, ◌gives◌, first, bad_key, bad_feature}
use Rattle.definitions.specs.Calls.Survey.{survey_refusal}
use Rattle.laws.proofs.First.{first_this, first_later, first_end}
use Rattle.history.specs.History.{Call, Buffers, nothing, built, answer, after_calls, kept, picture_left}
use Rattle.order.specs.Paint.{BlockPaint}
use Rattle.history.specs.Claim.{paint_answer}
use Rattle.history.proofs.Theorem.{history}
use Rattle.order.specs.Either.{as_call, is_of_room, same_but_room}

-- the two rows of room
abbrev rooms : Bool → Bool → List Row
rooms no_log_room no_list_room = no_log_room gives 10 ∷ no_list_room gives 9 ∷ []

-- give 10, 9 or 0
by-room : (no_log_room no_list_room : Bool) → is_of_room (first (rooms no_log_room no_list_room)) ≡ true
by-room no_log_room no_list_room =
    decide no_log_room
    (λ e. ap is_of_room (first_this (no_log_room gives 10) (no_list_room gives 9 ∷ []) e))
    (λ e. decide no_list_room
    (λ f. ap is_of_room (first_later (no_log_room gives 10) (no_list_room gives 9 ∷ []) e ∙ first_this (no_list_room gives 9) [] f))
    (λ f. ap is_of_room (first_later (no_log_room gives 10) (no_list_room gives 9 ∷ []) e ∙ first_later (no_list_room gives 9) [] f ∙ first_end)))

same_number : (a b number : ℕ) → a ≡ number → b ≡ number → same_but_room a b ≡ true
same_number a b number e f = or_left (eqb a b) (is_of_room a && is_of_room b) (eq-eqb a b (e ∙ sym f))

-- tables that begin with the same two rows and end with those of room
by_rows : (key feature a b c d : Bool)
    → same_but_room (first (key gives 8 ∷ feature gives 7 ∷ rooms a b)) (first (key gives 8 ∷ feature gives 7 ∷ rooms c d)) ≡ true
by_rows key feature a b c d =
    let row : Row = key gives 8 in
    let row' : Row = feature gives 7 in
    decide key
    (λ e. same_number _ _ 8 (first_this row (row' ∷ rooms a b) e) (first_this row (row' ∷ rooms c d) e))
    (λ e. decide feature
    (λ f. same_number _ _ 7
    (first_later row (row' ∷ rooms a b) e ∙ first_this row' (rooms a b) f)
    (first_later row (row' ∷ rooms c d) e ∙ first_this row' (rooms c d) f))
    (λ f.
    let x : first (row ∷ row' ∷ rooms a b) ≡ first (rooms a b) = first_later row (row' ∷ rooms a b) e ∙ first_later row' (rooms a b) f in
    let y : first (row ∷ row' ∷ rooms c d) ≡ first (rooms c d) = first_later row (row' ∷ rooms c d) e ∙ first_later row' (rooms c d) f in
    ap₂ same_but_room x y
    ∙ or_right (eqb (first (rooms a b)) (first (rooms c d))) (is_of_room (first (rooms a b)) && is_of_room (first (rooms c d)))
    (and_both (is_of_room (first (rooms a b))) (is_of_room (first (rooms c d))) (by-room a b) (by-room c d))))

-- whatever the picture and the log are
answers_differ : (m s : ℕ) (p q : Picture) (in_list in_log used used' κ f : ℕ)
    → same_but_room (paint_answer m s p in_list in_log used κ f) (paint_answer m s q in_list in_log used' κ f) ≡ true
unfolding paint_answer
answers_differ m s p q in_list in_log used used' κ f =
    by_rows (bad_key m κ) (bad_feature s f)
    (ltb in_log (used + length (entry_of m p κ f))) (ltb in_list (length (list_of_picture m (paint_in m κ f p))))
    (ltb in_log (used' + length (entry_of m q κ f))) (ltb in_list (length (list_of_picture m (paint_in m κ f q))))

-- from an accepted build, a paint after any calls and the same paint after any others are answered the same, or differ by room alone
pub refusals_differ : (m s : ℕ) (raster keys bits summary log_keys log_values : List ℕ) → survey_refusal m s raster keys bits summary ≡ 0
    → (calls calls' : List Call) (x : BlockPaint)
    → same_but_room (answer m s (after_calls m s (built m s raster keys bits summary log_keys log_values) calls) (as_call x))
    (answer m s (after_calls m s (built m s raster keys bits summary log_keys log_values) calls') (as_call x))
    ≡ true
refusals_differ m s raster keys bits summary log_keys log_values accepted calls calls' x =
    let start : Buffers = built m s raster keys bits summary log_keys log_values in
    let h = history m s raster keys bits summary log_keys log_values accepted calls in
    let j = history m s raster keys bits summary log_keys log_values accepted calls' in
    ap₂ same_but_room (h.paints x.key x.feature) (j.paints x.key x.feature)
    ∙ answers_differ m s (picture_left m raster (kept m s start nothing calls)) (picture_left m raster (kept m s start nothing calls'))
    (room keys bits) (room log_keys log_values) (after_calls m s start calls).in_force (after_calls m s start calls').in_force x.key x.feature
