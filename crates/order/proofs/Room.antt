-- Where one order is accepted in full, another can be refused by the list's room alone: the log's entries need as many places in any order. So where the
-- list has room for any list, every order is accepted in full. Rests on the history theorem and LogLength.
use Prim.Native.Nat.{ℕ, suc, ◌+◌, ◌*◌, ◌^◌, ◌≤◌}
use mathlib.Core.Path.{◌≡◌, refl, sym, ap, subst, ◌∙◌}
use mathlib.Core.Bool.{Bool, true, false, not, ◌&&◌}
use mathlib.Core.List.{List, [], ◌∷◌, ◌++◌, append_assoc}
use native.Mathlib.Omega.{arith}
use lib.ListN.{length}
use lib.Dec.{leb, ltb, eqb}
use borrow.Author.Tests.{leb-true, le-ltb, eq-eqb, not-false, not-true}
use Rattle.keys.specs.Key.{root_key, valid_key}
use Rattle.keys.proofs.Cases.{and_left, and_right, and_both}
use Rattle.definitions.specs.Picture.{Picture}
use Rattle.definitions.specs.List.{list_of_picture}
use Rattle.definitions.specs.Read.{room, records_of}
use Rattle.definitions.specs.Edit.{paint_in}
use Rattle.definitions.specs.Log.{entry_of, is_sound, to_redo, no_log}
use Rattle.definitions.specs.Refusal.{Row, ◌gives◌, first, bad_key, bad_feature}
use Rattle.definitions.specs.Calls.Survey.{survey_refusal}
use Rattle.laws.proofs.First.{first_later, first_end}
use Rattle.laws.proofs.ListOf.{list_most}
use Rattle.laws.proofs.Pixels.{Agree}
use Rattle.history.specs.History.{Call, Buffers, answer, after, after_calls, picture_left}
use Rattle.order.specs.Paint.{BlockPaint}
use Rattle.history.specs.Claim.{paint_answer}
use Rattle.history.proofs.Content.{entry_agree}
use Rattle.order.specs.Rearranged.{times_in, Rearranged, Swapped, none, further, swap, and-then}
use Rattle.order.specs.Apart.{all_apart}
use Rattle.order.specs.Either.{as_call, as_calls, in_full, in_turn, records_on, after_paints}
use Rattle.order.proofs.Rearrangements.{times_swapped}
use Rattle.order.proofs.Sheets.{accepted_valid, accepted_below, first_accepted, rest_in_full, in_full_valid, run_list}
use Rattle.order.proofs.LogLength.{places_in_turn, places_either, run_longer}
use Rattle.order.proofs.OnASheet.{one_list, sheet_after, kept_after, after_history}

-- a paint that is not refused by its own key and feature
abbrev good : ℕ → ℕ → BlockPaint → Bool
good m s x = valid_key m x.key && not (bad_feature s x.feature)

unfoldable all_good : ℕ → ℕ → List BlockPaint → Bool
all_good m s [] = true
all_good m s (x ∷ xs) = good m s x && all_good m s xs

good_swapped : (m s : ℕ) {xs ys : List BlockPaint} → Swapped xs ys → all_good m s xs ≡ true → all_good m s ys ≡ true
unfolding all_good
good_swapped m s none h = h
good_swapped m s (further {x = x} {xs = xs} {ys = ys} d) h =
    and_both (good m s x) (all_good m s ys) (and_left (good m s x) (all_good m s xs) h) (good_swapped m s d (and_right (good m s x) (all_good m s xs) h))
good_swapped m s (swap {x = x} {y = y} {xs = xs}) h =
    let rest = and_right (good m s x) (good m s y && all_good m s xs) h in
    and_both (good m s y) (good m s x && all_good m s xs) (and_left (good m s y) (all_good m s xs) rest)
    (and_both (good m s x) (all_good m s xs) (and_left (good m s x) (good m s y && all_good m s xs) h) (and_right (good m s y) (all_good m s xs) rest))
good_swapped m s (and-then d e) h = good_swapped m s e (good_swapped m s d h)

-- wherever it comes in the run
good_at : (m s : ℕ) (front : List BlockPaint) (y : BlockPaint) (back : List BlockPaint) → all_good m s (front ++ (y ∷ back)) ≡ true → good m s y ≡ true
unfolding all_good
good_at m s [] y back h = and_left (good m s y) (all_good m s back) h
good_at m s (x ∷ front) y back h = good_at m s front y back (and_right (good m s x) (all_good m s (front ++ (y ∷ back))) h)

in_full_good : (m s : ℕ) (b : Buffers) (xs : List BlockPaint) → in_full m s b xs ≡ true → all_good m s xs ≡ true
unfolding all_good
in_full_good m s b [] h = refl
in_full_good m s b (x ∷ xs) h =
    let e = first_accepted m s b x xs h in
    and_both (good m s x) (all_good m s xs)
    (and_both (valid_key m x.key) (not (bad_feature s x.feature)) (accepted_valid m s b x e) (ap not (accepted_below m s b x e)))
    (in_full_good m s (after m s b (as_call x)) xs (rest_in_full m s b x xs h))

-- the places of a run are those of its two parts
places-append : (m : ℕ) (p : Picture) (front back : List BlockPaint) → places_in_turn m p (front ++ back) ≡ places_in_turn m p front + places_in_turn m (in_turn m p front) back
unfolding places_in_turn in_turn
places-append m p [] back = omega arith
places-append m p (x ∷ front) back = let e = places-append m (paint_in m x.key x.feature p) front back in omega arith

-- the first paint of a run needs no more than the run
first_places : (m : ℕ) (p : Picture) (y : BlockPaint) (back : List BlockPaint) → length (entry_of m p y.key y.feature) ≤ places_in_turn m p (y ∷ back)
unfolding places_in_turn
first_places m p y back = omega arith

-- the one row that is left
abbrev list_row : (room_of_list records : ℕ) → Row
list_row room_of_list records = ltb room_of_list records gives 9

-- where key, feature and the log's room are in order, the list's room decides
by_list : (m s : ℕ) (p : Picture) (room_of_list room_of_log in_force κ f : ℕ) → bad_key m κ ≡ false → bad_feature s f ≡ false
    → in_force + length (entry_of m p κ f) ≤ room_of_log
    → paint_answer m s p room_of_list room_of_log in_force κ f ≡ first (list_row room_of_list (length (list_of_picture m (paint_in m κ f p))) ∷ [])
unfolding paint_answer
by_list m s p room_of_list room_of_log in_force κ f key feature fits =
    first_later _ _ key ∙ first_later _ _ feature ∙ first_later _ _ (le-ltb room_of_log (in_force + length (entry_of m p κ f)) fits)

-- a run with one paint more
one_more : (m s : ℕ) (b : Buffers) (front : List BlockPaint) (y : BlockPaint) → after_paints m s b (front ++ (y ∷ [])) ≡ after m s (after_paints m s b front) (as_call y)
unfolding as_calls after_calls
one_more m s b [] y = refl
one_more m s b (x ∷ front) y = one_more m s (after m s b (as_call x)) front y

-- is accepted in full where the run is and then the paint
in_full_more : (m s : ℕ) (b : Buffers) (front : List BlockPaint) (y : BlockPaint) → in_full m s b front ≡ true → answer m s (after_paints m s b front) (as_call y) ≡ 0
    → in_full m s b (front ++ (y ∷ [])) ≡ true
unfolding in_full as_calls after_calls
in_full_more m s b [] y h e = and_both (eqb (answer m s b (as_call y)) 0) true (eq-eqb _ 0 e) refl
in_full_more m s b (x ∷ front) y h e =
    let next : Buffers = after m s b (as_call x) in
    and_both (eqb (answer m s b (as_call x)) 0) (in_full m s next (front ++ (y ∷ [])))
    (and_left (eqb (answer m s b (as_call x)) 0) (in_full m s next front) h)
    (in_full_more m s next front y (and_right (eqb (answer m s b (as_call x)) 0) (in_full m s next front) h) e)

module _ (m s : ℕ) (raster keys bits summary log_keys log_values : List ℕ) (accepted : survey_refusal m s raster keys bits summary ≡ 0) (before : List Call) where
  abbrev sheet : Buffers
  sheet = sheet_after m s raster keys bits summary log_keys log_values before

  -- the picture after a run of paints on the sheet
  abbrev left : List BlockPaint → Picture
  left xs = picture_left m raster (kept_after m s raster keys bits summary log_keys log_values before xs)

  first_list : records_on sheet ≡ list_of_picture m (left [])
  unfolding as_calls after_calls
  first_list = (after_history m s raster keys bits summary log_keys log_values accepted before []).picture

  left_agrees : (xs : List BlockPaint) → in_full m s sheet xs ≡ true → Agree (left xs) (in_turn m (left []) xs) m 0 0
  left_agrees xs h =
      one_list m (left xs) (in_turn m (left []) xs)
      (sym (after_history m s raster keys bits summary log_keys log_values accepted before xs).picture ∙ run_list m s sheet (left []) xs first_list h)

  -- the log is within its room
  log-fits : (xs : List BlockPaint) → (after_paints m s sheet xs).in_force ≤ room log_keys log_values
  unfolding no_log
  log-fits xs =
      let a = after_history m s raster keys bits summary log_keys log_values accepted before xs in
      let b : Buffers = after_paints m s sheet xs in
      let there : Bool = leb b.used (room b.log_keys b.log_values) in
      let within : Bool = leb b.in_force b.used in
      let front : Bool = is_sound m s (records_of b.log_keys b.log_values b.in_force) in
      let redo : Bool = is_sound m s (to_redo b.log_keys b.log_values b.used b.in_force) in
      let both = and_left (there && within) front (and_left (there && within && front) redo (not-false _ a.is_log)) in
      let x = leb-true b.used (room b.log_keys b.log_values) (and_left there within both) in
      let y = leb-true b.in_force b.used (and_right there within both) in
      let e = a.log_keys_length in
      let f = a.log_values_length in
      omega arith

  module _ (xs : List BlockPaint) (h : all_apart m xs ≡ true) (i : in_full m s sheet xs ≡ true) where
    -- the entry of a paint of another order has room in the log
    entry_fits : (front : List BlockPaint) (y : BlockPaint) (back : List BlockPaint) → Rearranged xs (front ++ (y ∷ back)) → in_full m s sheet front ≡ true → valid_key m y.key ≡ true
        → (after_paints m s sheet front).in_force + length (entry_of m (left front) y.key y.feature) ≤ room log_keys log_values
    entry_fits front y back r j valid =
        let p : Picture = left [] in
        let now : Picture = in_turn m p front in
        let entry : length (entry_of m (left front) y.key y.feature) ≡ length (entry_of m now y.key y.feature) =
        ap length (entry_agree m y.key y.feature (left front) now valid (left_agrees front j)) in
        let all = places_either m p xs (front ++ (y ∷ back)) r (in_full_valid m s sheet xs i) h in
        let parts = places-append m p front (y ∷ back) in
        let least = first_places m now y back in
        let far = run_longer m s sheet p front first_list j in
        let whole = run_longer m s sheet p xs first_list i in
        let fits = log-fits xs in
        omega arith

    -- a paint of another order, after others of it that were accepted, is answered by the list's room alone
    pub only_nine : (front : List BlockPaint) (y : BlockPaint) (back : List BlockPaint) → Rearranged xs (front ++ (y ∷ back)) → in_full m s sheet front ≡ true
        → answer m s (after_paints m s sheet front) (as_call y)
        ≡ first (list_row (room keys bits) (length (list_of_picture m (paint_in m y.key y.feature (left front)))) ∷ [])
    only_nine front y back r j =
        let fine = good_at m s front y back (good_swapped m s (times_swapped xs (front ++ (y ∷ back)) r) (in_full_good m s sheet xs i)) in
        let valid = and_left (valid_key m y.key) (not (bad_feature s y.feature)) fine in
        let below = and_right (valid_key m y.key) (not (bad_feature s y.feature)) fine in
        (after_history m s raster keys bits summary log_keys log_values accepted before front).paints y.key y.feature
        ∙ by_list m s (left front) (room keys bits) (room log_keys log_values) (after_paints m s sheet front).in_force y.key y.feature
        (ap not valid) (not-true _ below) (entry_fits front y back r j valid)

    -- where the list has room for any list it is accepted
    next_accepted : 4 ^ suc m ≤ 3 * room keys bits + 1 → (front : List BlockPaint) (y : BlockPaint) (back : List BlockPaint) → Rearranged xs (front ++ (y ∷ back))
        → in_full m s sheet front ≡ true
        → answer m s (after_paints m s sheet front) (as_call y) ≡ 0
    next_accepted ample front y back r j =
        let q : Picture = paint_in m y.key y.feature (left front) in
        let most = list_most q m 0 0 root_key in
        only_nine front y back r j
        ∙ first_later (list_row (room keys bits) (length (list_of_picture m q))) [] (le-ltb (room keys bits) (length (list_of_picture m q)) (omega arith))
        ∙ first_end

    -- the rest of another order is accepted, after as much of it as was accepted
    rest_accepted : 4 ^ suc m ≤ 3 * room keys bits + 1 → (front back : List BlockPaint) → Rearranged xs (front ++ back) → in_full m s sheet front ≡ true
        → in_full m s (after_paints m s sheet front) back ≡ true
    unfolding in_full
    rest_accepted ample front [] r j = refl
    rest_accepted ample front (y ∷ back) r j =
        let b : Buffers = after_paints m s sheet front in
        let e = next_accepted ample front y back r j in
        and_both (eqb (answer m s b (as_call y)) 0) (in_full m s (after m s b (as_call y)) back) (eq-eqb _ 0 e)
        (subst (λ b'. in_full m s b' back ≡ true) (one_more m s sheet front y)
        (rest_accepted ample (front ++ (y ∷ [])) back (λ z. r z ∙ ap (times_in z) (sym (append_assoc front (y ∷ []) back))) (in_full_more m s sheet front y j e)))

    -- every order of the paints is accepted in full where one is, if the list has room for any list
    pub every_order : 4 ^ suc m ≤ 3 * room keys bits + 1 → (ys : List BlockPaint) → Rearranged xs ys → in_full m s sheet ys ≡ true
    unfolding in_full as_calls after_calls
    every_order ample ys r = rest_accepted ample [] ys r refl
