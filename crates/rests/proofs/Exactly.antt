-- What the claim says of taking back and redo: 11 comes exactly when no paint is held, 20 exactly when none is undone, and in slices with room for the
-- longest list, or where 9 does not come, the claim is demand 3's own. Rests on the claim AsLeft.
use Prim.Native.Nat.{ℕ, suc, ◌-◌, ◌/◌, ◌^◌, ◌≤◌}
use mathlib.Core.Path.{◌≡◌, refl, sym, ◌∙◌}
use mathlib.Core.Logic.{◌↔◌}
use mathlib.Core.Bool.{Bool, true, false, cond}
use mathlib.Core.List.{List, [], ◌∷◌}
use native.Mathlib.Omega.{arith}
use lib.ListN.{length}
use lib.Dec.{ltb}
use borrow.Author.Tests.{le-ltb}
use Rattle.keys.specs.Key.{root_key}
use Rattle.definitions.specs.Picture.{Picture}
use Rattle.definitions.specs.List.{list_of_picture}
use Rattle.laws.proofs.ListOf.{list_most}
use Rattle.history.specs.History.{taking_back, redoing, Paint, answer, drawn, applied}
use Rattle.history.specs.Claim.{back_answer, redo_answer, back_answer_in, redo_answer_in}
use Rattle.rests.specs.Events.{Reached, list_room}
use Rattle.rests.specs.AsLeft.{AsLeft}
use Rattle.rests.specs.Roomy.{AsBuiltLast}

-- a refusal for room, or none, is another number
not_eleven : (t : Bool) → ◌≡◌ {A = ℕ} (cond t 9 0) 11 → ⊥
not_eleven true e = omega arith
not_eleven false e = omega arith

not_twenty : (t : Bool) → ◌≡◌ {A = ℕ} (cond t 9 0) 20 → ⊥
not_twenty true e = omega arith
not_twenty false e = omega arith

some_none : (x : Paint) (xs : List Paint) → x ∷ xs ≡ [] → ⊥
some_none x xs e = let z : ◌≡◌ {A = ℕ} 0 1 = cc in omega arith

held_none : (m : ℕ) (p : Picture) (room_of_list : ℕ) (held : List Paint) → (back_answer_in m p room_of_list held ≡ 11) ↔ (held ≡ [])
unfolding back_answer_in
held_none m p room_of_list [] = (λ e. refl, λ e. refl)
held_none m p room_of_list (x ∷ xs) =
    (λ e. absurd (not_eleven (ltb room_of_list (length (list_of_picture m (drawn m p xs)))) e), λ e. absurd (some_none x xs e))

undone_none : (m : ℕ) (p : Picture) (room_of_list : ℕ) (undone : List Paint) → (redo_answer_in m p room_of_list undone ≡ 20) ↔ (undone ≡ [])
unfolding redo_answer_in
undone_none m p room_of_list [] = (λ e. refl, λ e. refl)
undone_none m p room_of_list (x ∷ xs) =
    (λ e. absurd (not_twenty (ltb room_of_list (length (list_of_picture m (applied m x p)))) e), λ e. absurd (some_none x xs e))

-- in slices with room for the longest list at m, which is the header's HLQ_MOST_RECORDS, no list lacks room
ample_back : (m : ℕ) (p : Picture) (room_of_list : ℕ) (held : List Paint) → (4 ^ suc m - 1) / 3 ≤ room_of_list → back_answer_in m p room_of_list held ≡ back_answer held
unfolding back_answer_in back_answer
ample_back m p room_of_list [] h = refl
ample_back m p room_of_list (x ∷ xs) h =
    let most = list_most (drawn m p xs) m 0 0 root_key in
    let fits : length (list_of_picture m (drawn m p xs)) ≤ room_of_list = omega arith in
    rw (le-ltb _ _ fits)

ample_again : (m : ℕ) (p : Picture) (room_of_list : ℕ) (undone : List Paint) → (4 ^ suc m - 1) / 3 ≤ room_of_list → redo_answer_in m p room_of_list undone ≡ redo_answer undone
unfolding redo_answer_in redo_answer
ample_again m p room_of_list [] h = refl
ample_again m p room_of_list (x ∷ xs) h =
    let most = list_most (applied m x p) m 0 0 root_key in
    let fits : length (list_of_picture m (applied m x p)) ≤ room_of_list = omega arith in
    rw (le-ltb _ _ fits)

module _ {m s : ℕ} {raster : List ℕ} (t : Reached) (h : AsLeft m s raster t) where
  -- taking back is refused with 11 exactly when no paint is held
  pub eleven_exactly : (answer m s t.buffers taking_back ≡ 11) ↔ (t.paints.held ≡ [])
  eleven_exactly =
      (λ e. (held_none m _ _ t.paints.held).0 (sym h.back ∙ e), λ e. h.back ∙ (held_none m _ _ t.paints.held).1 e)

  -- redo is refused with 20 exactly when none is there to redo
  pub twenty_exactly : (answer m s t.buffers redoing ≡ 20) ↔ (t.paints.undone ≡ [])
  twenty_exactly =
      (λ e. (undone_none m _ _ t.paints.undone).0 (sym h.again ∙ e), λ e. h.again ∙ (undone_none m _ _ t.paints.undone).1 e)

  -- with demand 3's two answers the claim is demand 3's record: all other fields are the same
  left_built : answer m s t.buffers taking_back ≡ back_answer t.paints.held → answer m s t.buffers redoing ≡ redo_answer t.paints.undone
      → AsBuiltLast m s raster t
  left_built back again =
      record {
        picture = h.picture;
        list = h.list;
        summary_left = h.summary_left;
        fresh = h.fresh;
        fresh_count = h.fresh_count;
        fresh_records = h.fresh_records;
        fresh_summary = h.fresh_summary;
        all_keys = h.all_keys;
        all_bits = h.all_bits;
        is-list = h.is-list;
        is_summary = h.is_summary;
        is_log = h.is_log;
        in-force = h.in-force;
        redoable = h.redoable;
        force_count = h.force_count;
        used_count = h.used_count;
        back = back;
        again = again;
        paints = h.paints;
        window_paints = h.window_paints;
        keys_length = h.keys_length;
        bits_length = h.bits_length;
        log_keys_length = h.log_keys_length;
        log_values_length = h.log_values_length;
        past_log_keys = h.past_log_keys;
        past_log_values = h.past_log_values;
      }

  -- so in slices with room for the longest list, whatever room there was before: taking back is refused with 11 alone there, and redo with 20 alone
  pub with_ample_room : (4 ^ suc m - 1) / 3 ≤ list_room t.lent → AsBuiltLast m s raster t
  with_ample_room ample =
      left_built (h.back ∙ ample_back m _ _ t.paints.held ample) (h.again ∙ ample_again m _ _ t.paints.undone ample)
