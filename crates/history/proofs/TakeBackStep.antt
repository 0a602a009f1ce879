-- A taking back in a history: its answer is 11 where no paint is held, 9 where slices lent later have no room for the list before the latest paint, and 0
-- otherwise; it undoes the latest paint held, and the invariant is kept.
-- Rests on EditStep and Applied.
use Prim.Native.Nat.{ℕ, ◌≤◌, max}
use mathlib.Core.Path.{◌≡◌, refl, sym, ap, ap₂, ◌∙◌}
use mathlib.Core.Bool.{true, cond}
use mathlib.Core.List.{List, [], ◌∷◌, ◌++◌}
use native.Mathlib.Omega.{arith}
use lib.ListN.{length}
use lib.Dec.{ltb, eqb}
use borrow.Author.Tests.{ne_eqb, eq-eqb}
use Rattle.definitions.specs.Picture.{Picture, features_below}
use Rattle.definitions.specs.List.{Record, list_of_picture}
use Rattle.definitions.specs.Read.{room, records_of}
use Rattle.definitions.specs.Area.{summary_of}
use Rattle.definitions.specs.Log.{before_step}
use Rattle.definitions.specs.Refusal.{◌gives◌}
use Rattle.definitions.specs.Calls.Edit.{Edit, edit_refusal}
use Rattle.definitions.specs.Calls.TakeBack.{restored_picture, restored}
use Rattle.laws.proofs.First.{NoneHolds, this}
use Rattle.laws.proofs.Edits.{own_refuses}
use Rattle.history.specs.History.{Buffers, Paint, Kept, taking_back, without_latest, applied, logged_by, drawn, log_of, log_after, after_edit, after, answer, keep}
use Rattle.history.specs.Claim.{back_answer, back_answer_in}
use Rattle.history.proofs.Drawn.{drawn_latest}
use Rattle.history.proofs.Fit.{Fit}
use Rattle.history.proofs.Applied.{restored_list, restored_summary, without_step}
use Rattle.history.proofs.Past.{log_none, log_latest, log_some, past_legal, past_before, past_fit, next, after_next}
use Rattle.history.proofs.Slices.{list_replaced}
use Rattle.history.proofs.LogSlices.{log_back}
use Rattle.history.proofs.Invariant.{Invariant, now_records, now_few, now_force, Keeps, same_keeps}
use Rattle.history.proofs.EditStep.{with_force, step_edit, edit_leaves, now_sheet, step_answer, step_accepted, step_keeps}

-- the picture that taking back makes of these buffers
abbrev picture_back : ℕ → Buffers → Picture
picture_back m b = restored_picture m (records_of b.keys b.bits b.n) (records_of b.log_keys b.log_values b.in_force)

-- the records in force without the last step
abbrev before : Buffers → ℕ
before b = length (before_step (records_of b.log_keys b.log_values b.in_force))

module _ (m s : ℕ) (b : Buffers) where
  -- its edit
  abbrev back : Edit
  back = step_edit m s b (eqb b.in_force 0 gives 11 ∷ []) (picture_back m b) (before b)

  refuses : answer m s b taking_back ≡ edit_refusal back
  unfolding answer
  refuses = refl

  leads : after m s b taking_back ≡ after_edit b back
  unfolding after
  leads = refl

  -- a refused one leaves the buffers
  pub back_left : (answer m s b taking_back ≡ 0 → ⊥) → after m s b taking_back ≡ b
  back_left h = leads ∙ edit_leaves m s b _ _ _ _ _ _ (λ e. h (refuses ∙ e))

-- and the paints
keep_left : (k : Kept) (refusal : ℕ) → (refusal ≡ 0 → ⊥) → keep taking_back refusal k ≡ k
unfolding keep
keep_left k refusal h = rw (ne_eqb refusal 0 h)

-- an accepted one undoes the latest paint
keep_done : (x : Paint) (xs undone fixed : List Paint)
    → keep taking_back 0 (record { held = x ∷ xs; undone = undone; fixed = fixed }) ≡ record { held = xs; undone = x ∷ undone; fixed = fixed }
unfolding keep without_latest
keep_done x xs undone fixed = refl

module _ {m s size : ℕ} {p : Picture} {keys bits log_keys log_values : List ℕ} {b : Buffers} {in_list in_log : ℕ} (x : Paint) (xs undone fixed : List Paint)
    (h : Invariant m s size p keys bits log_keys log_values b (record { held = x ∷ xs; undone = undone; fixed = fixed }) in_list in_log) where
  -- the picture before the latest paint
  abbrev former : Picture
  former = drawn m (drawn m p fixed) xs

  -- the log before it
  abbrev former_log : List Record
  former_log = log_of m (drawn m p fixed) xs

  -- the paint is fit, and found a legal picture
  latest_fit : Fit m s x
  latest_fit = past_fit h.past

  former_below : features_below s former m 0 0 ≡ true
  former_below = (past_legal (past_before h.past)).below

  -- the records in force are that log and the paint's step
  log_is : records_of b.log_keys b.log_values b.in_force ≡ former_log ++ logged_by m former x
  log_is = now_force h ∙ log_latest m (drawn m p fixed) x xs

  -- the list afterwards is that of the picture before
  list_is : list_of_picture m (picture_back m b) ≡ list_of_picture m former
  unfolding restored
  list_is =
      ap₂ (λ l log. restored m l log) (now_records h ∙ ap (λ q. list_of_picture m q) (drawn_latest m (drawn m p fixed) x xs)) log_is
      ∙ restored_list former (now_few h) latest_fit former_below former_log

  -- the summary afterwards is that of the picture before
  summary_is : summary_of m s (picture_back m b) ≡ summary_of m s former
  summary_is =
      ap₂ (λ l log. summary_of m s (restored_picture m l log)) (now_records h ∙ ap (λ q. list_of_picture m q) (drawn_latest m (drawn m p fixed) x xs)) log_is
      ∙ restored_summary former (now_few h) latest_fit former_below former_log

  -- as many are in force afterwards as the log before had
  before_is : before b ≡ length former_log
  before_is = ap (λ log. length (before_step log)) log_is ∙ ap length (without_step former (now_few h) latest_fit former_below former_log)

  -- that list had room in some slices
  former_fits : length (list_of_picture m former) ≤ size
  former_fits = (past_legal (past_before h.past)).fits

  -- some records are in force
  some_force : NoneHolds (eqb b.in_force 0 gives 11 ∷ [])
  some_force =
      let count = h.log.force in
      let some = log_some x xs h.past in
      (ne_eqb b.in_force 0 (λ e. omega arith), tt)

  -- where the list before has no room taking back is refused with 9, and else accepted
  held_answer : answer m s b taking_back ≡ cond (ltb (room keys bits) (length (list_of_picture m former))) 9 0
  held_answer = step_answer h taking_back _ _ _ some_force (refuses m s b) (leads m s b) former (length former_log) list_is summary_is before_is

  held_accepted : length (list_of_picture m former) ≤ room keys bits → answer m s b taking_back ≡ 0
  held_accepted = step_accepted h taking_back _ _ _ some_force (refuses m s b) (leads m s b) former (length former_log) list_is summary_is before_is

  -- the buffers with that list and log keep the invariant
  back_holds : length (list_of_picture m former) ≤ room keys bits
      → Invariant m s size p keys bits log_keys log_values
      (with_force b (list_of_picture m former) (summary_of m s former) (length former_log))
      (record { held = xs; undone = x ∷ undone; fixed = fixed })
      (max in_list (length (list_of_picture m former)))
      (max in_log b.used)
  back_holds fits = record {
    settings = h.settings;
    list = list_replaced (list_of_picture m former) h.list fits;
    counts = refl;
    log =
        rw (after_next m former x undone)
        (log_back former_log (logged_by m former x) (log_after m (applied m x former) undone)
        (rw (log_latest m (drawn m p fixed) x xs, drawn_latest m (drawn m p fixed) x xs) at h.log));
    roomy = h.roomy;
    past = past_before h.past;
    future =
        next x (past_fit h.past) (rw (drawn_latest m (drawn m p fixed) x xs) at (past_legal h.past))
        (rw (drawn_latest m (drawn m p fixed) x xs) at h.future);
  }

  held_keeps : Keeps m s size p keys bits log_keys log_values b (record { held = x ∷ xs; undone = undone; fixed = fixed }) in_list in_log taking_back
  held_keeps =
      step_keeps h taking_back _ _ _ some_force (refuses m s b) (leads m s b) former (length former_log) list_is summary_is before_is
      (record { held = xs; undone = x ∷ undone; fixed = fixed }) (keep_done x xs undone fixed) (keep_left (record { held = x ∷ xs; undone = undone; fixed = fixed })) back_holds

-- where no paint is held the answer is 11
none_answer : {m s size : ℕ} {p : Picture} {keys bits log_keys log_values : List ℕ} {b : Buffers} {undone fixed : List Paint} {in_list in_log : ℕ}
    → Invariant m s size p keys bits log_keys log_values b (record { held = []; undone = undone; fixed = fixed }) in_list in_log
    → answer m s b taking_back ≡ 11
none_answer {m} {s} {p} {b = b} {fixed = fixed} h =
    refuses m s b ∙ sym (own_refuses (back m s b) (now_sheet h) (this (eq-eqb _ 0 (h.log.force ∙ ap length (log_none m (drawn m p fixed)))) refl))

module _ {m s size : ℕ} {p : Picture} {keys bits log_keys log_values : List ℕ} {b : Buffers} {in_list in_log : ℕ} where
  -- taking back is refused, with 11, exactly when no paint is held, and else with 9 exactly when the list before the latest paint has no room
  pub back-answer-in : (held undone fixed : List Paint)
      → Invariant m s size p keys bits log_keys log_values b (record { held = held; undone = undone; fixed = fixed }) in_list in_log
      → answer m s b taking_back ≡ back_answer_in m (drawn m p fixed) (room keys bits) held
  unfolding back_answer_in
  back-answer-in [] undone fixed h = none_answer h
  back-answer-in (x ∷ xs) undone fixed h = held_answer x xs undone fixed h

  -- where no slices had more room it is refused only with 11, exactly when no paint is held
  pub back-answer : (held undone fixed : List Paint)
      → Invariant m s size p keys bits log_keys log_values b (record { held = held; undone = undone; fixed = fixed }) in_list in_log
      → size ≤ room keys bits
      → answer m s b taking_back ≡ back_answer held
  unfolding back_answer
  back-answer [] undone fixed h large = none_answer h
  back-answer (x ∷ xs) undone fixed h large = held_accepted x xs undone fixed h (let f = former_fits x xs undone fixed h in omega arith)

  -- a taking back keeps the invariant
  pub back_keeps : (held undone fixed : List Paint)
      → Invariant m s size p keys bits log_keys log_values b (record { held = held; undone = undone; fixed = fixed }) in_list in_log
      → Keeps m s size p keys bits log_keys log_values b (record { held = held; undone = undone; fixed = fixed }) in_list in_log taking_back
  back_keeps [] undone fixed h =
      let refused : answer m s b taking_back ≡ 0 → ⊥ = λ e. (let a = none_answer h in omega arith) in
      same_keeps taking_back (back_left m s b refused) (keep_left (record { held = []; undone = undone; fixed = fixed }) (answer m s b taking_back) refused) h
  back_keeps (x ∷ xs) undone fixed h = held_keeps x xs undone fixed h
