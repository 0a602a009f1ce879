-- A redo in a history: its answer is 20 where no paint is there to redo, 9 where slices lent later have no room for the list with the next one, and 0
-- otherwise; it holds the next paint again, and the invariant is kept.
-- Rests on EditStep and Applied.
use Prim.Native.Nat.{ℕ, ◌+◌, ◌≤◌, max}
use mathlib.Core.Path.{◌≡◌, refl, sym, ap, ap₂, ◌∙◌}
use mathlib.Core.Bool.{true, cond}
use mathlib.Core.List.{List, [], ◌∷◌, ◌++◌}
use native.Mathlib.Omega.{arith}
use lib.ListN.{length, length-append}
use lib.Dec.{ltb, eqb}
use borrow.Author.Tests.{ne_eqb, eq-eqb}
use Rattle.definitions.specs.Picture.{Picture, features_below}
use Rattle.definitions.specs.List.{Record, list_of_picture}
use Rattle.definitions.specs.Read.{room, records_of}
use Rattle.definitions.specs.Area.{summary_of}
use Rattle.definitions.specs.Log.{first_step, to_redo}
use Rattle.definitions.specs.Refusal.{◌gives◌}
use Rattle.definitions.specs.Calls.Edit.{Edit, edit_refusal}
use Rattle.definitions.specs.Calls.Redo.{redone_picture, redone}
use Rattle.laws.proofs.First.{NoneHolds, this}
use Rattle.laws.proofs.Edits.{own_refuses}
use Rattle.laws.proofs.LastStep.{step_some}
use Rattle.laws.proofs.SoundLog.{Steps}
use Rattle.history.specs.History.{Buffers, Paint, Kept, redoing, with_next, applied, logged_by, drawn, log_of, log_after, after_edit, after, answer, keep}
use Rattle.history.specs.Claim.{redo_answer, redo_answer_in}
use Rattle.history.proofs.Drawn.{drawn_latest}
use Rattle.history.proofs.Fit.{Fit, step_is}
use Rattle.history.proofs.Applied.{first_next, redone_list, redone_summary}
use Rattle.history.proofs.Past.{past_legal, log_latest, future_fit, future_legal, future_after, future_steps, after_none, after_next}
use Rattle.history.proofs.Past as past
use Rattle.history.proofs.Slices.{list_replaced}
use Rattle.history.proofs.LogSlices.{log_counts, log_again}
use Rattle.history.proofs.Invariant.{Invariant, now_records, now_few, now_redo, Keeps, same_keeps}
use Rattle.history.proofs.EditStep.{with_force, step_edit, edit_leaves, now_sheet, step_answer, step_accepted, step_keeps}

-- the records to redo in these buffers
abbrev redo_in : Buffers → List Record
redo_in b = to_redo b.log_keys b.log_values b.used b.in_force

-- the picture that a redo makes of them
abbrev picture_again : ℕ → Buffers → Picture
picture_again m b = redone_picture m (records_of b.keys b.bits b.n) (redo_in b)

-- the records in force with the next step
abbrev reached : Buffers → ℕ
reached b = b.in_force + length (first_step (redo_in b))

module _ (m s : ℕ) (b : Buffers) where
  -- its edit
  abbrev again : Edit
  again = step_edit m s b (eqb b.in_force b.used gives 20 ∷ []) (picture_again m b) (reached b)

  refuses : answer m s b redoing ≡ edit_refusal again
  unfolding answer
  refuses = refl

  leads : after m s b redoing ≡ after_edit b again
  unfolding after
  leads = refl

  -- a refused one leaves the buffers
  pub redo_left : (answer m s b redoing ≡ 0 → ⊥) → after m s b redoing ≡ b
  redo_left h = leads ∙ edit_leaves m s b _ _ _ _ _ _ (λ e. h (refuses ∙ e))

-- and the paints
keep_left : (k : Kept) (refusal : ℕ) → (refusal ≡ 0 → ⊥) → keep redoing refusal k ≡ k
unfolding keep
keep_left k refusal h = rw (ne_eqb refusal 0 h)

-- an accepted one holds the next paint again
keep_done : (held : List Paint) (x : Paint) (xs fixed : List Paint)
    → keep redoing 0 (record { held = held; undone = x ∷ xs; fixed = fixed }) ≡ record { held = x ∷ held; undone = xs; fixed = fixed }
unfolding keep with_next
keep_done held x xs fixed = refl

module _ {m s size : ℕ} {p : Picture} {keys bits log_keys log_values : List ℕ} {b : Buffers} {in_list in_log : ℕ} (held : List Paint) (x : Paint) (xs fixed : List Paint)
    (h : Invariant m s size p keys bits log_keys log_values b (record { held = held; undone = x ∷ xs; fixed = fixed }) in_list in_log) where
  -- the picture now, and with the paint redone
  abbrev before : Picture
  before = drawn m (drawn m p fixed) held

  abbrev painted : Picture
  painted = applied m x before

  -- the paint's step, and what can be redone after it
  abbrev step : List Record
  step = logged_by m before x

  abbrev rest : List Record
  rest = log_after m painted xs

  rest_steps : Steps m s rest
  rest_steps = future_steps (future_legal h.future).below (future_after h.future)

  -- the paint is fit, and the picture now is legal
  next_fit : Fit m s x
  next_fit = future_fit h.future

  before_below : features_below s before m 0 0 ≡ true
  before_below = (past_legal h.past).below

  -- the records to redo are both
  redo_is : redo_in b ≡ step ++ rest
  redo_is = now_redo h ∙ after_next m before x xs

  -- the list afterwards is that of the painted picture
  list_is : list_of_picture m (picture_again m b) ≡ list_of_picture m painted
  unfolding redone
  list_is = ap₂ (redone m) (now_records h) redo_is ∙ redone_list before (now_few h) next_fit before_below rest_steps

  -- and so the summary
  summary_is : summary_of m s (picture_again m b) ≡ summary_of m s painted
  summary_is =
      ap₂ (λ l log. summary_of m s (redone_picture m l log)) (now_records h) redo_is ∙ redone_summary before (now_few h) next_fit before_below rest_steps

  -- as many are in force afterwards as the step adds
  reached_is : reached b ≡ b.in_force + length step
  reached_is = ap (λ l. b.in_force + length (first_step l)) redo_is ∙ ap (λ l. b.in_force + length l) (first_next before (now_few h) next_fit before_below rest_steps)

  -- that list had room in some slices
  painted_fits : length (list_of_picture m painted) ≤ size
  painted_fits = (future_legal h.future).fits

  -- some records are there to redo
  some_left : NoneHolds (eqb b.in_force b.used gives 20 ∷ [])
  some_left =
      let counts = log_counts h.log in
      let size = ap length (after_next m before x xs) ∙ length-append step rest in
      let some = step_some (step_is before next_fit before_below) in
      (ne_eqb b.in_force b.used (λ e. omega arith), tt)

  -- where the list with the paint has no room redo is refused with 9, and else accepted
  undone_answer : answer m s b redoing ≡ cond (ltb (room keys bits) (length (list_of_picture m painted))) 9 0
  undone_answer = step_answer h redoing _ _ _ some_left (refuses m s b) (leads m s b) painted (b.in_force + length step) list_is summary_is reached_is

  undone_accepted : length (list_of_picture m painted) ≤ room keys bits → answer m s b redoing ≡ 0
  undone_accepted = step_accepted h redoing _ _ _ some_left (refuses m s b) (leads m s b) painted (b.in_force + length step) list_is summary_is reached_is

  -- the buffers with that list keep the invariant
  redo_holds : length (list_of_picture m painted) ≤ room keys bits
      → Invariant m s size p keys bits log_keys log_values
      (with_force b (list_of_picture m painted) (summary_of m s painted) (b.in_force + length step))
      (record { held = x ∷ held; undone = xs; fixed = fixed })
      (max in_list (length (list_of_picture m painted)))
      (max in_log b.used)
  redo_holds fits =
      let same : drawn m (drawn m p fixed) (x ∷ held) ≡ painted = drawn_latest m (drawn m p fixed) x held in
      record {
        settings = h.settings;
        list = rw same (list_replaced (list_of_picture m painted) h.list fits);
        counts = ap (summary_of m s) (sym same);
        log = rw (same, log_latest m (drawn m p fixed) x held)
            (log_again (log_of m (drawn m p fixed) held) step rest (rw (after_next m before x xs) at h.log));
        roomy = h.roomy;
        past = past.later h.past x next_fit (rw same (future_legal h.future));
        future = rw same (future_after h.future);
      }

  undone_keeps : Keeps m s size p keys bits log_keys log_values b (record { held = held; undone = x ∷ xs; fixed = fixed }) in_list in_log redoing
  undone_keeps =
      step_keeps h redoing _ _ _ some_left (refuses m s b) (leads m s b) painted (b.in_force + length step) list_is summary_is reached_is
      (record { held = x ∷ held; undone = xs; fixed = fixed }) (keep_done held x xs fixed) (keep_left (record { held = held; undone = x ∷ xs; fixed = fixed })) redo_holds

-- where no paint is undone the answer is 20
none_answer : {m s size : ℕ} {p : Picture} {keys bits log_keys log_values : List ℕ} {b : Buffers} {held fixed : List Paint} {in_list in_log : ℕ}
    → Invariant m s size p keys bits log_keys log_values b (record { held = held; undone = []; fixed = fixed }) in_list in_log
    → answer m s b redoing ≡ 20
none_answer {m} {s} {p} {b = b} {held = held} {fixed = fixed} h =
    let counts = log_counts h.log in
    let none = ap length (after_none m (drawn m (drawn m p fixed) held)) in
    let all : b.in_force ≡ b.used = omega arith in
    refuses m s b ∙ sym (own_refuses (again m s b) (now_sheet h) (this (eq-eqb _ _ all) refl))

module _ {m s size : ℕ} {p : Picture} {keys bits log_keys log_values : List ℕ} {b : Buffers} {in_list in_log : ℕ} where
  -- redo is refused, with 20, exactly when no paint is there to redo, and else with 9 exactly when the list with the next one has no room
  pub redo-answer-in : (held undone fixed : List Paint)
      → Invariant m s size p keys bits log_keys log_values b (record { held = held; undone = undone; fixed = fixed }) in_list in_log
      → answer m s b redoing ≡ redo_answer_in m (drawn m (drawn m p fixed) held) (room keys bits) undone
  unfolding redo_answer_in
  redo-answer-in held [] fixed h = none_answer h
  redo-answer-in held (x ∷ xs) fixed h = undone_answer held x xs fixed h

  -- where no slices had more room it is refused only with 20, exactly when no paint is there to redo
  pub redo-answer : (held undone fixed : List Paint)
      → Invariant m s size p keys bits log_keys log_values b (record { held = held; undone = undone; fixed = fixed }) in_list in_log
      → size ≤ room keys bits
      → answer m s b redoing ≡ redo_answer undone
  unfolding redo_answer
  redo-answer held [] fixed h large = none_answer h
  redo-answer held (x ∷ xs) fixed h large = undone_accepted held x xs fixed h (let f = painted_fits held x xs fixed h in omega arith)

  -- a redo keeps the invariant
  pub redo_keeps : (held undone fixed : List Paint)
      → Invariant m s size p keys bits log_keys log_values b (record { held = held; undone = undone; fixed = fixed }) in_list in_log
      → Keeps m s size p keys bits log_keys log_values b (record { held = held; undone = undone; fixed = fixed }) in_list in_log redoing
  redo_keeps held [] fixed h =
      let refused : answer m s b redoing ≡ 0 → ⊥ = λ e. (let a = none_answer h in omega arith) in
      same_keeps redoing (redo_left m s b refused) (keep_left (record { held = held; undone = []; fixed = fixed }) (answer m s b redoing) refused) h
  redo_keeps held (x ∷ xs) fixed h = undone_keeps held x xs fixed h
