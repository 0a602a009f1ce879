-- A paint in a history, of a block or of a window: refused it leaves everything, accepted it holds one paint more and drops those undone, and the invariant is
-- kept. Rests on EditStep and Applied.
use Prim.Native.Nat.{ℕ, ◌+◌, ◌≤◌, max}
use mathlib.Core.Path.{◌≡◌, refl, sym, ap, ap₂, ◌∙◌}
use mathlib.Core.List.{List, [], ◌∷◌}
use native.Mathlib.Omega.{arith}
use lib.ListN.{length}
use lib.Dec.{ltb}
use borrow.Author.Tests.{ne_eqb, eq-eqb, leb-false, ltb-false, not-false}
use Rattle.keys.proofs.Cases.{equal}
use Rattle.definitions.specs.Picture.{Picture}
use Rattle.definitions.specs.List.{Record, list_of_picture, keys_of, values_of}
use Rattle.definitions.specs.Read.{room, records_of, picture_of}
use Rattle.definitions.specs.Area.{summary_of}
use Rattle.definitions.specs.Window.{bad_window}
use Rattle.definitions.specs.Refusal.{Row, ◌gives◌, bad_key, bad_feature}
use Rattle.definitions.specs.Calls.Edit.{Edit}
use Rattle.definitions.specs.Calls.Paint.{gained, logged}
use Rattle.definitions.specs.Calls.PaintWindow.{group_gained}
use Rattle.laws.proofs.Edits.{edit_passed}
use Rattle.history.specs.History.{Buffers, Paint, of_block, of_window, Kept, painting, applied, logged_by, drawn, after, answer, keep}
use Rattle.history.proofs.Drawn.{drawn_latest}
use Rattle.history.proofs.Fit.{Fit, block_fit, window_fit, applied_below}
use Rattle.history.proofs.Applied.{applied_list, applied_summary, gained_step}
use Rattle.history.proofs.Past.{Legal, log_latest, after_none, later, past_legal, no_more}
use Rattle.history.proofs.Slices.{list_replaced, list-room}
use Rattle.history.proofs.LogSlices.{log_gains}
use Rattle.history.proofs.Invariant.{ground, now, Invariant, now_records, Keeps, same_keeps}
use Rattle.history.proofs.EditStep.{with_log, edit_on, edit_puts, edit_leaves}

-- the picture that these buffers show
abbrev pub shown_in : ℕ → Buffers → Picture
shown_in m b = picture_of m (records_of b.keys b.bits b.n)

-- the list that a paint makes of them
abbrev pub list_after : ℕ → Buffers → Paint → List Record
list_after m b x = list_of_picture m (applied m x (shown_in m b))

-- the summary that it makes of theirs
abbrev pub summary_after : ℕ → ℕ → Buffers → Paint → List ℕ
summary_after m s b x = summary_of m s (applied m x (shown_in m b))

-- the step that it puts behind the log
abbrev pub step_in : ℕ → Buffers → Paint → List Record
step_in m b x = logged_by m (shown_in m b) x

-- the buffers with a list and a summary in place of theirs and a step behind the log
abbrev pub with_step : Buffers → List Record → List ℕ → List Record → Buffers
with_step b l summary step =
    with_log b l summary (logged b.used b.in_force (keys_of step) b.log_keys) (logged b.used b.in_force (values_of step) b.log_values)
    (b.in_force + length step) (b.in_force + length step)

-- the edit of a paint, by the row that tells what it paints
abbrev pub edit_of_paint : ℕ → ℕ → Buffers → Row → ℕ → Paint → Edit
edit_of_paint m s b place f x =
    edit_on m s b
    (place ∷ bad_feature s f gives 7 ∷ ltb (room b.log_keys b.log_values) (b.in_force + length (step_in m b x)) gives 10 ∷ [])
    (applied m x (shown_in m b))
    (logged b.used b.in_force (keys_of (step_in m b x)) b.log_keys)
    (logged b.used b.in_force (values_of (step_in m b x)) b.log_values)
    (b.in_force + length (step_in m b x))
    (b.in_force + length (step_in m b x))

-- what an accepted paint passed
record Passed (m s : ℕ) (b : Buffers) (x : Paint) : Type 0 where
  fit : Fit m s x
  log_room : b.in_force + length (step_in m b x) ≤ room b.log_keys b.log_values
  list_room : length (list_after m b x) ≤ room b.keys b.bits

module _ (m s : ℕ) (b : Buffers) where
  passed : (x : Paint) → answer m s b (painting x) ≡ 0 → Passed m s b x
  unfolding answer gained group_gained applied logged_by
  passed (of_block κ f) e =
      let all = edit_passed (edit_of_paint m s b (bad_key m κ gives 8) f (of_block κ f)) refl e in
      record {
        fit = block_fit κ f (not-false _ all.own.0) (leb-false s f all.own.1.0);
        log_room = ltb-false _ _ all.own.1.1.0;
        list_room = all.fits;
      }
  passed (of_window w f) e =
      let all = edit_passed (edit_of_paint m s b (bad_window m w gives 6) f (of_window w f)) refl e in
      record {
        fit = window_fit w f (not-false _ all.own.0) (leb-false s f all.own.1.0);
        log_room = ltb-false _ _ all.own.1.1.0;
        list_room = all.fits;
      }

  -- an accepted paint writes its list, its summary and its step
  pub paint_done : (x : Paint) → answer m s b (painting x) ≡ 0
      → after m s b (painting x) ≡ with_step b (list_after m b x) (summary_after m s b x) (step_in m b x)
  unfolding answer after gained group_gained applied logged_by
  paint_done (of_block κ f) e = edit_puts m s b _ _ _ _ _ _ e
  paint_done (of_window w f) e = edit_puts m s b _ _ _ _ _ _ e

  -- a refused paint leaves the buffers
  pub paint_left : (x : Paint) → (answer m s b (painting x) ≡ 0 → ⊥) → after m s b (painting x) ≡ b
  unfolding answer after
  paint_left (of_block κ f) h = edit_leaves m s b _ _ _ _ _ _ h
  paint_left (of_window w f) h = edit_leaves m s b _ _ _ _ _ _ h

  -- and the paints
  keep_left : (x : Paint) (k : Kept) → (answer m s b (painting x) ≡ 0 → ⊥) → keep (painting x) (answer m s b (painting x)) k ≡ k
  unfolding keep
  keep_left x k h = rw (ne_eqb _ 0 h)

  -- an accepted paint is held
  keep_done : (x : Paint) (k : Kept) → answer m s b (painting x) ≡ 0
      → keep (painting x) (answer m s b (painting x)) k ≡ record { held = x ∷ k.held; undone = []; fixed = k.fixed }
  unfolding keep
  keep_done x k e = rw (eq-eqb _ 0 e)

module _ {m s size : ℕ} {p : Picture} {keys bits log_keys log_values : List ℕ} {b : Buffers} {k : Kept} {in_list in_log : ℕ}
    (x : Paint) (h : Invariant m s size p keys bits log_keys log_values b k in_list in_log) where
  -- the list that a paint makes is that of the picture with it
  pub list_now : list_after m b x ≡ list_of_picture m (applied m x (now m p k))
  list_now = ap (λ l. list_of_picture m (applied m x (picture_of m l))) (now_records h) ∙ applied_list m x (now m p k)

  -- its summary is that of the same picture
  summary_now : summary_after m s b x ≡ summary_of m s (applied m x (now m p k))
  summary_now = ap (λ l. summary_of m s (applied m x (picture_of m l))) (now_records h) ∙ applied_summary m s x (now m p k)

  -- its step is that of the picture before
  pub step_now : Fit m s x → step_in m b x ≡ logged_by m (now m p k) x
  step_now fit = ap (λ l. logged_by m (picture_of m l) x) (now_records h) ∙ gained_step (now m p k) fit

module _ {m s size : ℕ} {p : Picture} {keys bits log_keys log_values : List ℕ} {b : Buffers} {k : Kept} {in_list in_log : ℕ}
    (x : Paint) (h : Invariant m s size p keys bits log_keys log_values b k in_list in_log) (e : answer m s b (painting x) ≡ 0) where
  -- the list afterwards is that of the picture with the paint
  list_is : list_after m b x ≡ list_of_picture m (drawn m (ground m p k) (x ∷ k.held))
  list_is = list_now x h ∙ ap (λ q. list_of_picture m q) (sym (drawn_latest m (ground m p k) x k.held))

  summary_is : summary_after m s b x ≡ summary_of m s (drawn m (ground m p k) (x ∷ k.held))
  summary_is = summary_now x h ∙ ap (λ q. summary_of m s q) (sym (drawn_latest m (ground m p k) x k.held))

  step_is : step_in m b x ≡ logged_by m (now m p k) x
  step_is = step_now x h (passed m s b x e).fit

  -- the list has room
  list_fits : length (list_of_picture m (drawn m (ground m p k) (x ∷ k.held))) ≤ room keys bits
  list_fits = rw (← list_is, ← list-room h.list) (passed m s b x e).list_room

  -- the picture with the paint is legal
  legal_after : Legal m s size (drawn m (ground m p k) (x ∷ k.held))
  legal_after = record {
    below =
        rw (drawn_latest m (ground m p k) x k.held)
        (applied_below (now m p k) (passed m s b x e).fit (past_legal h.past).below);
    fits = let f = list_fits in let g = h.roomy in omega arith;
  }

  -- the buffers with its list and step keep the invariant
  paint_holds : Invariant m s size p keys bits log_keys log_values
      (with_step b (list_of_picture m (drawn m (ground m p k) (x ∷ k.held))) (summary_of m s (drawn m (ground m p k) (x ∷ k.held))) (logged_by m (now m p k) x))
      (record { held = x ∷ k.held; undone = []; fixed = k.fixed })
      (max in_list (length (list_of_picture m (drawn m (ground m p k) (x ∷ k.held)))))
      (max in_log (b.in_force + length (logged_by m (now m p k) x)))
  paint_holds = record {
    settings = h.settings;
    list = list_replaced (list_of_picture m (drawn m (ground m p k) (x ∷ k.held))) h.list list_fits;
    counts = refl;
    log =
        rw (log_latest m (ground m p k) x k.held, after_none m (drawn m (ground m p k) (x ∷ k.held)))
        (log_gains h.log (logged_by m (now m p k) x) (rw step_is at (passed m s b x e).log_room));
    roomy = h.roomy;
    past = later h.past x (passed m s b x e).fit legal_after;
    future = no_more;
  }

  -- an accepted paint keeps the invariant
  accepted_keeps : Keeps m s size p keys bits log_keys log_values b k in_list in_log (painting x)
  accepted_keeps =
      rw (
        keep_done m s b x k e,
        paint_done m s b x e
            ∙ ap₂ (λ l step. with_step b l (summary_after m s b x) step) list_is step_is
            ∙ ap (λ counts. with_step b (list_of_picture m (drawn m (ground m p k) (x ∷ k.held))) counts (logged_by m (now m p k) x)) summary_is,
      )
      paint_holds

-- a paint keeps the invariant
pub paint_keeps : {m s size : ℕ} {p : Picture} {keys bits log_keys log_values : List ℕ} {b : Buffers} {k : Kept} {in_list in_log : ℕ} (x : Paint)
    → Invariant m s size p keys bits log_keys log_values b k in_list in_log
    → Keeps m s size p keys bits log_keys log_values b k in_list in_log (painting x)
paint_keeps {m} {s} {b = b} {k = k} x h =
    equal (answer m s b (painting x)) 0
    (λ done. accepted_keeps x h done)
    (λ left. same_keeps (painting x) (paint_left m s b x left) (keep_left m s b x k left) h)
