-- The calls that steps over the ground make on one sheet, from an accepted build and an empty log: the paints that the sheet's history holds are the ground's
-- that meet the sheet, and no taking back and no redo is refused. Rests on the history theorem.
use Prim.Native.Nat.{ℕ}
use mathlib.Core.Path.{◌≡◌, refl, sym, ap, subst, ◌∙◌}
use mathlib.Core.Bool.{true, false, cond}
use mathlib.Core.List.{List, [], ◌∷◌, ◌++◌, append_assoc, append-nil}
use lib.Dec.{eqb}
use borrow.Author.Tests.{eqb-true, eq-eqb}
use Rattle.keys.proofs.Cases.{decide, and_left, and_right, and_both}
use Rattle.definitions.specs.Calls.Survey.{survey_refusal}
use Rattle.history.specs.History.{Paint, of_window, Call, painting, taking_back, redoing, Buffers, Kept, nothing, built, without_latest, with_next, answer, after, after_calls, keep, kept}
use Rattle.history.specs.Claim.{back_answer, redo_answer}
use Rattle.history.proofs.Theorem.{history}
use Rattle.sheets.specs.Ground.{Ground, sheet_window, meets_sheet}
use Rattle.sheets.specs.Paints.{paint_on}
use Rattle.sheets.specs.Steps.{GroundPaint, GroundStep, paint_step, back_step, redo_step, GroundKept, last_back, next_again, keep_step, kept_steps, window_of, where_met, of_first, step_calls, run_calls, sheet_paints, paint_accepted, paints_accepted, all_accepted}

-- a call at the end of a run comes last
after_last : (m s : ℕ) (b : Buffers) (done : List Call) (c : Call) → after_calls m s b (done ++ (c ∷ [])) ≡ after m s (after_calls m s b done) c
unfolding after_calls
after_last m s b [] c = refl
after_last m s b (d ∷ done) c = after_last m s (after m s b d) done c

kept_last : (m s : ℕ) (b : Buffers) (k : Kept) (done : List Call) (c : Call)
    → kept m s b k (done ++ (c ∷ [])) ≡ keep c (answer m s (after_calls m s b done) c) (kept m s b k done)
unfolding after_calls kept
kept_last m s b k [] c = refl
kept_last m s b k (d ∷ done) c = kept_last m s (after m s b d) (keep d (answer m s b d) k) done c

-- what accepted calls keep
keep_paint : (x : Paint) (refusal : ℕ) (k : Kept) → refusal ≡ 0 → keep (painting x) refusal k ≡ record { held = x ∷ k.held; undone = []; fixed = k.fixed }
unfolding keep
keep_paint x refusal k e = rw (eq-eqb _ 0 e)

keep_back : (refusal : ℕ) (x : Paint) (held undone fixed : List Paint) → refusal ≡ 0
    → keep taking_back refusal (record { held = x ∷ held; undone = undone; fixed = fixed }) ≡ record { held = held; undone = x ∷ undone; fixed = fixed }
unfolding keep without_latest
keep_back refusal x held undone fixed e = rw (eq-eqb _ 0 e)

keep_redo : (refusal : ℕ) (x : Paint) (held undone fixed : List Paint) → refusal ≡ 0
    → keep redoing refusal (record { held = held; undone = x ∷ undone; fixed = fixed }) ≡ record { held = x ∷ held; undone = undone; fixed = fixed }
unfolding keep with_next
keep_redo refusal x held undone fixed e = rw (eq-eqb _ 0 e)

module _ (m : ℕ) (g : Ground) (i j : ℕ) where
  -- a paint of the ground, on the sheet
  abbrev pub on_it : GroundPaint → Paint
  on_it x = of_window (sheet_window m (window_of g x) i j) x.feature

  -- the sheet's history keeps the ground's paints that meet the sheet; it may still redo more, which the ground has dropped
  pub record Matches (h : Kept) (k : GroundKept) : Type 0 where
    pub more : List Paint
    pub held : h.held ≡ sheet_paints m g i j k.held
    pub undone : h.undone ≡ sheet_paints m g i j k.undone ++ more
    pub fixed : h.fixed ≡ []

  pub paints_met : (x : GroundPaint) (xs : List GroundPaint) → meets_sheet m (window_of g x) i j ≡ true → sheet_paints m g i j (x ∷ xs) ≡ on_it x ∷ sheet_paints m g i j xs
  unfolding sheet_paints
  paints_met x xs e = ap (λ t. cond t (on_it x ∷ sheet_paints m g i j xs) (sheet_paints m g i j xs)) e

  pub paints_not : (x : GroundPaint) (xs : List GroundPaint) → meets_sheet m (window_of g x) i j ≡ false → sheet_paints m g i j (x ∷ xs) ≡ sheet_paints m g i j xs
  unfolding sheet_paints
  paints_not x xs e = ap (λ t. cond t (on_it x ∷ sheet_paints m g i j xs) (sheet_paints m g i j xs)) e

  pub paints_none : sheet_paints m g i j [] ≡ []
  unfolding sheet_paints
  paints_none = refl

  -- a kept record, by its fields
  same_kept : (h : Kept) {held undone fixed : List Paint} → h.held ≡ held → h.undone ≡ undone → h.fixed ≡ fixed
      → h ≡ record { held = held; undone = undone; fixed = fixed }
  same_kept h a b c = λ t. record { held = a t; undone = b t; fixed = c t }

back_some : (l : List Paint) (x : Paint) (xs : List Paint) → l ≡ x ∷ xs → back_answer l ≡ 0
unfolding back_answer
back_some l x xs e = ap back_answer e

redo_some : (l : List Paint) (x : Paint) (xs : List Paint) → l ≡ x ∷ xs → redo_answer l ≡ 0
unfolding redo_answer
redo_some l x xs e = ap redo_answer e

module _ (m s : ℕ) (g : Ground) (i j : ℕ) (raster keys bits summary log_keys log_values : List ℕ) (accepted : survey_refusal m s raster keys bits summary ≡ 0) where
  -- the sheet as it was built
  abbrev start : Buffers
  start = built m s raster keys bits summary log_keys log_values

  abbrev kept_of : List Call → Kept
  kept_of done = kept m s start nothing done

  abbrev buffer_of : List Call → Buffers
  buffer_of done = after_calls m s start done

  -- what a step does on the sheet after the calls so far: nothing, or one accepted call
  data Next (done : List Call) (t : GroundStep) (k : GroundKept) : Type 0 where
    stays : step_calls m g i j t k ≡ [] → Matches m g i j (kept_of done) (keep_step t k) → Next done t k
    called : (c : Call) → step_calls m g i j t k ≡ c ∷ [] → answer m s (buffer_of done) c ≡ 0
        → Matches m g i j (kept_of (done ++ (c ∷ []))) (keep_step t k) → Next done t k

  -- the first call of a run that is a paint is accepted
  paint_first : (b : Buffers) (x : Paint) (calls : List Call) → paints_accepted m s b (painting x ∷ calls) ≡ true → answer m s b (painting x) ≡ 0
  unfolding paints_accepted paint_accepted
  paint_first b x calls e = eqb-true _ 0 (and_left (eqb (answer m s b (painting x)) 0) (paints_accepted m s (after m s b (painting x)) calls) e)

  next_paint : (done : List Call) (x : GroundPaint) (k : GroundKept) (rest : List Call) → Matches m g i j (kept_of done) k
      → paints_accepted m s (buffer_of done) (step_calls m g i j (paint_step x) k ++ rest) ≡ true → Next done (paint_step x) k
  unfolding step_calls keep_step
  next_paint done x k rest h e =
      let c : Call = paint_on m (window_of g x) x.feature i j in
      decide (meets_sheet m (window_of g x) i j)
      (λ met.
      let calls : where_met m g i j x c ≡ c ∷ [] = ap (λ t. cond t (c ∷ []) []) met in
      let zero : answer m s (buffer_of done) c ≡ 0 = paint_first (buffer_of done) (on_it m g i j x) rest (ap (λ l. paints_accepted m s (buffer_of done) (l ++ rest)) (sym calls) ∙ e) in
      called c calls zero
      (subst (λ a. Matches m g i j a (record { held = x ∷ k.held; undone = [] }))
      (sym (kept_last m s start nothing done c ∙ keep_paint (on_it m g i j x) _ (kept_of done) zero))
      (record {
        more = [];
        held = ap (λ l. on_it m g i j x ∷ l) h.held ∙ sym (paints_met m g i j x k.held met);
        undone = sym (ap (λ l. l ++ []) (paints_none m g i j));
        fixed = h.fixed;
      })))
      (λ none. stays (ap (λ t. cond t (c ∷ []) []) none)
      (record {
        more = (kept_of done).undone;
        held = h.held ∙ sym (paints_not m g i j x k.held none);
        undone = sym (ap (λ l. l ++ (kept_of done).undone) (paints_none m g i j));
        fixed = h.fixed;
      }))

  next_back : (done : List Call) (held undone : List GroundPaint) → Matches m g i j (kept_of done) (record { held = held; undone = undone })
      → Next done back_step (record { held = held; undone = undone })
  unfolding step_calls of_first keep_step last_back
  next_back done [] undone h = stays refl h
  next_back done (x ∷ held) undone h =
      decide (meets_sheet m (window_of g x) i j)
      (λ met.
      let first : (kept_of done).held ≡ on_it m g i j x ∷ sheet_paints m g i j held = h.held ∙ paints_met m g i j x held met in
      let zero : answer m s (buffer_of done) taking_back ≡ 0 =
      (history m s raster keys bits summary log_keys log_values accepted done).back ∙ back_some _ (on_it m g i j x) (sheet_paints m g i j held) first in
      called taking_back (ap (λ t. cond t (taking_back ∷ []) []) met) zero
      (subst (λ a. Matches m g i j a (record { held = held; undone = x ∷ undone }))
      (sym (kept_last m s start nothing done taking_back
      ∙ ap (keep taking_back (answer m s (buffer_of done) taking_back)) (same_kept m g i j (kept_of done) first refl refl)
      ∙ keep_back _ (on_it m g i j x) (sheet_paints m g i j held) (kept_of done).undone (kept_of done).fixed zero))
      (record {
        more = h.more;
        held = refl;
        undone = ap (λ l. on_it m g i j x ∷ l) h.undone ∙ ap (λ l. l ++ h.more) (sym (paints_met m g i j x undone met));
        fixed = h.fixed;
      })))
      (λ none. stays (ap (λ t. cond t (taking_back ∷ []) []) none)
      (record {
        more = h.more;
        held = h.held ∙ paints_not m g i j x held none;
        undone = h.undone ∙ ap (λ l. l ++ h.more) (sym (paints_not m g i j x undone none));
        fixed = h.fixed;
      }))

  next_redo : (done : List Call) (held undone : List GroundPaint) → Matches m g i j (kept_of done) (record { held = held; undone = undone })
      → Next done redo_step (record { held = held; undone = undone })
  unfolding step_calls of_first keep_step next_again
  next_redo done held [] h = stays refl h
  next_redo done held (x ∷ undone) h =
      decide (meets_sheet m (window_of g x) i j)
      (λ met.
      let first : (kept_of done).undone ≡ on_it m g i j x ∷ (sheet_paints m g i j undone ++ h.more) =
      h.undone ∙ ap (λ l. l ++ h.more) (paints_met m g i j x undone met) in
      let zero : answer m s (buffer_of done) redoing ≡ 0 =
      (history m s raster keys bits summary log_keys log_values accepted done).again ∙ redo_some _ (on_it m g i j x) (sheet_paints m g i j undone ++ h.more) first in
      called redoing (ap (λ t. cond t (redoing ∷ []) []) met) zero
      (subst (λ a. Matches m g i j a (record { held = x ∷ held; undone = undone }))
      (sym (kept_last m s start nothing done redoing
      ∙ ap (keep redoing (answer m s (buffer_of done) redoing)) (same_kept m g i j (kept_of done) refl first refl)
      ∙ keep_redo _ (on_it m g i j x) (kept_of done).held (sheet_paints m g i j undone ++ h.more) (kept_of done).fixed zero))
      (record {
        more = h.more;
        held = ap (λ l. on_it m g i j x ∷ l) h.held ∙ sym (paints_met m g i j x held met);
        undone = refl;
        fixed = h.fixed;
      })))
      (λ none. stays (ap (λ t. cond t (redoing ∷ []) []) none)
      (record {
        more = h.more;
        held = h.held ∙ sym (paints_not m g i j x held none);
        undone = h.undone ∙ ap (λ l. l ++ h.more) (paints_not m g i j x undone none);
        fixed = h.fixed;
      }))

  next_step : (done : List Call) (t : GroundStep) (k : GroundKept) (rest : List Call) → Matches m g i j (kept_of done) k
      → paints_accepted m s (buffer_of done) (step_calls m g i j t k ++ rest) ≡ true → Next done t k
  next_step done (paint_step x) k rest h e = next_paint done x k rest h e
  next_step done back_step k rest h e = next_back done k.held k.undone h
  next_step done redo_step k rest h e = next_redo done k.held k.undone h

  -- all calls of a run of steps are accepted, and the sheet's history keeps what the ground's steps keep
  pub record Traced (done : List Call) (steps : List GroundStep) (k : GroundKept) : Type 0 where
    pub all : all_accepted m s (after_calls m s (built m s raster keys bits summary log_keys log_values) done) (run_calls m g i j steps k) ≡ true
    pub matches : Matches m g i j (kept m s (built m s raster keys bits summary log_keys log_values) nothing (done ++ run_calls m g i j steps k)) (kept_steps steps k)

  -- the rest of a run of which the first call is accepted
  rest_accepted : (done : List Call) (c : Call) (calls : List Call) → paints_accepted m s (buffer_of done) (c ∷ calls) ≡ true
      → paints_accepted m s (buffer_of (done ++ (c ∷ []))) calls ≡ true
  unfolding paints_accepted
  rest_accepted done c calls e =
      ap (λ b. paints_accepted m s b calls) (after_last m s start done c)
      ∙ and_right (paint_accepted c (answer m s (buffer_of done) c)) (paints_accepted m s (after m s (buffer_of done) c) calls) e

  more_accepted : (done : List Call) (c : Call) (calls : List Call) → answer m s (buffer_of done) c ≡ 0
      → all_accepted m s (buffer_of (done ++ (c ∷ []))) calls ≡ true → all_accepted m s (buffer_of done) (c ∷ calls) ≡ true
  unfolding all_accepted
  more_accepted done c calls zero e =
      and_both (eqb (answer m s (buffer_of done) c) 0) (all_accepted m s (after m s (buffer_of done) c) calls)
      (eq-eqb _ 0 zero) (sym (ap (λ b. all_accepted m s b calls) (after_last m s start done c)) ∙ e)

  -- a step and then the rest
  step_traced : (done : List Call) (t : GroundStep) (steps : List GroundStep) (k : GroundKept) → Next done t k
      → paints_accepted m s (buffer_of done) (step_calls m g i j t k ++ run_calls m g i j steps (keep_step t k)) ≡ true
      → ((done' : List Call) → Matches m g i j (kept_of done') (keep_step t k)
      → paints_accepted m s (buffer_of done') (run_calls m g i j steps (keep_step t k)) ≡ true
      → Traced done' steps (keep_step t k))
      → Traced done (t ∷ steps) k
  unfolding run_calls kept_steps
  step_traced done t steps k (stays calls matches) e rest =
      let more : List Call = run_calls m g i j steps (keep_step t k) in
      let x = rest done matches (ap (λ l. paints_accepted m s (buffer_of done) (l ++ more)) (sym calls) ∙ e) in
      record {
        all = ap (λ l. all_accepted m s (buffer_of done) (l ++ more)) calls ∙ x.all;
        matches = subst (λ l. Matches m g i j (kept_of (done ++ (l ++ more))) (kept_steps steps (keep_step t k))) (sym calls) x.matches;
      }
  step_traced done t steps k (called c calls zero matches) e rest =
      let more : List Call = run_calls m g i j steps (keep_step t k) in
      let x = rest (done ++ (c ∷ [])) matches (rest_accepted done c more (ap (λ l. paints_accepted m s (buffer_of done) (l ++ more)) (sym calls) ∙ e)) in
      record {
        all = ap (λ l. all_accepted m s (buffer_of done) (l ++ more)) calls ∙ more_accepted done c more zero x.all;
        matches = subst (λ l. Matches m g i j (kept_of (done ++ (l ++ more))) (kept_steps steps (keep_step t k))) (sym calls)
            (subst (λ l. Matches m g i j (kept_of l) (kept_steps steps (keep_step t k))) (append_assoc done (c ∷ []) more) x.matches);
      }

  trace : (done : List Call) (steps : List GroundStep) (k : GroundKept) → Matches m g i j (kept_of done) k
      → paints_accepted m s (buffer_of done) (run_calls m g i j steps k) ≡ true → Traced done steps k
  unfolding run_calls kept_steps all_accepted
  trace done [] k h e = record { all = refl; matches = subst (λ l. Matches m g i j (kept_of l) k) (sym (append-nil done)) h }
  trace done (t ∷ steps) k h e =
      step_traced done t steps k (next_step done t k (run_calls m g i j steps (keep_step t k)) h e) e (λ done' h' e'. trace done' steps (keep_step t k) h' e')

  begins : Matches m g i j (kept_of []) (record { held = []; undone = [] })
  unfolding kept
  begins = record { more = []; held = sym (paints_none m g i j); undone = sym (ap (λ l. l ++ []) (paints_none m g i j)); fixed = refl }

  -- from the build on
  pub steps_traced : (steps : List GroundStep)
      → paints_accepted m s (built m s raster keys bits summary log_keys log_values) (run_calls m g i j steps (record { held = []; undone = [] })) ≡ true
      → Traced [] steps (record { held = []; undone = [] })
  unfolding after_calls
  steps_traced steps e = trace [] steps (record { held = []; undone = [] }) begins e
