-- What the history theorem says in single steps: a refused call leaves every buffer and count, a taking back cancels the latest paint held, an accepted
-- paint that is taken back leaves list, summary and records in force as they were, a taking back that is redone leaves list, summary and counts as they
-- were, and so does a redo that is taken back. Rests on Theorem.
use Prim.Native.Nat.{ℕ, ◌+◌, ◌^◌}
use mathlib.Core.Path.{◌≡◌, refl, sym, ap, ap₂, ◌∙◌}
use mathlib.Core.List.{List, [], ◌∷◌, ◌++◌}
use lib.ListN.{length}
use borrow.Author.Tests.{eq-eqb}
use Rattle.definitions.specs.Picture.{picture_of_raster}
use Rattle.definitions.specs.List.{list_of_raster}
use Rattle.definitions.specs.Read.{records_of}
use Rattle.definitions.specs.Window.{features_of_rows}
use Rattle.definitions.specs.Area.{summary_of}
use Rattle.definitions.specs.Calls.Survey.{survey, survey_refusal}
use Rattle.history.specs.History.{Call, painting, taking_back, redoing, emptying, Buffers, Paint, Kept, nothing, without_latest, with_next, built, after, answer, after_calls, keep, kept, drawn, log_of, log_after, picture_left, raster_left}
use Rattle.history.specs.Claim.{back_answer, redo_answer}
use Rattle.history.proofs.PaintStep.{paint_left}
use Rattle.history.proofs.TakeBackStep.{back_left}
use Rattle.history.proofs.RedoStep.{redo_left}
use Rattle.history.proofs.Theorem.{history}

-- emptying is never refused
empty_answer : (m s : ℕ) (b : Buffers) → answer m s b emptying ≡ 0
unfolding answer
empty_answer m s b = refl

-- a refused call leaves every buffer and count
pub refused_left : (m s : ℕ) (b : Buffers) (c : Call) → (answer m s b c ≡ 0 → ⊥) → after m s b c ≡ b
refused_left m s b (painting x) h = paint_left m s b x h
refused_left m s b taking_back h = back_left m s b h
refused_left m s b redoing h = redo_left m s b h
refused_left m s b emptying h = absurd (h (empty_answer m s b))

-- the paints of a run that goes on begin where the first part ended
pub kept_append : (m s : ℕ) (b : Buffers) (k : Kept) (calls more : List Call)
    → kept m s b k (calls ++ more) ≡ kept m s (after_calls m s b calls) (kept m s b k calls) more
unfolding after_calls kept
kept_append m s b k [] more = refl
kept_append m s b k (c ∷ calls) more = kept_append m s (after m s b c) (keep c (answer m s b c) k) calls more

-- one call more
kept_one : (m s : ℕ) (b : Buffers) (k : Kept) (c : Call) → kept m s b k (c ∷ []) ≡ keep c (answer m s b c) k
unfolding kept
kept_one m s b k c = refl

-- the picture left goes by the paints held and fixed
picture_by_held : (m : ℕ) (raster : List ℕ) (k k' : Kept) → k.held ≡ k'.held → k.fixed ≡ k'.fixed → picture_left m raster k ≡ picture_left m raster k'
unfolding picture_left
picture_by_held m raster k k' e f = ap₂ (λ a b. drawn m (picture_of_raster m raster) (a ++ b)) e f

raster_by_held : (m : ℕ) (raster : List ℕ) (k k' : Kept) → k.held ≡ k'.held → k.fixed ≡ k'.fixed → raster_left m raster k ≡ raster_left m raster k'
unfolding raster_left
raster_by_held m raster k k' e f = ap (λ q. features_of_rows q 0 0 (2 ^ m) (2 ^ m)) (picture_by_held m raster k k' e f)

held_back : (x : Paint) (xs undone fixed : List Paint) (refusal : ℕ) → refusal ≡ 0
    → keep taking_back refusal (record { held = x ∷ xs; undone = undone; fixed = fixed }) ≡ record { held = xs; undone = x ∷ undone; fixed = fixed }
unfolding keep without_latest
held_back x xs undone fixed refusal e = rw (eq-eqb refusal 0 e)

held_again : (held : List Paint) (x : Paint) (xs fixed : List Paint) (refusal : ℕ) → refusal ≡ 0
    → keep redoing refusal (record { held = held; undone = x ∷ xs; fixed = fixed }) ≡ record { held = x ∷ held; undone = xs; fixed = fixed }
unfolding keep with_next
held_again held x xs fixed refusal e = rw (eq-eqb refusal 0 e)

held_more : (x : Paint) (refusal : ℕ) (k : Kept) → refusal ≡ 0
    → keep (painting x) refusal k ≡ record { held = x ∷ k.held; undone = []; fixed = k.fixed }
unfolding keep
held_more x refusal k e = rw (eq-eqb refusal 0 e)

held_zero : (x : Paint) (xs : List Paint) → back_answer (x ∷ xs) ≡ 0
unfolding back_answer
held_zero x xs = refl

undone_zero : (x : Paint) (xs : List Paint) → redo_answer (x ∷ xs) ≡ 0
unfolding redo_answer
undone_zero x xs = refl

module _ (m s : ℕ) (raster keys bits summary log_keys log_values : List ℕ) (accept : survey_refusal m s raster keys bits summary ≡ 0) where
  abbrev first : Buffers
  first = built m s raster keys bits summary log_keys log_values

  -- the paints that a run of calls keeps
  abbrev keeps : List Call → Kept
  keeps calls = kept m s first nothing calls

  one_more : (calls : List Call) (c : Call) → keeps (calls ++ (c ∷ [])) ≡ keep c (answer m s (after_calls m s first calls) c) (keeps calls)
  one_more calls c = kept_append m s first nothing calls (c ∷ []) ∙ kept_one m s (after_calls m s first calls) (keeps calls) c

  -- taking back undoes the latest paint held
  pub back_cancels : (calls : List Call) (x : Paint) (xs undone fixed : List Paint) → keeps calls ≡ record { held = x ∷ xs; undone = undone; fixed = fixed }
      → keeps (calls ++ (taking_back ∷ [])) ≡ record { held = xs; undone = x ∷ undone; fixed = fixed }
  back_cancels calls x xs undone fixed e =
      let told : answer m s (after_calls m s first calls) taking_back ≡ 0 =
      (history m s raster keys bits summary log_keys log_values accept calls).back ∙ ap (λ k. back_answer k.held) e ∙ held_zero x xs in
      one_more calls taking_back
      ∙ ap (λ k. keep taking_back (answer m s (after_calls m s first calls) taking_back) k) e
      ∙ held_back x xs undone fixed (answer m s (after_calls m s first calls) taking_back) told

  -- redo holds the next paint again, in its old position
  pub redo_restores : (calls : List Call) (held : List Paint) (x : Paint) (xs fixed : List Paint) → keeps calls ≡ record { held = held; undone = x ∷ xs; fixed = fixed }
      → keeps (calls ++ (redoing ∷ [])) ≡ record { held = x ∷ held; undone = xs; fixed = fixed }
  redo_restores calls held x xs fixed e =
      let told : answer m s (after_calls m s first calls) redoing ≡ 0 =
      (history m s raster keys bits summary log_keys log_values accept calls).again ∙ ap (λ k. redo_answer k.undone) e ∙ undone_zero x xs in
      one_more calls redoing
      ∙ ap (λ k. keep redoing (answer m s (after_calls m s first calls) redoing) k) e
      ∙ held_again held x xs fixed (answer m s (after_calls m s first calls) redoing) told

  -- list, summary and the three counts are the same after both runs
  pub record Alike (calls calls' : List Call) : Type 0 where
    pub list : records_of (after_calls m s first calls).keys (after_calls m s first calls).bits (after_calls m s first calls).n
        ≡ records_of (after_calls m s first calls').keys (after_calls m s first calls').bits (after_calls m s first calls').n
    pub summaries : (after_calls m s first calls).summary ≡ (after_calls m s first calls').summary
    pub lengths : (after_calls m s first calls).n ≡ (after_calls m s first calls').n
    pub used : (after_calls m s first calls).used ≡ (after_calls m s first calls').used
    pub in-force : (after_calls m s first calls).in_force ≡ (after_calls m s first calls').in_force

  -- as they are where both keep the same paints
  kept_alike : (calls calls' : List Call) → keeps calls ≡ keeps calls' → Alike calls calls'
  kept_alike calls calls' same =
      let a = history m s raster keys bits summary log_keys log_values accept calls in
      let b = history m s raster keys bits summary log_keys log_values accept calls' in
      let force = a.force_count ∙ ap (λ k. length (log_of m (drawn m (picture_of_raster m raster) k.fixed) k.held)) same ∙ sym b.force_count in
      record {
        list = a.list ∙ ap (λ k. list_of_raster m (raster_left m raster k)) same ∙ sym b.list;
        summaries = a.summary_left ∙ ap (λ k. summary_of m s (picture_left m raster k)) same ∙ sym b.summary_left;
        lengths = a.fresh_count ∙ ap (λ k. (survey m s (raster_left m raster k) keys bits summary).count) same ∙ sym b.fresh_count;
        used = a.used_count ∙ ap₂ ◌+◌ force (ap (λ k. length (log_after m (picture_left m raster k) k.undone)) same) ∙ sym b.used_count;
        in-force = force;
      }

  -- a taking back that is redone leaves all as it was
  pub back_redone : (calls : List Call) (x : Paint) (xs : List Paint) → (keeps calls).held ≡ x ∷ xs → Alike ((calls ++ (taking_back ∷ [])) ++ (redoing ∷ [])) calls
  back_redone calls x xs e =
      let k : Kept = keeps calls in
      let now : k ≡ record { held = x ∷ xs; undone = k.undone; fixed = k.fixed } = λ i. record { held = e i; undone = k.undone; fixed = k.fixed } in
      kept_alike ((calls ++ (taking_back ∷ [])) ++ (redoing ∷ [])) calls
      (redo_restores (calls ++ (taking_back ∷ [])) xs x k.undone k.fixed (back_cancels calls x xs k.undone k.fixed now) ∙ sym now)

  -- and so does a redo that is taken back
  pub redo_undone : (calls : List Call) (x : Paint) (xs : List Paint) → (keeps calls).undone ≡ x ∷ xs → Alike ((calls ++ (redoing ∷ [])) ++ (taking_back ∷ [])) calls
  redo_undone calls x xs e =
      let k : Kept = keeps calls in
      let now : k ≡ record { held = k.held; undone = x ∷ xs; fixed = k.fixed } = λ i. record { held = k.held; undone = e i; fixed = k.fixed } in
      kept_alike ((calls ++ (redoing ∷ [])) ++ (taking_back ∷ [])) calls
      (back_cancels (calls ++ (redoing ∷ [])) x k.held xs k.fixed (redo_restores calls k.held x xs k.fixed now) ∙ sym now)

module _ (m s : ℕ) (raster keys bits summary log_keys log_values : List ℕ) (accept : survey_refusal m s raster keys bits summary ≡ 0) (calls : List Call) (x : Paint) where
  abbrev begin : Buffers
  begin = built m s raster keys bits summary log_keys log_values

  -- the calls, and then a paint and a taking back
  abbrev undone : List Call
  undone = (calls ++ (painting x ∷ [])) ++ (taking_back ∷ [])

  -- an accepted paint that is taken back is the only one that can be redone, and leaves the other paints as they were
  pub undone_kept : answer m s (after_calls m s begin calls) (painting x) ≡ 0
      → kept m s begin nothing undone
      ≡ record { held = (kept m s begin nothing calls).held; undone = x ∷ []; fixed = (kept m s begin nothing calls).fixed }
  undone_kept e =
      let k : Kept = kept m s begin nothing calls in
      back_cancels m s raster keys bits summary log_keys log_values accept (calls ++ (painting x ∷ [])) x k.held [] k.fixed
      (one_more m s raster keys bits summary log_keys log_values accept calls (painting x) ∙ held_more x (answer m s (after_calls m s begin calls) (painting x)) k e)

  -- and so the list
  pub undone_list : answer m s (after_calls m s begin calls) (painting x) ≡ 0
      → records_of (after_calls m s begin undone).keys (after_calls m s begin undone).bits (after_calls m s begin undone).n
      ≡ records_of (after_calls m s begin calls).keys (after_calls m s begin calls).bits (after_calls m s begin calls).n
  undone_list e =
      (history m s raster keys bits summary log_keys log_values accept undone).list
      ∙ ap (λ k. list_of_raster m (raster_left m raster k)) (undone_kept e)
      ∙ ap (list_of_raster m) (raster_by_held m raster _ (kept m s begin nothing calls) refl refl)
      ∙ sym (history m s raster keys bits summary log_keys log_values accept calls).list

  -- and the summary
  pub undone_summary : answer m s (after_calls m s begin calls) (painting x) ≡ 0 → (after_calls m s begin undone).summary ≡ (after_calls m s begin calls).summary
  undone_summary e =
      (history m s raster keys bits summary log_keys log_values accept undone).summary_left
      ∙ ap (λ k. summary_of m s (picture_left m raster k)) (undone_kept e)
      ∙ ap (summary_of m s) (picture_by_held m raster _ (kept m s begin nothing calls) refl refl)
      ∙ sym (history m s raster keys bits summary log_keys log_values accept calls).summary_left

  -- and the records in force
  pub undone_log : answer m s (after_calls m s begin calls) (painting x) ≡ 0
      → records_of (after_calls m s begin undone).log_keys (after_calls m s begin undone).log_values (after_calls m s begin undone).in_force
      ≡ records_of (after_calls m s begin calls).log_keys (after_calls m s begin calls).log_values (after_calls m s begin calls).in_force
  undone_log e =
      (history m s raster keys bits summary log_keys log_values accept undone).in-force
      ∙ ap (λ k. log_of m (drawn m (picture_of_raster m raster) k.fixed) k.held) (undone_kept e)
      ∙ sym (history m s raster keys bits summary log_keys log_values accept calls).in-force
