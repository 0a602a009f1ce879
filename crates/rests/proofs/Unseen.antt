-- Nobody sees the rests: two histories that stand with the same paints in slices with as much room answer every call alike, and so a history whose rests
-- bring all along and lead to slices with as much room leaves what the same calls leave without them. Rests on Run and Begun.
use Prim.Native.Nat.{ℕ, ◌+◌}
use mathlib.Core.Path.{◌≡◌, refl, sym, ap, ap₂, ◌∙◌}
use mathlib.Core.List.{List, [], ◌∷◌}
use lib.ListN.{length}
use Rattle.definitions.specs.Picture.{Picture}
use Rattle.definitions.specs.List.{list_of_picture}
use Rattle.definitions.specs.Area.{summary_of}
use Rattle.definitions.specs.Calls.Survey.{survey_refusal}
use Rattle.history.specs.History.{Call, painting, of_block, of_window, taking_back, redoing, emptying, Buffers, Kept, answer, keep, log_of, log_after}
use Rattle.history.specs.Claim.{back_answer_in, redo_answer_in, paint_answer, paint_window_answer}
use Rattle.history.proofs.LogSlices.{log_counts}
use Rattle.history.proofs.Invariant.{ground, now, now_records, now_force, now_redo}
use Rattle.history.proofs.PaintAnswer.{paint-answer, window_answer}
use Rattle.history.proofs.TakeBackStep.{back-answer-in}
use Rattle.history.proofs.RedoStep.{redo-answer-in}
use Rattle.rests.specs.Events.{Event, calling, resting, resting_short, MayHappen, LentSlices, Reached, built_into, after_event, after_events, AllMay}
use Rattle.rests.specs.Starts.{HasList, found}
use Rattle.rests.specs.Unseen.{without_rests, AsRoomy, AllSameRoom, Alike}
use Rattle.rests.proofs.Run.{RestStands, event_keeps}
use Rattle.rests.proofs.Begun.{built_stands, list_stands}

-- two histories of one first picture stand alike
record Twins (m s : ℕ) (p : Picture) (t u : Reached) : Type 0 where
  first : RestStands m s p t
  second : RestStands m s p u
  paints : t.paints ≡ u.paints
  rooms : AsRoomy t u

-- what a call makes of the paints goes by its answer
call_paints : (m s : ℕ) (t u : Reached) (c : Call) → answer m s t.buffers c ≡ answer m s u.buffers c → t.paints ≡ u.paints
    → (after_event m s t (calling c)).paints ≡ (after_event m s u (calling c)).paints
unfolding after_event
call_paints m s t u c e f = λ i. keep c (e i) (f i)

-- and the slices stay
call_rooms : (m s : ℕ) (t u : Reached) (c : Call) → AsRoomy t u → AsRoomy (after_event m s t (calling c)) (after_event m s u (calling c))
unfolding after_event
call_rooms m s t u c h = record { for_list = h.for_list; for_log = h.for_log }

-- a rest keeps the paints
rest_paints : (m s : ℕ) (t : Reached) (to : Buffers) → (after_event m s t (resting to)).paints ≡ t.paints
unfolding after_event
rest_paints m s t to = refl

module _ {m s : ℕ} {p : Picture} {t u : Reached} (h : Twins m s p t u) where
  -- as many records are in force
  same_force : t.buffers.in_force ≡ u.buffers.in_force
  same_force =
      h.first.holds.log.force ∙ ap (λ (k : Kept). length (log_of m (ground m p k) k.held)) h.paints ∙ sym h.second.holds.log.force

  -- and every call is answered alike
  same_answer : (c : Call) → answer m s t.buffers c ≡ answer m s u.buffers c
  unfolding answer
  same_answer (painting (of_block κ f)) =
      paint-answer h.first.holds κ f
      ∙ (λ i. paint_answer m s (now m p (h.paints i)) (h.rooms.for_list i) (h.rooms.for_log i) (same_force i) κ f)
      ∙ sym (paint-answer h.second.holds κ f)
  same_answer (painting (of_window w f)) =
      window_answer h.first.holds w f
      ∙ (λ i. paint_window_answer m s (now m p (h.paints i)) (h.rooms.for_list i) (h.rooms.for_log i) (same_force i) w f)
      ∙ sym (window_answer h.second.holds w f)
  same_answer taking_back =
      back-answer-in t.paints.held t.paints.undone t.paints.fixed h.first.holds
      ∙ (λ i. back_answer_in m (ground m p (h.paints i)) (h.rooms.for_list i) (h.paints i).held)
      ∙ sym (back-answer-in u.paints.held u.paints.undone u.paints.fixed h.second.holds)
  same_answer redoing =
      redo-answer-in t.paints.held t.paints.undone t.paints.fixed h.first.holds
      ∙ (λ i. redo_answer_in m (now m p (h.paints i)) (h.rooms.for_list i) (h.paints i).undone)
      ∙ sym (redo-answer-in u.paints.held u.paints.undone u.paints.fixed h.second.holds)
  same_answer emptying = refl

  -- so after a call they stand alike
  same_call : (c : Call) → Twins m s p (after_event m s t (calling c)) (after_event m s u (calling c))
  same_call c =
      record {
        first = event_keeps (calling c) tt h.first;
        second = event_keeps (calling c) tt h.second;
        paints = call_paints m s t u c (same_answer c) h.paints;
        rooms = call_rooms m s t u c h.rooms;
      }

  -- and so after a rest of the first into slices with as much room
  same_rest : (to : Buffers) → MayHappen m s t.buffers (resting to) → AsRoomy (after_event m s t (resting to)) t → Twins m s p (after_event m s t (resting to)) u
  same_rest to may rooms =
      record {
        first = event_keeps (resting to) may h.first;
        second = h.second;
        paints = rest_paints m s t to ∙ h.paints;
        rooms = record { for_list = rooms.for_list ∙ h.rooms.for_list; for_log = rooms.for_log ∙ h.rooms.for_log };
      }

  -- twins have the same list, summary, log and counts
  twins_alike : Alike m s t.buffers u.buffers
  twins_alike =
      let x = h.first.holds in
      let y = h.second.holds in
      let list = now_records x ∙ ap (λ (k : Kept). list_of_picture m (now m p k)) h.paints ∙ sym (now_records y) in
      let redo = now_redo x ∙ ap (λ (k : Kept). log_after m (now m p k) k.undone) h.paints ∙ sym (now_redo y) in
      record {
        list = list;
        summaries = x.counts ∙ ap (λ (k : Kept). summary_of m s (now m p k)) h.paints ∙ sym y.counts;
        counts = x.list.count ∙ ap (λ (k : Kept). length (list_of_picture m (now m p k))) h.paints ∙ sym y.list.count;
        used =
            log_counts x.log
            ∙ ap₂ ◌+◌ same_force (ap (λ (k : Kept). length (log_after m (now m p k) k.undone)) h.paints)
            ∙ sym (log_counts y.log);
        in-force = same_force;
        log_in_force = now_force x ∙ ap (λ (k : Kept). log_of m (ground m p k) k.held) h.paints ∙ sym (now_force y);
        log_to_redo = redo;
        answers = same_answer;
      }

-- a history whose rests bring all along and lead to slices with as much room, and its calls alone, go on as twins
twins_run : {m s : ℕ} {p : Picture} {t u : Reached} (es : List Event) → AllMay m s t es → AllSameRoom m s t es → Twins m s p t u
    → Twins m s p (after_events m s t es) (after_events m s u (without_rests es))
unfolding after_events AllMay AllSameRoom without_rests
twins_run [] may same h = h
twins_run {m} {s} {t = t} {u = u} (calling c ∷ es) may same h =
    twins_run {t = after_event m s t (calling c)} {u = after_event m s u (calling c)} es may.1 same.1 (same_call h c)
twins_run {m} {s} {t = t} (resting to ∷ es) may same h = twins_run {t = after_event m s t (resting to)} es may.1 same.1 (same_rest h to may.0 same.0)
twins_run (resting_short to ∷ es) may same h = absurd same.0

-- who stands is his own twin
own_twin : {m s : ℕ} {p : Picture} {t : Reached} → RestStands m s p t → Twins m s p t t
own_twin h = record { first = h; second = h; paints = refl; rooms = record { for_list = refl; for_log = refl } }

-- after an accepted build nobody sees the rests
pub rests_unseen : (m s : ℕ) (raster : List ℕ) (lent : LentSlices) → survey_refusal m s raster lent.keys lent.bits lent.summary ≡ 0
    → (es : List Event)
    → AllMay m s (built_into m s raster lent) es
    → AllSameRoom m s (built_into m s raster lent) es
    → Alike m s (after_events m s (built_into m s raster lent) es).buffers (after_events m s (built_into m s raster lent) (without_rests es)).buffers
rests_unseen m s raster lent e es may same = twins_alike (twins_run es may same (own_twin (built_stands m s raster lent e)))

-- nor where a list was found
pub found_unseen : (m s : ℕ) (b : Buffers) → HasList m s b → (es : List Event) → AllMay m s (found b) es → AllSameRoom m s (found b) es
    → Alike m s (after_events m s (found b) es).buffers (after_events m s (found b) (without_rests es)).buffers
found_unseen m s b h es may same = twins_alike (twins_run es may same (own_twin (list_stands m s b h)))
