-- A paint of a window redone on one sheet: where it is the next step to redo, redo is accepted and leaves the list and the summary of the painted picture, and
-- the paint as the last step in force. Rests on SheetLogs and on the history's laws of paints.
use Prim.Native.Nat.{ℕ, ◌+◌, ◌<◌, ◌≤◌}
use mathlib.Core.Path.{◌≡◌, refl, sym, ap, ap₂, subst, ◌∙◌}
use mathlib.Core.Bool.{true, false}
use mathlib.Core.List.{List, ◌++◌, append_assoc}
use native.Mathlib.Omega.{arith}
use lib.ListN.{length, take, drop, length-append, length-drop, take-append-drop}
use lib.Seq.{take-append_seam, drop_at}
use borrow.Author.Tests.{le-ltb, ne_eqb}
use Rattle.keys.specs.Under.{Every}
use Rattle.definitions.specs.Picture.{Picture, features_below}
use Rattle.definitions.specs.List.{Record, list_of_picture}
use Rattle.definitions.specs.Read.{room, records_of}
use Rattle.definitions.specs.Area.{summary_of}
use Rattle.definitions.specs.Edit.{fill_window}
use Rattle.definitions.specs.Log.{group_of, first_step, is_sound, to_redo}
use Rattle.definitions.specs.Refusal.{bad_settings}
use Rattle.definitions.specs.Calls.Edit.{edit_refusal}
use Rattle.definitions.specs.Calls.Redo.{redone_picture, redone}
use Rattle.definitions.specs.declared.Window.{Window}
use Rattle.laws.proofs.First.{none_first}
use Rattle.laws.proofs.Features.{below_from}
use Rattle.laws.proofs.Records.{records-length, records_first}
use Rattle.laws.proofs.LastStep.{IsStep, step_some}
use Rattle.laws.proofs.SoundLog.{Steps, sound_steps, sound_with}
use Rattle.history.specs.History.{Buffers, redoing, applied, logged_by, answer, after}
use Rattle.history.proofs.Shown.{shown_records, shown_room, shown_replaced}
use Rattle.history.proofs.Fit.{window_fit, step_is}
use Rattle.history.proofs.Applied.{first_next, redone_list, redone_summary}
use Rattle.history.proofs.EditStep.{with_force, edit_puts}
use Rattle.sheets.specs.Calls.{SheetHolds}
use Rattle.sheets.specs.Paints.{LastStepOn, NextStepOn}
use Rattle.sheets.proofs.SheetCalls.{has_list, has_summary}
use Rattle.sheets.proofs.SheetLogs.{few_on_sheet, log_to, log_from, room_kept, held_fits}

module _ (m s : ℕ) (p : Picture) (b : Buffers) (settings : bad_settings m s ≡ false) (below : Every (λ r c. p r c < s) m 0 0) (w : Window) (f : ℕ)
    (holds : SheetHolds m s p b) (next : NextStepOn m s p w f b) where
  abbrev later : List Record
  later = next.later

  steps : Steps m s later
  steps = sound_steps m s later next.later_sound

  legal : features_below s p m 0 0 ≡ true
  legal = below_from s p m 0 0 below

  step : IsStep m s (group_of m p w f)
  unfolding logged_by
  step = step_is p (window_fit w f next.window next.feature) legal

  -- the first step to redo is the group
  next-is : first_step (to_redo b.log_keys b.log_values b.used b.in_force) ≡ group_of m p w f
  unfolding logged_by
  next-is = ap first_step next.to-redo ∙ first_next p (few_on_sheet m s settings) (window_fit w f next.window next.feature) legal steps

  -- the list and the summary that it leaves are those of the painted picture
  again_list : redone m (records_of b.keys b.bits b.n) (to_redo b.log_keys b.log_values b.used b.in_force) ≡ list_of_picture m (fill_window w f p)
  unfolding applied logged_by
  again_list = ap₂ (redone m) holds.list next.to-redo ∙ redone_list p (few_on_sheet m s settings) (window_fit w f next.window next.feature) legal steps

  again_summary : summary_of m s (redone_picture m (records_of b.keys b.bits b.n) (to_redo b.log_keys b.log_values b.used b.in_force))
      ≡ summary_of m s (fill_window w f p)
  unfolding applied logged_by
  again_summary =
      ap₂ (λ l records. summary_of m s (redone_picture m l records)) holds.list next.to-redo
      ∙ redone_summary p (few_on_sheet m s settings) (window_fit w f next.window next.feature) legal steps

  -- how many records are used
  used_count : b.used ≡ b.in_force + (length (group_of m p w f) + length later)
  used_count =
      let sound = log_to m s b next.sound in
      let a = sound.there in
      let c = sound.within in
      let all = records-length b.log_keys b.log_values b.used (omega arith) (omega arith) in
      let behind = length-drop b.in_force (records_of b.log_keys b.log_values b.used) in
      let parts = ap length next.to-redo ∙ length-append (group_of m p w f) later in
      omega arith

  -- redo is accepted
  pub again_accepted : answer m s b redoing ≡ 0
  unfolding answer edit_refusal redone
  again_accepted =
      let some = step_some step in
      let count = used_count in
      let l : List Record = redone m (records_of b.keys b.bits b.n) (to_redo b.log_keys b.log_values b.used b.in_force) in
      let size = ap length again_list in
      let fits = next.fits in
      let enough : length l ≤ room b.keys b.bits = omega arith in
      none_first _ (
        settings,
        (
          has_list m s p b settings below holds,
          (has_summary m s p b settings below holds, (next.sound, (ne_eqb b.in_force b.used (λ e. omega arith), (le-ltb _ _ enough, tt)))),
        ),
      )

  abbrev again : Buffers
  again = with_force b (list_of_picture m (fill_window w f p)) (summary_of m s (fill_window w f p)) (b.in_force + length (group_of m p w f))

  again_done : after m s b redoing
      ≡ with_force b (redone m (records_of b.keys b.bits b.n) (to_redo b.log_keys b.log_values b.used b.in_force))
      (summary_of m s (redone_picture m (records_of b.keys b.bits b.n) (to_redo b.log_keys b.log_values b.used b.in_force)))
      (b.in_force + length (first_step (to_redo b.log_keys b.log_values b.used b.in_force)))
  unfolding answer after redone
  again_done = edit_puts m s b _ _ _ _ _ _ again_accepted

  again_is : after m s b redoing ≡ again
  again_is =
      again_done
      ∙ ap₂ (λ l n. with_force b l
      (summary_of m s (redone_picture m (records_of b.keys b.bits b.n) (to_redo b.log_keys b.log_values b.used b.in_force))) n)
      again_list (ap (λ l. b.in_force + length l) next-is)
      ∙ ap (λ counts. with_force b (list_of_picture m (fill_window w f p)) counts (b.in_force + length (group_of m p w f))) again_summary

  -- and leaves the list and the summary of the painted picture
  pub again_holds : SheetHolds m s (fill_window w f p) (after m s b redoing)
  again_holds =
      let shown = shown_replaced b.n (list_of_picture m (fill_window w f p)) b.keys b.bits in
      subst (λ c. SheetHolds m s (fill_window w f p) c) (sym again_is) (record { fits = shown_room shown; list = shown_records shown; summary = refl })

  abbrev front : List Record
  front = records_of b.log_keys b.log_values b.in_force

  front_count : length front ≡ b.in_force
  front_count =
      let sound = log_to m s b next.sound in
      let a = sound.there in
      let c = sound.within in
      records-length b.log_keys b.log_values b.in_force (omega arith) (omega arith)

  -- all records used: those in force, the group, and what can be redone after it
  all_is : records_of b.log_keys b.log_values b.used ≡ (front ++ group_of m p w f) ++ later
  all_is =
      let all : List Record = records_of b.log_keys b.log_values b.used in
      sym (take-append-drop b.in_force all)
      ∙ ap₂ (λ x y. x ++ y) (records_first b.log_keys b.log_values b.used b.in_force (log_to m s b next.sound).within) next.to-redo
      ∙ sym (append_assoc front (group_of m p w f) later)

  reached : length (front ++ group_of m p w f) ≡ b.in_force + length (group_of m p w f)
  reached = length-append front (group_of m p w f) ∙ ap (λ n. n + length (group_of m p w f)) front_count

  force_left : records_of b.log_keys b.log_values (b.in_force + length (group_of m p w f)) ≡ front ++ group_of m p w f
  force_left =
      let count = used_count in
      sym (records_first b.log_keys b.log_values b.used (b.in_force + length (group_of m p w f)) (omega arith))
      ∙ ap₂ take (sym reached) all_is
      ∙ take-append_seam (front ++ group_of m p w f) later

  later_left : to_redo b.log_keys b.log_values b.used (b.in_force + length (group_of m p w f)) ≡ later
  later_left = ap₂ drop (sym reached) all_is ∙ drop_at (front ++ group_of m p w f) later (length (front ++ group_of m p w f)) refl

  -- the paint is the last step in force again
  pub again_last : LastStepOn m s p w f (after m s b redoing)
  again_last =
      let sound = log_to m s b next.sound in
      let a = sound.there in
      let count = used_count in
      let kept = room_kept b.n (list_of_picture m (fill_window w f p)) b.keys b.bits holds.fits next.fits in
      let own = held_fits holds in
      subst (λ c. LastStepOn m s p w f c) (sym again_is) (record {
        window = next.window;
        feature = next.feature;
        sound = log_from m s again (record {
          there = a;
          within = omega arith;
          force = ap (is_sound m s) force_left ∙ sound_with front (few_on_sheet m s settings) sound.force step;
          redo = ap (is_sound m s) later_left ∙ next.later_sound;
        });
        before = front;
        in-force = force_left;
        fits = omega arith;
      })
