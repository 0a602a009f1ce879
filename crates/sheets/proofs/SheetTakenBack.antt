-- A paint of a window taken back on one sheet: where it is the last step in force, taking back is accepted and leaves the list and the summary of the picture
-- before the paint, the records in force before it, and the paint as the next step to redo. Rests on SheetLogs and on the history's laws of paints.
use Prim.Native.Nat.{ℕ, ◌+◌, ◌<◌, ◌≤◌}
use mathlib.Core.Path.{◌≡◌, refl, sym, ap, ap₂, subst, ◌∙◌}
use mathlib.Core.Bool.{true, false}
use mathlib.Core.List.{List, ◌++◌, append_assoc}
use native.Mathlib.Omega.{arith}
use lib.ListN.{length, take, drop, length-append, take-append-drop}
use lib.Seq.{take-append_seam, drop_at}
use borrow.Author.Tests.{le-ltb, ne_eqb}
use Rattle.keys.specs.Under.{Every}
use Rattle.definitions.specs.Picture.{Picture, features_below}
use Rattle.definitions.specs.List.{Record, list_of_picture}
use Rattle.definitions.specs.Read.{room, records_of}
use Rattle.definitions.specs.Area.{summary_of}
use Rattle.definitions.specs.Edit.{fill_window}
use Rattle.definitions.specs.Log.{group_of, before_step, is_sound, to_redo}
use Rattle.definitions.specs.Refusal.{bad_settings}
use Rattle.definitions.specs.Calls.Edit.{edit_refusal}
use Rattle.definitions.specs.Calls.TakeBack.{restored_picture, restored}
use Rattle.definitions.specs.declared.Window.{Window}
use Rattle.laws.proofs.First.{none_first}
use Rattle.laws.proofs.Features.{below_to, below_from}
use Rattle.laws.proofs.Records.{records-length, records_first}
use Rattle.laws.proofs.LastStep.{IsStep, step_some}
use Rattle.laws.proofs.SoundLog.{none, more, sound_steps, sound_exactly, sound_before}
use Rattle.laws.proofs.InForce.{steps-append}
use Rattle.history.specs.History.{Buffers, taking_back, applied, logged_by, answer, after}
use Rattle.history.proofs.Shown.{shown_records, shown_room, shown_replaced}
use Rattle.history.proofs.Drawn.{fill_below}
use Rattle.history.proofs.Fit.{window_fit, step_is}
use Rattle.history.proofs.Applied.{restored_list, restored_summary, without_step}
use Rattle.history.proofs.EditStep.{with_force, edit_puts}
use Rattle.sheets.specs.Calls.{SheetHolds}
use Rattle.sheets.specs.Paints.{LastStepOn, NextStepOn}
use Rattle.sheets.proofs.SheetCalls.{has_list, has_summary}
use Rattle.sheets.proofs.SheetLogs.{few_on_sheet, log_to, log_from, room_kept, held_fits}

-- what stands behind a part of a list
drop-seam : (xs ys : List Record) → drop (length xs) (xs ++ ys) ≡ ys
drop-seam xs ys = drop_at xs ys (length xs) refl

module _ (m s : ℕ) (p : Picture) (b : Buffers) (settings : bad_settings m s ≡ false) (below : Every (λ r c. p r c < s) m 0 0) (w : Window) (f : ℕ)
    (holds : SheetHolds m s (fill_window w f p) b) (last : LastStepOn m s p w f b) where
  abbrev front : List Record
  front = last.before

  legal : features_below s p m 0 0 ≡ true
  legal = below_from s p m 0 0 below

  painted_below : Every (λ r c. fill_window w f p r c < s) m 0 0
  painted_below = below_to s (fill_window w f p) m 0 0 (fill_below s w f p m 0 0 last.feature legal)

  step : IsStep m s (group_of m p w f)
  unfolding logged_by
  step = step_is p (window_fit w f last.window last.feature) legal

  -- the list and the summary that it leaves are those of the picture before the paint
  back_list : restored m (records_of b.keys b.bits b.n) (records_of b.log_keys b.log_values b.in_force) ≡ list_of_picture m p
  unfolding applied logged_by
  back_list = ap₂ (restored m) holds.list last.in-force ∙ restored_list p (few_on_sheet m s settings) (window_fit w f last.window last.feature) legal front

  back_summary : summary_of m s (restored_picture m (records_of b.keys b.bits b.n) (records_of b.log_keys b.log_values b.in_force)) ≡ summary_of m s p
  unfolding applied logged_by
  back_summary =
      ap₂ (λ l records. summary_of m s (restored_picture m l records)) holds.list last.in-force
      ∙ restored_summary p (few_on_sheet m s settings) (window_fit w f last.window last.feature) legal front

  -- the records in force without the group
  back_force : before_step (records_of b.log_keys b.log_values b.in_force) ≡ front
  unfolding logged_by
  back_force = ap before_step last.in-force ∙ without_step p (few_on_sheet m s settings) (window_fit w f last.window last.feature) legal front

  -- how many are in force
  force_count : b.in_force ≡ length front + length (group_of m p w f)
  force_count =
      let sound = log_to m s b last.sound in
      let a = sound.there in
      let c = sound.within in
      sym (records-length b.log_keys b.log_values b.in_force (omega arith) (omega arith)) ∙ ap length last.in-force ∙ length-append front (group_of m p w f)

  -- taking back is accepted
  pub back_accepted : answer m s b taking_back ≡ 0
  unfolding answer edit_refusal restored
  back_accepted =
      let some = step_some step in
      let count = force_count in
      let l : List Record = restored m (records_of b.keys b.bits b.n) (records_of b.log_keys b.log_values b.in_force) in
      let size = ap length back_list in
      let fits = last.fits in
      let enough : length l ≤ room b.keys b.bits = omega arith in
      none_first _ (
        settings,
        (
          has_list m s (fill_window w f p) b settings painted_below holds,
          (
            has_summary m s (fill_window w f p) b settings painted_below holds,
            (last.sound, (ne_eqb b.in_force 0 (λ e. omega arith), (le-ltb _ _ enough, tt))),
          ),
        ),
      )

  abbrev taken : Buffers
  taken = with_force b (list_of_picture m p) (summary_of m s p) (length front)

  back_done : after m s b taking_back
      ≡ with_force b (restored m (records_of b.keys b.bits b.n) (records_of b.log_keys b.log_values b.in_force))
      (summary_of m s (restored_picture m (records_of b.keys b.bits b.n) (records_of b.log_keys b.log_values b.in_force)))
      (length (before_step (records_of b.log_keys b.log_values b.in_force)))
  unfolding answer after restored
  back_done = edit_puts m s b _ _ _ _ _ _ back_accepted

  taken_is : after m s b taking_back ≡ taken
  taken_is =
      back_done
      ∙ ap₂ (λ l n. with_force b l (summary_of m s (restored_picture m (records_of b.keys b.bits b.n) (records_of b.log_keys b.log_values b.in_force))) n)
      back_list (ap length back_force)
      ∙ ap (λ counts. with_force b (list_of_picture m p) counts (length front)) back_summary

  -- and leaves the list and the summary of the picture before the paint
  pub back_holds : SheetHolds m s p (after m s b taking_back)
  back_holds =
      let shown = shown_replaced b.n (list_of_picture m p) b.keys b.bits in
      subst (λ c. SheetHolds m s p c) (sym taken_is) (record { fits = shown_room shown; list = shown_records shown; summary = refl })

  -- the records in force are those before it
  front_left : records_of b.log_keys b.log_values (length front) ≡ front
  front_left =
      let count = force_count in
      sym (records_first b.log_keys b.log_values b.in_force (length front) (omega arith))
      ∙ ap (take (length front)) last.in-force
      ∙ take-append_seam front (group_of m p w f)

  pub back_log : records_of (after m s b taking_back).log_keys (after m s b taking_back).log_values (after m s b taking_back).in_force ≡ front
  back_log = subst (λ c. records_of c.log_keys c.log_values c.in_force ≡ front) (sym taken_is) front_left

  -- those to redo are the group and what could be redone before
  redo_left : to_redo b.log_keys b.log_values b.used (length front) ≡ group_of m p w f ++ to_redo b.log_keys b.log_values b.used b.in_force
  redo_left =
      let all : List Record = records_of b.log_keys b.log_values b.used in
      let sound = log_to m s b last.sound in
      let two : all ≡ front ++ (group_of m p w f ++ drop b.in_force all) =
      sym (take-append-drop b.in_force all)
      ∙ ap (λ l. l ++ drop b.in_force all) (records_first b.log_keys b.log_values b.used b.in_force sound.within ∙ last.in-force)
      ∙ append_assoc front (group_of m p w f) (drop b.in_force all) in
      ap (drop (length front)) two ∙ drop-seam front (group_of m p w f ++ drop b.in_force all)

  -- the paint is now the next step to redo
  pub back_next : NextStepOn m s p w f (after m s b taking_back)
  back_next =
      let sound = log_to m s b last.sound in
      let a = sound.there in
      let c = sound.within in
      let some = step_some step in
      let count = force_count in
      let size = records-length b.log_keys b.log_values b.in_force (omega arith) (omega arith) in
      let kept = room_kept b.n (list_of_picture m p) b.keys b.bits holds.fits last.fits in
      let own = held_fits holds in
      subst (λ c. NextStepOn m s p w f c) (sym taken_is) (record {
        window = last.window;
        feature = last.feature;
        sound = log_from m s taken (record {
          there = a;
          within = omega arith;
          force = ap (is_sound m s) (front_left ∙ sym back_force) ∙ sound_before m s _ sound.force (omega arith);
          redo = ap (is_sound m s) redo_left
              ∙ (sound_exactly m s _ (few_on_sheet m s settings)).1 (steps-append (more none step) (sound_steps m s _ sound.redo));
        });
        later = to_redo b.log_keys b.log_values b.used b.in_force;
        later_sound = sound.redo;
        to-redo = redo_left;
        fits = omega arith;
      })
