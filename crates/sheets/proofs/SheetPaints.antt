-- A paint of a window on one sheet: what its answer is, and that an accepted paint leaves the list and the summary of the painted picture and puts its group
-- behind a sound log. Rests on SheetCalls, SheetLogs and on the history's laws of paints.
use Prim.Native.Nat.{ℕ, ◌+◌, ◌<◌, ◌≤◌}
use mathlib.Core.Path.{◌≡◌, refl, sym, ap, ap₂, subst, ◌∙◌}
use mathlib.Core.Bool.{true, false}
use mathlib.Core.List.{[], ◌∷◌, ◌++◌}
use native.Mathlib.Omega.{arith}
use lib.ListN.{length, drop}
use lib.Seq.{drop-length}
use lib.Dec.{ltb}
use borrow.Author.Tests.{leb-false, ltb-false, not-false}
use Rattle.keys.specs.Key.{root_key}
use Rattle.keys.specs.Under.{Every}
use Rattle.definitions.specs.Picture.{Picture}
use Rattle.definitions.specs.List.{list_of_picture}
use Rattle.definitions.specs.Read.{room, records_of, picture_of}
use Rattle.definitions.specs.Area.{summary_of}
use Rattle.definitions.specs.Window.{is_window, bad_window, largest_blocks}
use Rattle.definitions.specs.Edit.{fill_window}
use Rattle.definitions.specs.Log.{grouped, group_of, is_sound}
use Rattle.definitions.specs.Refusal.{◌gives◌, first, bad_settings, bad_feature}
use Rattle.definitions.specs.Calls.Edit.{edit_refusal}
use Rattle.definitions.specs.Calls.PaintWindow.{filled, group_gained, paint_window}
use Rattle.definitions.specs.declared.Window.{Window}
use Rattle.laws.proofs.First.{first_later}
use Rattle.laws.proofs.Edits.{edit_passed}
use Rattle.laws.proofs.Pixels.{Agree}
use Rattle.laws.proofs.Features.{below_from}
use Rattle.laws.proofs.ListOf.{list_agree}
use Rattle.laws.proofs.SummaryOf.{summary_agree}
use Rattle.laws.proofs.Records.{records-length}
use Rattle.laws.proofs.LargestBlocks.{largest_in_order}
use Rattle.laws.proofs.WindowPaint.{entries_past}
use Rattle.laws.proofs.LastStep.{IsStep}
use Rattle.laws.proofs.SoundLog.{sound_with, empty_sound}
use Rattle.history.specs.History.{Buffers, of_window, painting, lent_to, applied, logged_by, answer, after}
use Rattle.history.specs.Claim.{paint_window_answer}
use Rattle.history.proofs.Shown.{ShownInSlices, shown_records, shown_room, shown_replaced, shown_logged}
use Rattle.history.proofs.Content.{map_back}
use Rattle.history.proofs.Fit.{Fit, window_fit, step_is}
use Rattle.history.proofs.Applied.{applied_list, applied_summary}
use Rattle.history.proofs.PaintStep.{with_step, paint_done}
use Rattle.sheets.specs.Calls.{SheetHolds}
use Rattle.sheets.specs.Paints.{HasLog, LastStepOn}
use Rattle.sheets.proofs.SheetCalls.{has_list, has_summary}
use Rattle.sheets.proofs.SheetLogs.{few_on_sheet, SheetLogSound, log_to, log_from, in_slices, room_kept, held_fits}

-- pictures that agree on the raster are held alike
pub holds_agree : {m s : ℕ} {b : Buffers} (p q : Picture) → Agree p q m 0 0 → SheetHolds m s p b → SheetHolds m s q b
holds_agree {m} {s} p q same holds = record {
  fits = holds.fits;
  list = holds.list ∙ list_agree p q m 0 0 root_key same;
  summary = holds.summary ∙ summary_agree m s p q same;
}

module _ (m s : ℕ) (p : Picture) (b : Buffers) (settings : bad_settings m s ≡ false) (below : Every (λ r c. p r c < s) m 0 0) (holds : SheetHolds m s p b)
    (w : Window) (f : ℕ) where
  -- the list that the paint makes is that of the painted picture
  list_is : filled m (records_of b.keys b.bits b.n) w f ≡ list_of_picture m (fill_window w f p)
  unfolding filled applied
  list_is = ap (λ l. filled m l w f) holds.list ∙ applied_list m (of_window w f) p

  -- and its group that of the picture before
  group_is : group_gained m (records_of b.keys b.bits b.n) w f ≡ group_of m p w f
  unfolding group_gained group_of
  group_is =
      ap (λ l. group_gained m l w f) holds.list
      ∙ ap (λ entries. grouped entries (length (largest_blocks m w)))
      (entries_past f (picture_of m (list_of_picture m p)) p (largest_in_order m w) (λ row column low narrow past. map_back m p row column (omega arith)))

  -- with a sound log a paint is refused only by its window, its feature, the log's room for the group and the list's room for the painted picture's list
  pub paint-answer : HasLog m s b
      → answer m s b (painting (of_window w f)) ≡ paint_window_answer m s p (room b.keys b.bits) (room b.log_keys b.log_values) b.in_force w f
  unfolding answer edit_refusal filled paint_window_answer
  paint-answer log =
      first_later _ _ settings
      ∙ first_later _ _ (has_list m s p b settings below holds)
      ∙ first_later _ _ (has_summary m s p b settings below holds)
      ∙ first_later _ _ log
      ∙ ap₂ (λ step l. first
      (bad_window m w gives 6
      ∷ bad_feature s f gives 7
      ∷ ltb (room b.log_keys b.log_values) (b.in_force + length step) gives 10
      ∷ ltb (room b.keys b.bits) (length l) gives 9
      ∷ []))
      group_is list_is

  -- what an accepted paint has passed
  record Passed : Type 0 where
    log : HasLog m s b
    window : is_window m w ≡ true
    feature : f < s
    log-room : b.in_force + length (group_gained m (records_of b.keys b.bits b.n) w f) ≤ room b.log_keys b.log_values
    list-room : length (filled m (records_of b.keys b.bits b.n) w f) ≤ room b.keys b.bits

  module _ (done : answer m s b (painting (of_window w f)) ≡ 0) where
    passed : Passed
    unfolding answer filled
    passed =
        let all = edit_passed (lent_to b (paint_window m s) w f) refl done in
        record {
          log = all.sheet.logged;
          window = not-false _ all.own.0;
          feature = leb-false s f all.own.1.0;
          log-room = ltb-false _ _ all.own.1.1.0;
          list-room = all.fits;
        }

    fit : Fit m s (of_window w f)
    fit = window_fit w f passed.window passed.feature

    -- the buffers after it
    abbrev painted : Buffers
    painted = with_step b (list_of_picture m (fill_window w f p)) (summary_of m s (fill_window w f p)) (group_of m p w f)

    painted_is : after m s b (painting (of_window w f)) ≡ painted
    unfolding applied logged_by filled group_gained
    painted_is =
        paint_done m s b (of_window w f) done
        ∙ ap₂ (λ l step. with_step b l (summary_of m s (fill_window w f (picture_of m (records_of b.keys b.bits b.n)))) step) list_is group_is
        ∙ ap (λ counts. with_step b (list_of_picture m (fill_window w f p)) counts (group_of m p w f))
        (ap (λ l. summary_of m s (fill_window w f (picture_of m l))) holds.list ∙ applied_summary m s (of_window w f) p)

    painted_holds : SheetHolds m s (fill_window w f p) painted
    painted_holds =
        let shown = shown_replaced b.n (list_of_picture m (fill_window w f p)) b.keys b.bits in
        record { fits = shown_room shown; list = shown_records shown; summary = refl }

    -- an accepted paint leaves the list and the summary of the painted picture
    pub paint_holds : SheetHolds m s (fill_window w f p) (after m s b (painting (of_window w f)))
    paint_holds = subst (λ c. SheetHolds m s (fill_window w f p) c) (sym painted_is) painted_holds

    -- the log before, in its slices
    log_shown : ShownInSlices (records_of b.log_keys b.log_values b.in_force) b.in_force b.log_keys b.log_values
    log_shown =
        let sound = log_to m s b passed.log in
        let a = sound.there in
        let c = sound.within in
        in_slices b.log_keys b.log_values b.in_force (omega arith)

    group_step : IsStep m s (group_of m p w f)
    unfolding logged_by
    group_step = step_is p fit (below_from s p m 0 0 below)

    -- the group stands behind it
    log_after : ShownInSlices (records_of b.log_keys b.log_values b.in_force ++ group_of m p w f) painted.in_force painted.log_keys painted.log_values
    log_after = shown_logged b.used (group_of m p w f) log_shown

    painted_log : SheetLogSound m s painted
    painted_log =
        let all = shown_records log_after in
        let within = shown_room log_after in
        let size = records-length painted.log_keys painted.log_values painted.in_force (omega arith) (omega arith) in
        let force = records_of b.log_keys b.log_values b.in_force in
        record {
          there = within;
          within = omega arith;
          force = ap (is_sound m s) all ∙ sound_with force (few_on_sheet m s settings) (log_to m s b passed.log).force group_step;
          redo = ap (λ n. is_sound m s (drop n (records_of painted.log_keys painted.log_values painted.in_force))) (sym size)
              ∙ ap (is_sound m s) (drop-length (records_of painted.log_keys painted.log_values painted.in_force))
              ∙ empty_sound m s;
        }

    -- the paint is now the last step in force: its group of the picture before stands behind the records that were in force
    pub paint_last : LastStepOn m s p w f (after m s b (painting (of_window w f)))
    paint_last =
        let size = ap length list_is in
        let enough = passed.list-room in
        let kept = room_kept b.n (list_of_picture m (fill_window w f p)) b.keys b.bits holds.fits (omega arith) in
        let own = held_fits holds in
        subst (λ c. LastStepOn m s p w f c) (sym painted_is) (record {
          window = passed.window;
          feature = passed.feature;
          sound = log_from m s painted painted_log;
          before = records_of b.log_keys b.log_values b.in_force;
          in-force = shown_records log_after;
          fits = omega arith;
        })

    -- so it was a window of the sheet
    pub paint-window : is_window m w ≡ true
    paint-window = passed.window
