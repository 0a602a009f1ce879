-- Any run of steps over the ground, paints, takings back and redos, from accepted builds of its sheets: the sheets hold the cut of the ground with the paints that were
-- not taken back, in order, and no taking back and no redo is refused on any sheet. Rests on StepCalls, PaintedSheets and the history theorem.
use Prim.Native.Nat.{ℕ, ◌<◌}
use mathlib.Core.Path.{◌≡◌, sym, ap, ap₂, ◌∙◌}
use mathlib.Core.Bool.{Bool, true, cond}
use mathlib.Core.List.{List, [], ◌∷◌, ◌++◌, append-nil}
use lib.Dec.{leb}
use borrow.Author.Tests.{leb-true}
use Rattle.keys.specs.Key.{root_key}
use Rattle.keys.proofs.Cases.{decide, and_left}
use Rattle.definitions.specs.Picture.{Picture, picture_of_raster}
use Rattle.definitions.specs.Read.{room, records_of, is_list_of_block, is_list}
use Rattle.definitions.specs.Calls.Survey.{survey_refusal}
use Rattle.laws.proofs.Pixels.{Agree}
use Rattle.laws.proofs.RasterOf.{raster_of_picture, raster_back}
use Rattle.history.specs.History.{Buffers, Call, Kept, nothing, built, applied, drawn, after, after_calls, kept, picture_left}
use Rattle.history.proofs.Drawn.{drawn_none, drawn_latest}
use Rattle.history.proofs.Fit.{applied_agree}
use Rattle.history.proofs.Theorem.{history}
use Rattle.sheets.specs.Ground.{Ground, inside_ground, sheets_for, first_line, sheet_picture, meets_sheet}
use Rattle.sheets.specs.Calls.{SheetHolds, AllHold}
use Rattle.sheets.specs.Paints.{SheetPlace, is_among, each_once, after_sheets}
use Rattle.sheets.specs.Steps.{GroundPaint, GroundStep, kept_from, window_of, where_met, picture_after, ground_after, run_calls, sheet_paints, paints_accepted, all_accepted}
use Rattle.sheets.proofs.ClippedGround.{clipped_inside}
use Rattle.sheets.proofs.GroundPaints.{painted_cut, untouched_cut}
use Rattle.sheets.proofs.SheetPaints.{holds_agree}
use Rattle.sheets.proofs.PaintedSheets.{run_at}
use Rattle.sheets.proofs.StepCalls.{on_it, paints_met, paints_not, paints_none, Traced, steps_traced}

module _ (m : ℕ) (g : Ground) (filler i j : ℕ) where
  abbrev built_picture : Picture
  built_picture = picture_of_raster m (raster_of_picture m (sheet_picture m g filler i j))

  -- a paint of the ground with paints so far lies in it
  lies : (x : GroundPaint) (xs : List GroundPaint) → inside_ground (ground_after g xs) (window_of g x) ≡ true
  unfolding inside_ground
  lies x xs = clipped_inside g x.row x.column x.height x.width

  -- the sheet with its paints is the sheet of the ground with its paints
  drawn_cut : (xs : List GroundPaint) → Agree (drawn m built_picture (sheet_paints m g i j xs)) (sheet_picture m (ground_after g xs) filler i j) m 0 0
  unfolding picture_after applied
  drawn_cut [] r c h =
      ap (λ l. drawn m built_picture l r c) (paints_none m g i j)
      ∙ ap (λ q. q r c) (drawn_none m built_picture)
      ∙ raster_back m (sheet_picture m g filler i j) r c h
  drawn_cut (x ∷ xs) r c h =
      decide (meets_sheet m (window_of g x) i j)
      (λ met. ap (λ l. drawn m built_picture l r c) (paints_met m g i j x xs met)
      ∙ ap (λ q. q r c) (drawn_latest m built_picture (on_it m g i j x) (sheet_paints m g i j xs))
      ∙ applied_agree m (on_it m g i j x) (drawn m built_picture (sheet_paints m g i j xs)) (sheet_picture m (ground_after g xs) filler i j) (drawn_cut xs) r c h
      ∙ painted_cut (ground_after g xs) filler (window_of g x) (lies x xs) x.feature m (first_line m i) (first_line m j) r c h)
      (λ none. ap (λ l. drawn m built_picture l r c) (paints_not m g i j x xs none)
      ∙ drawn_cut xs r c h
      ∙ untouched_cut (ground_after g xs) filler (window_of g x) (lies x xs) x.feature m i j none r c h)

-- a step over the sheets that a paint's window meets, in any order of them, is on each sheet its own call or none
pub step_run : (m s : ℕ) (g : Ground) (x : GroundPaint) (call : ℕ → ℕ → Call) (places : List SheetPlace) (sheets : ℕ → ℕ → Buffers) (i j : ℕ) → each_once places ≡ true
    → is_among places i j ≡ meets_sheet m (window_of g x) i j
    → after_sheets m s call places sheets i j ≡ after_calls m s (sheets i j) (where_met m g i j x (call i j))
unfolding after_calls
step_run m s g x call places sheets i j once among =
    let own : Bool → Buffers = λ t. cond t (after m s (sheets i j) (call i j)) (sheets i j) in
    let run : Bool → Buffers = λ t. after_calls m s (sheets i j) (cond t (call i j ∷ []) []) in
    run_at m s call places sheets i j once
    ∙ ap own among
    ∙ decide (meets_sheet m (window_of g x) i j) (λ met. ap own met ∙ sym (ap run met)) (λ none. ap own none ∙ sym (ap run none))

module _ (m s : ℕ) (g : Ground) (filler : ℕ) (keys bits summary log_keys log_values : ℕ → ℕ → List ℕ)
    (accepted : (i j : ℕ) → i < sheets_for m g.rows → j < sheets_for m g.columns
    → survey_refusal m s (raster_of_picture m (sheet_picture m g filler i j)) (keys i j) (bits i j) (summary i j) ≡ 0) (steps : List GroundStep) where
  -- a sheet as it was built, with an empty log
  abbrev pub sheet_built : ℕ → ℕ → Buffers
  sheet_built i j = built m s (raster_of_picture m (sheet_picture m g filler i j)) (keys i j) (bits i j) (summary i j) (log_keys i j) (log_values i j)

  -- the calls that the steps make on it
  abbrev pub sheet_calls : ℕ → ℕ → List Call
  sheet_calls i j = run_calls m g i j steps (record { held = []; undone = [] })

  -- the sheet after them; on other sheets other calls are made, in any order
  abbrev pub sheet_after_steps : ℕ → ℕ → Buffers
  sheet_after_steps i j = after_calls m s (sheet_built i j) (sheet_calls i j)

  module _ (painted : (i j : ℕ) → i < sheets_for m g.rows → j < sheets_for m g.columns → paints_accepted m s (sheet_built i j) (sheet_calls i j) ≡ true) where
    module _ (i j : ℕ) (down : i < sheets_for m g.rows) (across : j < sheets_for m g.columns) where
      abbrev raster : List ℕ
      raster = raster_of_picture m (sheet_picture m g filler i j)

      abbrev own : Kept
      own = kept m s (sheet_built i j) nothing (sheet_calls i j)

      traced : Traced m s g i j raster (keys i j) (bits i j) (summary i j) (log_keys i j) (log_values i j) (accepted i j down across) [] steps (record { held = []; undone = [] })
      traced = steps_traced m s g i j raster (keys i j) (bits i j) (summary i j) (log_keys i j) (log_values i j) (accepted i j down across) steps (painted i j down across)

      -- where the paints are accepted, every taking back and every redo is
      pub steps_accepted : all_accepted m s (sheet_built i j) (sheet_calls i j) ≡ true
      unfolding after_calls
      steps_accepted = traced.all

      -- the picture that the sheet's history leaves is the sheet of the ground with the paints held
      left_cut : Agree (picture_left m raster own) (sheet_picture m (ground_after g (kept_from steps).held) filler i j) m 0 0
      unfolding picture_left
      left_cut r c h =
          ap₂ (λ held fixed. drawn m (picture_of_raster m raster) (held ++ fixed) r c) traced.matches.held traced.matches.fixed
          ∙ ap (λ l. drawn m (picture_of_raster m raster) l r c) (append-nil (sheet_paints m g i j (kept_from steps).held))
          ∙ drawn_cut m g filler i j (kept_from steps).held r c h

      sheet_after : SheetHolds m s (picture_left m raster own) (sheet_after_steps i j)
      unfolding is_list
      sheet_after =
          let b : Buffers = sheet_after_steps i j in
          let x = history m s raster (keys i j) (bits i j) (summary i j) (log_keys i j) (log_values i j) (accepted i j down across) (sheet_calls i j) in
          record {
            fits = leb-true _ _ (and_left (leb b.n (room b.keys b.bits)) (is_list_of_block m s m 0 0 root_key (records_of b.keys b.bits b.n)) x.is-list);
            list = x.picture;
            summary = x.summary_left;
          }

    -- the sheets hold the cut of the ground with the paints that were not taken back
    pub steps_ground : AllHold m s (ground_after g (kept_from steps).held) filler (λ i j. sheet_after_steps i j)
    steps_ground i j down across = holds_agree _ _ (left_cut i j down across) (sheet_after i j down across)
