-- A paint of a window over the sheets, said of the calls: painted on each sheet that it meets, in any order of the sheets, it leaves the sheets of the painted
-- ground, and a sheet that it does not meet stays as it was. Taken back on each of those sheets it leaves the sheets of the ground before, and redone the painted
-- ones; what is asked is told by the buffers alone, so that another process may do it. Rests on GroundPaints, SheetPaints, SheetTakenBack and SheetRedone.
use Prim.Native.Nat.{ℕ, ◌<◌}
use mathlib.Core.Path.{◌≡◌, refl, sym, ap, ap₂, subst, ◌∙◌}
use mathlib.Core.Bool.{true, false, cond, not, ◌||◌, true≢false}
use mathlib.Core.List.{List, [], ◌∷◌}
use lib.Dec.{eqb}
use borrow.Author.Tests.{eqb-true, not-true}
use Rattle.keys.proofs.Cases.{decide, and_left, and_right}
use Rattle.definitions.specs.Picture.{Picture}
use Rattle.definitions.specs.Edit.{fill_window}
use Rattle.definitions.specs.declared.Window.{Window}
use Rattle.history.specs.History.{Call, Buffers, of_window, taking_back, redoing, answer, after}
use Rattle.history.proofs.PaintStep.{paint_left}
use Rattle.sheets.specs.Ground.{Ground, inside_ground, sheets_for, first_line, sheet_picture, sheet_window, meets_sheet}
use Rattle.sheets.specs.Calls.{SheetHolds, GroundFits, AllHold}
use Rattle.sheets.specs.Paints.{painted_ground, paint_on, take_back_on, redo_on, SheetPlace, is_place, is_among, each_once, with_sheet, after_sheets, MetAmong, MetAlone, MetAccept, LastStepOn, NextStepOn, MetLast, MetNext}
use Rattle.sheets.proofs.MetSheets.{window_met, sheet_below}
use Rattle.sheets.proofs.GroundPaints.{painted_cut, untouched_cut}
use Rattle.sheets.proofs.SheetPaints.{holds_agree, paint_holds, paint_last, paint-window}
use Rattle.sheets.proofs.SheetTakenBack.{back_accepted, back_holds, back_next}
use Rattle.sheets.proofs.SheetRedone.{again_accepted, again_holds, again_last}

module _ (m s : ℕ) (call : ℕ → ℕ → Call) where
  -- a sheet's buffers after a run over sheets: after its own call where it was called, and else as they were
  abbrev own_call : List SheetPlace → (ℕ → ℕ → Buffers) → ℕ → ℕ → Buffers
  own_call places sheets i j = cond (is_among places i j) (after m s (sheets i j) (call i j)) (sheets i j)

  here : (x : SheetPlace) (places : List SheetPlace) (sheets : ℕ → ℕ → Buffers) (i j : ℕ) → is_place x i j ≡ true
      → is_among places x.down x.across ≡ false
      → own_call places (with_sheet x (after m s (sheets x.down x.across) (call x.down x.across)) sheets) i j ≡ after m s (sheets i j) (call i j)
  here x places sheets i j e out =
      let new : Buffers = after m s (sheets x.down x.across) (call x.down x.across) in
      let d = eqb-true x.down i (and_left (eqb x.down i) (eqb x.across j) e) in
      let a = eqb-true x.across j (and_right (eqb x.down i) (eqb x.across j) e) in
      ap (λ t. cond t (after m s (with_sheet x new sheets i j) (call i j)) (with_sheet x new sheets i j)) (sym (ap₂ (is_among places) d a) ∙ out)
      ∙ ap (λ t. cond t new (sheets i j)) e
      ∙ ap₂ (λ k l. after m s (sheets k l) (call k l)) d a

  elsewhere : (x : SheetPlace) (places : List SheetPlace) (b : Buffers) (sheets : ℕ → ℕ → Buffers) (i j : ℕ) → is_place x i j ≡ false
      → own_call places (with_sheet x b sheets) i j ≡ own_call places sheets i j
  elsewhere x places b sheets i j e = ap (λ c. cond (is_among places i j) (after m s c (call i j)) c) (ap (λ t. cond t b (sheets i j)) e)

  -- each sheet at most once: then the order of the calls does not tell
  pub run_at : (places : List SheetPlace) (sheets : ℕ → ℕ → Buffers) (i j : ℕ) → each_once places ≡ true
      → after_sheets m s call places sheets i j ≡ cond (is_among places i j) (after m s (sheets i j) (call i j)) (sheets i j)
  unfolding after_sheets is_among each_once
  run_at [] sheets i j once = refl
  run_at (x ∷ places) sheets i j once =
      let out = not-true _ (and_left (not (is_among places x.down x.across)) (each_once places) once) in
      let new : Buffers = after m s (sheets x.down x.across) (call x.down x.across) in
      run_at places (with_sheet x new sheets) i j (and_right (not (is_among places x.down x.across)) (each_once places) once)
      ∙ decide (is_place x i j)
      (λ e. here x places sheets i j e out ∙ sym (ap (λ t. cond (t || is_among places i j) (after m s (sheets i j) (call i j)) (sheets i j)) e))
      (λ e. elsewhere x places new sheets i j e ∙ sym (ap (λ t. cond (t || is_among places i j) (after m s (sheets i j) (call i j)) (sheets i j)) e))

  -- so two runs over the same sheets, each once, leave the same, whatever the orders
  pub any_order : (places places' : List SheetPlace) (sheets : ℕ → ℕ → Buffers) → each_once places ≡ true → each_once places' ≡ true
      → ((i j : ℕ) → is_among places i j ≡ is_among places' i j)
      → (i j : ℕ) → after_sheets m s call places sheets i j ≡ after_sheets m s call places' sheets i j
  any_order places places' sheets once once' same i j =
      run_at places sheets i j once
      ∙ ap (λ t. cond t (after m s (sheets i j) (call i j)) (sheets i j)) (same i j)
      ∙ sym (run_at places' sheets i j once')

module _ (m s : ℕ) (g : Ground) (filler : ℕ) (fits : GroundFits m s g filler) (sheets : ℕ → ℕ → Buffers) (hold : AllHold m s g filler sheets) (w : Window)
    (lies : inside_ground g w ≡ true) (f : ℕ) (places : List SheetPlace) (once : each_once places ≡ true) where
  -- the sheets after the paint
  abbrev painted : ℕ → ℕ → Buffers
  painted = after_sheets m s (paint_on m w f) places sheets

  module _ (i j : ℕ) (down : i < sheets_for m g.rows) (across : j < sheets_for m g.columns) where
    abbrev p : Picture
    p = sheet_picture m g filler i j

    -- on a sheet without a pixel of the window the paint is refused, as its window is none
    refused : meets_sheet m w i j ≡ false → answer m s (sheets i j) (paint_on m w f i j) ≡ 0 → ⊥
    refused e zero =
        true≢false
        (sym (paint-window m s p (sheets i j) fits.settings (sheet_below fits i j) (hold i j down across) (sheet_window m w i j) f zero) ∙ window_met m w i j ∙ e)

    -- and the sheet stays
    pub sheet_stays : meets_sheet m w i j ≡ false → after_sheets m s (paint_on m w f) places sheets i j ≡ sheets i j
    sheet_stays e =
        run_at m s (paint_on m w f) places sheets i j once
        ∙ decide (is_among places i j)
        (λ t. ap (λ x. cond x (after m s (sheets i j) (paint_on m w f i j)) (sheets i j)) t
        ∙ paint_left m s (sheets i j) (of_window (sheet_window m w i j) f) (refused e))
        (λ t. ap (λ x. cond x (after m s (sheets i j) (paint_on m w f i j)) (sheets i j)) t)

    -- a sheet that has one is painted
    sheet_painted : is_among places i j ≡ true → painted i j ≡ after m s (sheets i j) (paint_on m w f i j)
    sheet_painted t =
        run_at m s (paint_on m w f) places sheets i j once ∙ ap (λ x. cond x (after m s (sheets i j) (paint_on m w f i j)) (sheets i j)) t

  module _ (met : MetAmong m g w places) (accept : MetAccept m s g w f sheets) where
    -- the sheets afterwards hold exactly the cut of the painted ground
    pub paint_ground : AllHold m s (painted_ground w f g) filler (after_sheets m s (paint_on m w f) places sheets)
    paint_ground i j down across =
        decide (meets_sheet m w i j)
        (λ e. subst (λ b. SheetHolds m s (sheet_picture m (painted_ground w f g) filler i j) b) (sym (sheet_painted i j down across (met i j down across e)))
        (holds_agree _ _ (painted_cut g filler w lies f m (first_line m i) (first_line m j))
        (paint_holds m s (sheet_picture m g filler i j) (sheets i j) fits.settings (sheet_below fits i j) (hold i j down across) (sheet_window m w i j) f
        (accept i j down across e))))
        (λ e. subst (λ b. SheetHolds m s (sheet_picture m (painted_ground w f g) filler i j) b) (sym (sheet_stays i j down across e))
        (holds_agree _ _ (untouched_cut g filler w lies f m i j e) (hold i j down across)))

    -- and on each sheet that it meets the paint is the last step in force
    pub paint_is_last : MetLast m s g filler w f (after_sheets m s (paint_on m w f) places sheets)
    paint_is_last i j down across e =
        subst (λ b. LastStepOn m s (sheet_picture m g filler i j) (sheet_window m w i j) f b) (sym (sheet_painted i j down across (met i j down across e)))
        (paint_last m s (sheet_picture m g filler i j) (sheets i j) fits.settings (sheet_below fits i j) (hold i j down across) (sheet_window m w i j) f
        (accept i j down across e))

-- calls on the sheets that have a pixel of the window, and on no other: each of those gets its call, and the others stay
module _ (m s : ℕ) (g : Ground) (w : Window) (call : ℕ → ℕ → Call) (sheets : ℕ → ℕ → Buffers) (places : List SheetPlace) (once : each_once places ≡ true)
    (alone : MetAlone m g w places) (i j : ℕ) (down : i < sheets_for m g.rows) (across : j < sheets_for m g.columns) where
  alone_is : after_sheets m s call places sheets i j ≡ cond (meets_sheet m w i j) (after m s (sheets i j) (call i j)) (sheets i j)
  alone_is = run_at m s call places sheets i j once ∙ ap (λ t. cond t (after m s (sheets i j) (call i j)) (sheets i j)) (alone i j down across)

  alone_called : meets_sheet m w i j ≡ true → after_sheets m s call places sheets i j ≡ after m s (sheets i j) (call i j)
  alone_called e = alone_is ∙ ap (λ t. cond t (after m s (sheets i j) (call i j)) (sheets i j)) e

  alone_stays : meets_sheet m w i j ≡ false → after_sheets m s call places sheets i j ≡ sheets i j
  alone_stays e = alone_is ∙ ap (λ t. cond t (after m s (sheets i j) (call i j)) (sheets i j)) e

module _ (m s : ℕ) (g : Ground) (filler : ℕ) (fits : GroundFits m s g filler) (sheets : ℕ → ℕ → Buffers) (w : Window) (lies : inside_ground g w ≡ true) (f : ℕ)
    (places : List SheetPlace) (once : each_once places ≡ true) (alone : MetAlone m g w places) where
  -- a sheet that the paint does not meet is one of the ground before and of the painted ground
  module _ (i j : ℕ) (e : meets_sheet m w i j ≡ false) where
    before_painted : SheetHolds m s (sheet_picture m g filler i j) (sheets i j) → SheetHolds m s (sheet_picture m (painted_ground w f g) filler i j) (sheets i j)
    before_painted = holds_agree _ _ (untouched_cut g filler w lies f m i j e)

    painted_before : SheetHolds m s (sheet_picture m (painted_ground w f g) filler i j) (sheets i j) → SheetHolds m s (sheet_picture m g filler i j) (sheets i j)
    painted_before = holds_agree _ _ (λ r c h. sym (untouched_cut g filler w lies f m i j e r c h))

  module _ (hold : AllHold m s (painted_ground w f g) filler sheets) (last : MetLast m s g filler w f sheets) where
    module _ (i j : ℕ) (down : i < sheets_for m g.rows) (across : j < sheets_for m g.columns) (e : meets_sheet m w i j ≡ true) where
      -- the painted sheet, as its overlap painted
      overlap_painted : SheetHolds m s (fill_window (sheet_window m w i j) f (sheet_picture m g filler i j)) (sheets i j)
      overlap_painted = holds_agree _ _ (λ r c h. sym (painted_cut g filler w lies f m (first_line m i) (first_line m j) r c h)) (hold i j down across)

      -- on each sheet of the paint taking back is accepted
      pub back-answer : answer m s (sheets i j) taking_back ≡ 0
      back-answer =
          back_accepted m s (sheet_picture m g filler i j) (sheets i j) fits.settings (sheet_below fits i j) (sheet_window m w i j) f overlap_painted
          (last i j down across e)

    -- taken back on each sheet that it meets, in any order, and on no other, the paint leaves the sheets of the ground before
    pub back_ground : AllHold m s g filler (after_sheets m s take_back_on places sheets)
    back_ground i j down across =
        decide (meets_sheet m w i j)
        (λ e. subst (λ b. SheetHolds m s (sheet_picture m g filler i j) b) (sym (alone_called m s g w take_back_on sheets places once alone i j down across e))
        (back_holds m s (sheet_picture m g filler i j) (sheets i j) fits.settings (sheet_below fits i j) (sheet_window m w i j) f (overlap_painted i j down across e)
        (last i j down across e)))
        (λ e. subst (λ b. SheetHolds m s (sheet_picture m g filler i j) b) (sym (alone_stays m s g w take_back_on sheets places once alone i j down across e))
        (painted_before i j e (hold i j down across)))

    -- and it is the next step to redo on each of them
    pub back_is_next : MetNext m s g filler w f (after_sheets m s take_back_on places sheets)
    back_is_next i j down across e =
        subst (λ b. NextStepOn m s (sheet_picture m g filler i j) (sheet_window m w i j) f b)
        (sym (alone_called m s g w take_back_on sheets places once alone i j down across e))
        (back_next m s (sheet_picture m g filler i j) (sheets i j) fits.settings (sheet_below fits i j) (sheet_window m w i j) f (overlap_painted i j down across e)
        (last i j down across e))

  module _ (hold : AllHold m s g filler sheets) (next : MetNext m s g filler w f sheets) where
    -- on each sheet of the paint redo is accepted
    pub redo-answer : (i j : ℕ) → i < sheets_for m g.rows → j < sheets_for m g.columns → meets_sheet m w i j ≡ true → answer m s (sheets i j) redoing ≡ 0
    redo-answer i j down across e =
        again_accepted m s (sheet_picture m g filler i j) (sheets i j) fits.settings (sheet_below fits i j) (sheet_window m w i j) f (hold i j down across)
        (next i j down across e)

    -- redone on each sheet that it meets, in any order, and on no other, the paint leaves the sheets of the painted ground
    pub redo_ground : AllHold m s (painted_ground w f g) filler (after_sheets m s redo_on places sheets)
    redo_ground i j down across =
        decide (meets_sheet m w i j)
        (λ e. subst (λ b. SheetHolds m s (sheet_picture m (painted_ground w f g) filler i j) b) (sym (alone_called m s g w redo_on sheets places once alone i j down across e))
        (holds_agree _ _ (painted_cut g filler w lies f m (first_line m i) (first_line m j))
        (again_holds m s (sheet_picture m g filler i j) (sheets i j) fits.settings (sheet_below fits i j) (sheet_window m w i j) f (hold i j down across)
        (next i j down across e))))
        (λ e. subst (λ b. SheetHolds m s (sheet_picture m (painted_ground w f g) filler i j) b) (sym (alone_stays m s g w redo_on sheets places once alone i j down across e))
        (before_painted i j e (hold i j down across)))

    -- and it is the last step in force again
    pub redo_is_last : MetLast m s g filler w f (after_sheets m s redo_on places sheets)
    redo_is_last i j down across e =
        subst (λ b. LastStepOn m s (sheet_picture m g filler i j) (sheet_window m w i j) f b)
        (sym (alone_called m s g w redo_on sheets places once alone i j down across e))
        (again_last m s (sheet_picture m g filler i j) (sheets i j) fits.settings (sheet_below fits i j) (sheet_window m w i j) f (hold i j down across)
        (next i j down across e))
