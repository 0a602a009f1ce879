-- A paint of a window over the sheets of the ground, said of pictures: the overlap painted on a sheet gives the sheet of the painted ground, whether or not the
-- sheet has a pixel of the window; a sheet without one stays, and filler stays filler. Rests on SheetPixels and MetSheets.
use Prim.Native.Nat.{ℕ, ◌+◌, ◌<◌}
use mathlib.Core.Path.{◌≡◌, sym, ap, ◌∙◌}
use mathlib.Core.Bool.{true, false, cond, true≢false}
use native.Mathlib.Omega.{arith}
use Rattle.keys.proofs.Cases.{decide}
use Rattle.definitions.specs.Window.{in_window}
use Rattle.definitions.specs.Edit.{fill_window}
use Rattle.definitions.specs.declared.Window.{Window}
use Rattle.laws.proofs.Pixels.{Agree}
use Rattle.laws.proofs.WindowPaint.{fill_in, fill_out}
use Rattle.sheets.specs.Ground.{Ground, in_ground, inside_ground, first_line, cut_at, seen_from, sheet_picture, meets_sheet}
use Rattle.sheets.specs.Calls.{GroundFits}
use Rattle.sheets.specs.Paints.{painted_ground}
use Rattle.sheets.proofs.SheetPixels.{seen_to, seen_same, cut_ground, cut_filler, window_ground}
use Rattle.sheets.proofs.MetSheets.{not_met}

module _ (g : Ground) (filler : ℕ) (w : Window) (lies : inside_ground g w ≡ true) (f : ℕ) where
  -- a pixel of the painted ground's sheet
  painted_in : (top left r c : ℕ) → in_window w (top + r) (left + c) ≡ true → cut_at (painted_ground w f g) filler top left r c ≡ f
  unfolding in_ground
  painted_in top left r c e =
      cut_ground (painted_ground w f g) filler top left r c (window_ground g filler top left w lies (top + r) (left + c) e)
      ∙ fill_in w f g.picture (top + r) (left + c) e

  painted_out : (top left r c : ℕ) → in_window w (top + r) (left + c) ≡ false → cut_at (painted_ground w f g) filler top left r c ≡ cut_at g filler top left r c
  unfolding cut_at in_ground
  painted_out top left r c e = ap (λ x. cond (in_ground g (top + r) (left + c)) x filler) (fill_out w f g.picture (top + r) (left + c) e)

  -- the overlap painted on a sheet is the sheet of the painted ground
  pub painted_cut : (m top left : ℕ) → Agree (fill_window (seen_from m w top left) f (cut_at g filler top left)) (cut_at (painted_ground w f g) filler top left) m 0 0
  painted_cut m top left r c i =
      let same = seen_same m w top left r c (omega arith) (omega arith) in
      decide (in_window w (top + r) (left + c))
      (λ e. fill_in (seen_from m w top left) f (cut_at g filler top left) r c (same ∙ e) ∙ sym (painted_in top left r c e))
      (λ e. fill_out (seen_from m w top left) f (cut_at g filler top left) r c (same ∙ e) ∙ sym (painted_out top left r c e))

  -- a sheet without a pixel of the window stays
  pub untouched_cut : (m i j : ℕ) → meets_sheet m w i j ≡ false → Agree (sheet_picture m g filler i j) (sheet_picture m (painted_ground w f g) filler i j) m 0 0
  untouched_cut m i j e r c h =
      let top : ℕ = first_line m i in
      let left : ℕ = first_line m j in
      decide (in_window (seen_from m w top left) r c)
      (λ inside. absurd (not_met m w i j e r c inside))
      (λ outside. sym (fill_out (seen_from m w top left) f (cut_at g filler top left) r c outside) ∙ painted_cut m top left r c h)

  -- filler stays filler
  pub filler_stays : (m top left r c : ℕ) → in_ground g (top + r) (left + c) ≡ false → fill_window (seen_from m w top left) f (cut_at g filler top left) r c ≡ filler
  filler_stays m top left r c out =
      decide (in_window (seen_from m w top left) r c)
      (λ e. absurd (true≢false (sym (window_ground g filler top left w lies (top + r) (left + c) (seen_to m w top left r c e).inside) ∙ out)))
      (λ e. fill_out (seen_from m w top left) f (cut_at g filler top left) r c e ∙ cut_filler g filler top left r c out)

-- the painted ground fits where the feature does, so that the laws go on after it
pub painted_fits : {m s : ℕ} {g : Ground} {filler : ℕ} (w : Window) (f : ℕ) → f < s → GroundFits m s g filler → GroundFits m s (painted_ground w f g) filler
unfolding in_ground
painted_fits {s} {g} w f small fits = record {
  settings = fits.settings;
  features = λ row column inside.
      decide (in_window w row column)
      (λ e. let x = fill_in w f g.picture row column e in omega arith)
      (λ e. let x = fill_out w f g.picture row column e in let y = fits.features row column inside in omega arith);
  filler_below = fits.filler_below;
}
