-- The area on the walk: what was counted, and what is left from the key where the walk stands on, are together the area. A block that is passed adds what
-- it has of the feature in the window, one that is entered adds nothing. Rests on AreaFrom, OverlapArea and BlockCount.
use Prim.Native.Nat.{ℕ, zero, suc, ◌+◌, ◌*◌, ◌/◌, ◌^◌, ◌≤◌}
use mathlib.Core.Path.{◌≡◌, sym, ◌∙◌, ap}
use mathlib.Core.Bool.{true, false, true≢false}
use mathlib.Core.List.{List}
use native.Mathlib.Nat.{pow-le-pow_right}
use native.Mathlib.Omega.{arith}
use lib.Dec.{leb, lit<}
use Rattle.keys.specs.Key.{height_of}
use Rattle.keys.specs.Block.{row_of, column_of}
use Rattle.keys.proofs.Cases.{and_right}
use Rattle.keys.specs.Under.{MapBlock}
use Rattle.definitions.specs.Picture.{Picture, one_feature}
use Rattle.definitions.specs.Bits.{has_slot}
use Rattle.definitions.specs.Window.{is_window}
use Rattle.definitions.specs.Area.{area_in, pixels_with}
use Rattle.definitions.specs.declared.Window.{Window}
use Rattle.laws.proofs.Features.{one_pixel}
use Rattle.walk.specs.Walk.{BlockSpot, is_apart}
use Rattle.walk.specs.declared.Spot.{Spot}
use Rattle.walk.proofs.SpotBits.{bits_at}
use Rattle.walk.proofs.Steps.{Parent, clear_first}
use Rattle.area.specs.Overlap.{overlap_of, is_summed}
use Rattle.area.specs.Tally.{MixedAt}
use Rattle.area.proofs.AreaFrom.{area_from, area_first, area_end, area_most, area_clear, area_block}
use Rattle.area.proofs.OverlapArea.{own_area, own_apart, own_lacking, own_within, own_whole}
use Rattle.area.proofs.BlockCount.{keyed, keyed_one}

parent_by : {m : ℕ} (p : Picture) (s : Spot) (k : ℕ) → MapBlock m k s.row s.column s.key → s.side ≡ 2 ^ k → s.step ≡ 5 ^ k
    → one_feature p k s.row s.column ≡ false
    → Parent m s
parent_by p s zero b side step several = absurd (true≢false (sym (one_pixel p s.row s.column) ∙ several))
parent_by p s (suc k) b side step several = record { height = k; block = b; side = side; step = step }

-- a block of several features is no pixel
pub mixed_parent : {m : ℕ} {p : Picture} {bits : List ℕ} {s : Spot} {from : ℕ} → BlockSpot m s → MixedAt m p bits s from → Parent m s
mixed_parent {p = p} {s = s} h x = parent_by p s h.height h.block h.side h.step (sym (keyed_one h p) ∙ x.several)

module _ (m : ℕ) (p : Picture) (w : Window) (f : ℕ) where
  -- what was counted, with what is left from a key on, is the area
  pub record MeasuredSoFar (pixels x : ℕ) : Type 0 where
    pub adds_up : pixels + area_from m p w f x ≡ area_in p w f

  pub measured_none : (x : ℕ) → x ≡ 0 → is_window m w ≡ true → MeasuredSoFar 0 x
  measured_none x e good = let a = area_first m p w f x e good in omega arith

  pub measured_end : (pixels x : ℕ) → x ≡ 5 ^ m → MeasuredSoFar pixels x → pixels ≡ area_in p w f
  measured_end pixels x e t = let a = area_end m p w f x e in omega arith

  -- what was counted is at most the raster's pixels
  pub measured_most : (pixels x : ℕ) → m ≤ 10 → is_window m w ≡ true → MeasuredSoFar pixels x → pixels ≤ 1048576
  measured_most pixels x deep good t =
      let a = area_most m p w f good in
      let b = pow-le-pow_right {n = 4} (lit< tt) {i = m} {j = 10} deep in
      omega arith

  -- into a block
  pub measured_enter : (pixels : ℕ) {s : Spot} → is_window m w ≡ true → Parent m s → MeasuredSoFar pixels s.key → MeasuredSoFar pixels (s.key + s.step / 5)
  measured_enter pixels {s} good q t =
      let a = area_clear m p w f s.key (s.key + s.step / 5) (omega arith) (clear_first w good q) in
      omega arith

  module _ {s : Spot} (h : BlockSpot m s) (pixels : ℕ) (t : MeasuredSoFar pixels s.key) where
    -- past a block that adds so many pixels
    past : (more : ℕ) → more ≡ own_area p w f h → MeasuredSoFar (pixels + more) (s.key + s.step)
    past more e =
        let a = area_block m p w f h.block in
        let b : area_from m p w f (s.key + s.step) ≡ area_from m p w f (s.key + 5 ^ h.height) = ap (λ x. area_from m p w f (s.key + x)) h.step in
        omega arith

    past_none : own_area p w f h ≡ 0 → MeasuredSoFar pixels (s.key + s.step)
    past_none e = let a = past 0 (sym e) in omega arith

    pub measured_apart : is_apart s w ≡ true → MeasuredSoFar pixels (s.key + s.step)
    measured_apart e = past_none (own_apart p w f h e)

    pub measured_lacking : has_slot (bits_at p h) f ≡ false → MeasuredSoFar pixels (s.key + s.step)
    measured_lacking e = past_none (own_lacking p w f h e)

    -- a block of the feature alone adds what lies in the window
    pub measured_overlap : is_apart s w ≡ false → bits_at p h ≡ 2 ^ f → (more : ℕ) → more ≡ overlap_of s w → MeasuredSoFar (pixels + more) (s.key + s.step)
    measured_overlap e is more g = past more (g ∙ sym (own_whole p w f h e is))

    -- a block within the window adds its count
    pub measured_whole : (side : ℕ) → is_summed side s w ≡ true
        → (more : ℕ) → more ≡ pixels_with p (height_of m s.key) (row_of m s.key) (column_of m s.key) f
        → MeasuredSoFar (pixels + more) (s.key + s.step)
    unfolding is_summed
    measured_whole side e more g = past more (g ∙ keyed h p f ∙ sym (own_within p w f h (and_right (leb (s.side * 4) side) _ e)))
