-- Select on the walk, the keys alone: what select gives below the key where the walk stands. A gap adds nothing, and neither does a block apart from the
-- window, a block without the feature, or the way into a block that the window cuts; a largest block adds its leaves of the feature. Rests on Skip,
-- LeafKeys and Largest.
use Prim.Native.Nat.{ℕ, ◌+◌, ◌/◌, ◌^◌, ◌≤◌, ◌<◌}
use mathlib.Core.Path.{◌≡◌, refl, sym, ◌∙◌, ap}
use mathlib.Core.Bool.{true, false, true≢false}
use mathlib.Core.List.{[], ◌++◌}
use native.Mathlib.Omega.{arith}
use lib.ListN.{length}
use Rattle.keys.specs.Key.{root_key}
use Rattle.keys.specs.Block.{pixel_key}
use Rattle.keys.proofs.Cases.{split}
use Rattle.keys.proofs.Powers.{five_pos, five_le, two_pos}
use Rattle.keys.proofs.Interval.{within, nest, one_block}
use Rattle.keys.proofs.Pixel.{inside}
use Rattle.definitions.specs.Picture.{Picture}
use Rattle.definitions.specs.Bits.{has_slot}
use Rattle.definitions.specs.Window.{in_window, is_given, select_from, select_in}
use Rattle.definitions.specs.declared.Window.{Window}
use Rattle.definitions.specs.Edit.{content_of}
use Rattle.laws.proofs.SelectMeans.{given_inside, given_feature, given_of, Selected, select_in_exactly}
use Rattle.laws.proofs.SelectAscends.{select_in_ascends}
use Rattle.walk.specs.declared.Spot.{Spot}
use Rattle.walk.specs.Walk.{BlockSpot, is_within, is_apart, Walking}
use Rattle.walk.specs.Given.{keys_with, lower}
use Rattle.walk.proofs.Lies.{InSpot, apart_pixel}
use Rattle.walk.proofs.Steps.{Parent, nothing_between}
use Rattle.walk.proofs.SpotBits.{bits_at, no_slot_pixel}
use Rattle.walk.proofs.Lower.{lower_all, lower_none, lower_gap, lower-length, ascending-length}
use Rattle.walk.proofs.Largest.{blank_picture, AllInside, within_all, all_within, not_broken}
use Rattle.walk.proofs.Skip.{Alone, select_skip}
use Rattle.walk.proofs.LeafKeys.{leaves_selected}
use Rattle.walk.proofs.Content.{content_at_spot}

-- a given block lies in the window
pub given_all : (p : Picture) (w : Window) (f k r c : ℕ) → is_given p w f k r c ≡ true → AllInside w k r c
given_all p w f k r c given = given_of blank_picture w 0 k r c (λ row column i. (given_inside p w f k r c given i, refl))

module _ (m : ℕ) (p : Picture) (w : Window) (f : ℕ) where
  -- at a largest block no block around it is given
  pub largest_apart : {s : Spot} (h : Walking m w s) → Alone p w f m 0 0 0 h.stands.height s.row s.column s.key
  largest_apart {s} h k₂ r₂ c₂ κ₂ u v given =
      let i = within v in
      let z = five_pos h.stands.height in
      split κ₂ s.key
      (λ before. absurd (not_broken w h.parting u (given_all p w f k₂ r₂ c₂ given) before (omega arith)))
      (λ from. omega arith)

  -- passing a largest block adds its leaves of the feature
  pub lower_block : {s : Spot} (h : Walking m w s) → is_within s w ≡ true
      → lower (s.key + s.step) (select_in m p w f) ≡ lower s.key (select_in m p w f) ++ keys_with (2 ^ f) (content_of m p s.key)
  unfolding select_in
  lower_block {s} h e =
      let i = h.stands in
      ap (λ x. lower (s.key + x) (select_from p w f m 0 0 root_key)) i.step
      ∙ select_skip p w f i.block (largest_apart h)
      ∙ ap (λ l. lower s.key (select_from p w f m 0 0 root_key) ++ l)
      (sym (leaves_selected p w f i.height s.row s.column s.key (within_all w {s = s} i e)) ∙ ap (keys_with (2 ^ f)) (sym (content_at_spot p i)))

  -- a selected block has a pixel of the window among its keys
  selected-pixel {ℓ} : {C : Type ℓ} {z : ℕ} (t : Selected p w f m 0 0 0 z)
      → (in_window w t.row t.column ≡ true → z ≤ pixel_key m t.row t.column → pixel_key m t.row t.column < z + 5 ^ t.height → C)
      → C
  selected-pixel t go =
      let some = two_pos t.height in
      let i = inside {row = t.row} {column = t.column} t.under (omega arith) in
      go (given_inside p w f t.height t.row t.column {row = t.row} {column = t.column} t.given (omega arith)) i.from i.until

  -- a block without a pixel of the window that has the feature adds nothing, from any of its keys on
  lower_barren : {s : Spot} (h : BlockSpot m s) (x : ℕ) → (s.key ≤ x) × (x ≤ s.key + s.step)
      → ((row column : ℕ) → InSpot s row column → in_window w row column ≡ true → p row column ≡ f → ⊥)
      → lower x (select_in m p w f) ≡ lower (s.key + s.step) (select_in m p w f)
  lower_barren {s} h x inside barren =
      lower_gap x (s.key + s.step) (select_in m p w f) inside.1
      (λ z i from before.
      let t = (select_in_exactly p w f m).0 i in
      let some = two_pos t.height in
      let v = within (nest h.block t.under (omega (arith, inside.0)) (omega (arith, h.step))) in
      barren t.row t.column (omega (arith, h.side))
      (given_inside p w f t.height t.row t.column {row = t.row} {column = t.column} t.given (omega arith))
      (given_feature p w f t.height t.row t.column {row = t.row} {column = t.column} t.given (omega arith)))

  -- so does one apart from the window
  pub lower_apart : {s : Spot} → BlockSpot m s → is_apart s w ≡ true → lower s.key (select_in m p w f) ≡ lower (s.key + s.step) (select_in m p w f)
  lower_apart {s} h e = lower_barren h s.key (omega arith, omega arith) (λ row column i j has. apart_pixel s w row column e i j)

  -- and one whose bits lack the feature
  pub lower_lacking : {s : Spot} (h : BlockSpot m s) (x : ℕ) → (s.key ≤ x) × (x ≤ s.key + s.step) → has_slot (bits_at p h) f ≡ false
      → lower x (select_in m p w f) ≡ lower (s.key + s.step) (select_in m p w f)
  lower_lacking h x inside none = lower_barren h x inside (λ row column i j has. no_slot_pixel p f h row column none i has)

  -- and so does the way to the first quadrant of a block that the window cuts
  pub lower_enter : {s : Spot} (h : BlockSpot m s) → Parent m s → is_within s w ≡ false
      → lower s.key (select_in m p w f) ≡ lower (s.key + s.step / 5) (select_in m p w f)
  lower_enter {s} h q e =
      lower_gap s.key (s.key + s.step / 5) (select_in m p w f) (omega arith)
      (λ z i from before.
      let t = (select_in_exactly p w f m).0 i in
      split s.key z
      (λ after. nothing_between q t.under after before)
      (λ at.
      let same = one_block h.block t.under (omega arith) in
      let all : AllInside w h.height s.row s.column
      = rw (same.heights, same.rows, same.columns) (given_all p w f t.height t.row t.column t.given) in
      true≢false (sym (all_within w {s = s} h all) ∙ e)))

  -- nothing is below the root
  pub below_none : (x : ℕ) → x ≡ 0 → lower x (select_in m p w f) ≡ []
  below_none x e = lower_none x (select_in_ascends m p w f) (omega arith)

  -- at the end of the map all is
  pub below_all : (x : ℕ) → x ≡ 5 ^ m → lower x (select_in m p w f) ≡ select_in m p w f
  below_all x e = lower_all x (select_in_ascends m p w f) (omega arith)

  -- there are few keys
  pub below_few : (x : ℕ) → m ≤ 10 → length (lower x (select_in m p w f)) ≤ 9765625
  below_few x low =
      let a = ascending-length (select_in_ascends m p w f) in
      let b = lower-length x (select_in m p w f) in
      let five = five_le 10 low in
      omega arith
