-- The answers of accepted area calls for all features add up: over the whole raster to T * T, over any window to its pixels (specification S8.12, S8.13). One accepted
-- call is enough, since the calls for the other features are then accepted too. Rests on AreasAddUp, AreaOf and the laws of tables.
use Prim.Native.Nat.{ℕ, ◌*◌, ◌^◌, ◌<◌}
use mathlib.Core.Path.{◌≡◌, refl, ◌∙◌}
use mathlib.Core.Bool.{true}
use mathlib.Core.List.{List}
use native.Mathlib.Omega.{arith}
use lib.Dec.{leb}
use borrow.Author.Tests.{lt-leb, not-false}
use Rattle.keys.specs.Key.{root_key}
use Rattle.keys.proofs.Cases.{and_right}
use Rattle.keys.specs.Under.{Every}
use Rattle.definitions.specs.Picture.{features_below}
use Rattle.definitions.specs.List.{list_of}
use Rattle.definitions.specs.Read.{room, records_of, picture_of, same_records, is_list_of_block, is_list}
use Rattle.definitions.specs.Window.{is_window}
use Rattle.definitions.specs.Area.{area_in, sum_below}
use Rattle.definitions.specs.Calls.Area.{area_refusal, area}
use Rattle.definitions.specs.declared.Window.{Window}
use Rattle.laws.proofs.Features.{below_to}
use Rattle.laws.proofs.WindowScan.{inside_window}
use Rattle.laws.proofs.AreaOf.{window_bounds}
use Rattle.laws.proofs.AreasAddUp.{areas_add_up, square_of}
use Rattle.laws.proofs.SummaryPlaces.{within_same}
use Rattle.laws.proofs.First.{first_none, none_first, accepted_done}

module _ (m s : ℕ) (keys bits : List ℕ) (n : ℕ) (summary : List ℕ) (w : Window) where
  -- an accepted call was lent a list, and a window of the raster
  passed : (f : ℕ) → area_refusal m s keys bits n summary w f ≡ 0 → (is_list m s keys bits n ≡ true) × (is_window m w ≡ true)
  unfolding area_refusal
  passed f e = let none = first_none _ refl e in (not-false _ none.1.0, not-false _ none.1.1.1.0)

  -- where the call for one feature is accepted, those for all are
  pub area_accepted : (f g : ℕ) → area_refusal m s keys bits n summary w f ≡ 0 → g < s → area_refusal m s keys bits n summary w g ≡ 0
  unfolding area_refusal
  area_accepted f g e h =
      let none = first_none _ refl e in
      none_first _ (none.0, (none.1.0, (none.1.1.0, (none.1.1.1.0, (lt-leb s g h, tt)))))

  -- and answers the pixels that have the feature
  area_answers : (f : ℕ) → area_refusal m s keys bits n summary w f ≡ 0 → (area m s keys bits n summary w f).pixels ≡ area_in (picture_of m (records_of keys bits n)) w f
  unfolding area
  area_answers f e = accepted_done (area_in (picture_of m (records_of keys bits n)) w f) 0 e

  features-below : is_list m s keys bits n ≡ true → Every (λ r c. picture_of m (records_of keys bits n) r c < s) m 0 0
  unfolding is_list is_list_of_block
  features-below e =
      let l = records_of keys bits n in
      let p = picture_of m l in
      below_to s p m 0 0 (and_right (same_records l (list_of p m 0 0 root_key)) (features_below s p m 0 0) (and_right (leb n (room keys bits)) _ e))

  -- in a window the answers for all features add up to its pixels
  pub answers_in_window : (f : ℕ) → area_refusal m s keys bits n summary w f ≡ 0 → sum_below (λ g. (area m s keys bits n summary w g).pixels) s ≡ w.height * w.width
  answers_in_window f e =
      let p = picture_of m (records_of keys bits n) in
      let all = passed f e in
      let b = window_bounds m w all.1 in
      let below = features-below all.0 in
      within_same _ (area_in p w) s (λ g h. area_answers g (area_accepted f g e h))
      ∙ areas_add_up p w s
      (λ r c i. let j = inside_window w r c i in below r c (omega (arith, b.rows, b.columns, j.from_row, j.to_row, j.from_column, j.to_column)))

-- over the whole raster they add up to T * T
pub answers_add_up : (m s : ℕ) (keys bits : List ℕ) (n : ℕ) (summary : List ℕ) (f : ℕ) → area_refusal m s keys bits n summary (square_of m 0 0) f ≡ 0
    → sum_below (λ g. (area m s keys bits n summary (square_of m 0 0) g).pixels) s ≡ 2 ^ m * 2 ^ m
answers_add_up m s keys bits n summary f e = answers_in_window m s keys bits n summary (square_of m 0 0) f e
