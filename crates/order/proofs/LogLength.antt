-- The logs of two orders differ, but not in length: a paint's entry is the former content of its block, which paints that are apart from it leave alone.
-- Rests on Swaps and Sheets.
use Prim.Native.Nat.{ℕ, ◌+◌}
use mathlib.Core.Path.{◌≡◌, refl, sym, ap, ap₂, ◌∙◌}
use mathlib.Core.Bool.{true}
use mathlib.Core.List.{List, [], ◌∷◌}
use native.Mathlib.Omega.{arith}
use lib.ListN.{length}
use Rattle.keys.specs.Key.{valid_key, height_of}
use Rattle.keys.specs.Block.{row_of, column_of}
use Rattle.keys.proofs.Cases.{and_left, and_right}
use Rattle.keys.proofs.InBlock.{in_block_iff}
use Rattle.keys.proofs.Valid.{valid_block}
use Rattle.definitions.specs.Picture.{Picture}
use Rattle.definitions.specs.List.{list_of_picture}
use Rattle.definitions.specs.Edit.{paint_in, content_of}
use Rattle.definitions.specs.Log.{closed, entry_of}
use Rattle.definitions.specs.Calls.Paint.{gained}
use Rattle.laws.proofs.ListOf.{list_agree}
use Rattle.history.specs.History.{Buffers, of_block, logged_by, answer, after, after_calls}
use Rattle.order.specs.Paint.{BlockPaint}
use Rattle.history.proofs.Content.{gained_entry}
use Rattle.history.proofs.Drawn.{paint_outside}
use Rattle.history.proofs.PaintStep.{paint_done}
use Rattle.order.specs.Rearranged.{Rearranged, Swapped, none, further, swap, and-then}
use Rattle.order.specs.Apart.{apart, apart_from_all, all_apart, all_valid}
use Rattle.order.specs.Either.{as_call, as_calls, in_full, records_on, picture_in, after_paints}
use Rattle.order.proofs.Rearrangements.{times_swapped, not_none}
use Rattle.order.proofs.ApartBlocks.{Disjoint, disjoint_flip, apart_to, apart_disjoint}
use Rattle.order.proofs.Swaps.{valid_swapped, apart_swapped}
use Rattle.order.proofs.Sheets.{paint_shows, accepted_list, accepted_valid, first_accepted, rest_in_full, in_full_valid}

-- a paint leaves the entry of a block without a common pixel
pub entry_stays : (m a f b g : ℕ) (p : Picture) → valid_key m b ≡ true → Disjoint m a b → entry_of m (paint_in m a f p) b g ≡ entry_of m p b g
unfolding entry_of content_of
entry_stays m a f b g p valid h =
    let block = valid_block m b valid in
    ap (λ l. closed b l g)
    (list_agree (paint_in m a f p) p (height_of m b) (row_of m b) (column_of m b) b
    (λ row column square. paint_outside m a f p row column (disjoint_flip m a b h row column ((in_block_iff row column block).1 square))))

-- the places of the entries of a run, each of the picture that it found
unfoldable pub places_in_turn : ℕ → Picture → List BlockPaint → ℕ
places_in_turn m p [] = 0
places_in_turn m p (x ∷ xs) = length (entry_of m p x.key x.feature) + places_in_turn m (paint_in m x.key x.feature p) xs

-- the same, each of the first picture
unfoldable pub places_at_once : ℕ → Picture → List BlockPaint → ℕ
places_at_once m p [] = 0
places_at_once m p (x ∷ xs) = length (entry_of m p x.key x.feature) + places_at_once m p xs

-- a paint leaves the places of paints that are apart from it
places_stay : (m : ℕ) (p : Picture) (x : BlockPaint) (xs : List BlockPaint) → valid_key m x.key ≡ true → all_valid m xs ≡ true → apart_from_all m x xs ≡ true
    → places_at_once m (paint_in m x.key x.feature p) xs ≡ places_at_once m p xs
unfolding places_at_once all_valid apart_from_all
places_stay m p x [] v vs h = refl
places_stay m p x (y ∷ ys) v vs h =
    let valid = and_left (valid_key m y.key) (all_valid m ys) vs in
    let two = apart_disjoint m x.key y.key v valid (apart_to m x y (and_left (apart m x y) (apart_from_all m x ys) h)) in
    ap₂ ◌+◌ (ap length (entry_stays m x.key x.feature y.key y.feature p valid two))
    (places_stay m p x ys v (and_right (valid_key m y.key) (all_valid m ys) vs) (and_right (apart m x y) (apart_from_all m x ys) h))

-- so the picture that an entry found does not tell in its length
in_turn_at_once : (m : ℕ) (p : Picture) (xs : List BlockPaint) → all_valid m xs ≡ true → all_apart m xs ≡ true → places_in_turn m p xs ≡ places_at_once m p xs
unfolding places_in_turn places_at_once all_valid all_apart
in_turn_at_once m p [] v h = refl
in_turn_at_once m p (x ∷ xs) v h =
    let valid = and_left (valid_key m x.key) (all_valid m xs) v in
    let rest = and_right (valid_key m x.key) (all_valid m xs) v in
    ap (λ n. length (entry_of m p x.key x.feature) + n)
    (in_turn_at_once m (paint_in m x.key x.feature p) xs rest (and_right (apart_from_all m x xs) (all_apart m xs) h)
    ∙ places_stay m p x xs valid rest (and_left (apart_from_all m x xs) (all_apart m xs) h))

-- and no more does the order
places_swapped : (m : ℕ) (p : Picture) {xs ys : List BlockPaint} → Swapped xs ys → places_at_once m p xs ≡ places_at_once m p ys
unfolding places_at_once
places_swapped m p none = refl
places_swapped m p (further {x = x} d) = ap (λ n. length (entry_of m p x.key x.feature) + n) (places_swapped m p d)
places_swapped m p (swap {x = x} {y = y} {xs = xs}) = omega arith
places_swapped m p (and-then d e) = places_swapped m p d ∙ places_swapped m p e

-- so a rearrangement of paints, every pair apart, needs as many places
pub places_either : (m : ℕ) (p : Picture) (xs ys : List BlockPaint) → Rearranged xs ys → all_valid m xs ≡ true → all_apart m xs ≡ true
    → places_in_turn m p xs ≡ places_in_turn m p ys
places_either m p xs ys r v h =
    let d = times_swapped xs ys r in
    in_turn_at_once m p xs v h ∙ places_swapped m p d ∙ sym (in_turn_at_once m p ys (valid_swapped m d v) (apart_swapped m d h))

module _ (m s : ℕ) where
  -- an accepted paint puts its entry in force
  one_longer : (b : Buffers) (p : Picture) (x : BlockPaint) → records_on b ≡ list_of_picture m p → answer m s b (as_call x) ≡ 0
      → (after m s b (as_call x)).in_force ≡ b.in_force + length (entry_of m p x.key x.feature)
  unfolding logged_by gained
  one_longer b p x e accepted =
      ap (λ b'. b'.in_force) (paint_done m s b (of_block x.key x.feature) accepted)
      ∙ ap (λ l. b.in_force + length l)
      (ap (λ l. gained m l x.key x.feature) e ∙ gained_entry m x.key x.feature p (accepted_valid m s b x accepted))

  -- a run puts its entries in force
  pub run_longer : (b : Buffers) (p : Picture) (xs : List BlockPaint) → records_on b ≡ list_of_picture m p → in_full m s b xs ≡ true
      → (after_paints m s b xs).in_force ≡ b.in_force + places_in_turn m p xs
  unfolding as_calls after_calls places_in_turn
  run_longer b p [] e h = omega arith
  run_longer b p (x ∷ xs) e h =
      let accepted = first_accepted m s b x xs h in
      let next = run_longer (after m s b (as_call x)) (paint_in m x.key x.feature p) xs (paint_shows m s b p x e accepted).list (rest_in_full m s b x xs h) in
      let one = one_longer b p x e accepted in
      omega arith

  -- any rearrangement of paints, every pair apart, leaves as many places in force, where both orders are accepted in full
  pub either_log-length : (b : Buffers) (xs ys : List BlockPaint) → Rearranged xs ys → all_apart m xs ≡ true → in_full m s b xs ≡ true → in_full m s b ys ≡ true
      → (after_paints m s b xs).in_force ≡ (after_paints m s b ys).in_force
  either_log-length b [] [] r h i j = refl
  either_log-length b [] (y ∷ ys) r h i j = absurd (not_none y ys r)
  either_log-length b (x ∷ xs) [] r h i j = absurd (not_none x xs (λ z. sym (r z)))
  either_log-length b (x ∷ xs) (y ∷ ys) r h i j =
      let p : Picture = picture_in m b in
      let e = accepted_list m s b x (first_accepted m s b x xs i) in
      run_longer b p (x ∷ xs) e i
      ∙ ap (λ n. b.in_force + n) (places_either m p (x ∷ xs) (y ∷ ys) r (in_full_valid m s b (x ∷ xs) i) h)
      ∙ sym (run_longer b p (y ∷ ys) e j)
