-- The largest blocks of a window (specification S6.12): they are what select gives of a picture of one feature, and they are blocks of the map that stand in
-- key order, apart from each other. Rests on BlocksFrom.
use Prim.Native.Nat.{ℕ, suc, ◌+◌, ◌^◌}
use mathlib.Core.Path.{◌≡◌, refl, sym, ap, ◌∙◌}
use mathlib.Core.Bool.{Bool, true, false, ◌&&◌}
use mathlib.Core.List.{[], ◌∷◌, ◌++◌, Memᴰ}
use borrow.Author.Tests.{eq-eqb}
use Rattle.keys.specs.Key.{root_key, child_key, valid_key}
use Rattle.keys.specs.Under.{here}
use Rattle.definitions.specs.Window.{in_window, has_in, select_in, is_inside, largest_from, largest_blocks}
use Rattle.definitions.specs.declared.Window.{Window}
use Rattle.laws.proofs.BlocksFrom.{BlocksInOrder, order_valid, blocks_one, blocks_none, blocks_part, blocks_order, blocks_same}

and-true : (a : Bool) → a && true ≡ a
and-true true = refl
and-true false = refl

-- they are what select gives of a picture that has the feature everywhere
pub largest_select : (m : ℕ) (w : Window) (f : ℕ) → largest_blocks m w ≡ select_in m (λ row column. f) w f
unfolding largest_blocks select_in
largest_select m w f =
    blocks_same (in_window w) (has_in (λ row column. f) w f) m 0 0 root_key
    (λ row column i. sym (ap (λ b. in_window w row column && b) (eq-eqb f f refl) ∙ and-true (in_window w row column)))

-- a block that lies in the window is its only largest block
pub covered_one : (w : Window) (k r c κ : ℕ) → is_inside w k r c ≡ true → largest_from w k r c κ ≡ κ ∷ []
unfolding is_inside
covered_one w k r c κ e = blocks_one (in_window w) k r c κ e

-- a pixel that does not has none
pub covered_none : (w : Window) (r c κ : ℕ) → is_inside w 0 r c ≡ false → largest_from w 0 r c κ ≡ []
unfolding is_inside
covered_none w r c κ e = blocks_none (in_window w) r c κ e

-- a larger block that does not has those of its quadrants
pub covered_part : (w : Window) (k r c κ : ℕ) → is_inside w (suc k) r c ≡ false
    → largest_from w (suc k) r c κ
    ≡ largest_from w k r c (child_key κ k 1)
    ++ (largest_from w k r (c + 2 ^ k) (child_key κ k 2)
    ++ (largest_from w k (r + 2 ^ k) c (child_key κ k 3) ++ largest_from w k (r + 2 ^ k) (c + 2 ^ k) (child_key κ k 4)))
unfolding is_inside
covered_part w k r c κ e = blocks_part (in_window w) k r c κ e

-- the largest blocks of a window are blocks of the map, in key order and apart
pub largest_in_order : (m : ℕ) (w : Window) → BlocksInOrder m 0 (0 + 5 ^ m) (largest_blocks m w)
unfolding largest_blocks
largest_in_order m w = blocks_order (in_window w) m here

-- their keys are valid
pub largest_valid : (m : ℕ) (w : Window) {x : ℕ} → Memᴰ x (largest_blocks m w) → valid_key m x ≡ true
largest_valid m w i = order_valid (largest_in_order m w) i
