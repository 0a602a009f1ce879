-- The largest blocks of a window are those that lie wholly in the window and whose parent does not (or that are the root), each once, ascending; and their
-- pixels are the window's pixels, each once. Rests on Largest and the laws of select.
use Prim.Native.Nat.{ℕ, ◌+◌, ◌^◌, ◌<◌}
use mathlib.Core.Path.{◌≡◌, refl}
use mathlib.Core.Bool.{true}
use mathlib.Core.Logic.{◌↔◌}
use mathlib.Core.List.{Memᴰ}
use native.Mathlib.Omega.{arith}
use Rattle.keys.specs.Under.{InSquare}
use Rattle.definitions.specs.Window.{in_window}
use Rattle.definitions.specs.declared.Window.{Window}
use Rattle.laws.proofs.AscendingKeys.{AscendingKeys}
use Rattle.laws.proofs.SelectMeans.{Selected, select_in_exactly}
use Rattle.laws.proofs.SelectAscends.{select_in_ascends}
use Rattle.walk.proofs.Once.{Covered, covered_once, covered_exactly}
use Rattle.walk.proofs.Largest.{blank_picture, blank_blocks}

-- the largest blocks are exactly the blocks whose pixels all lie in the window and that are the root or have a parent of which this is not so
pub largest_exactly : (m : ℕ) (w : Window) {x : ℕ} → Memᴰ x (blank_blocks m w) ↔ Selected blank_picture w 0 m 0 0 0 x
unfolding blank_blocks
largest_exactly m w = select_in_exactly blank_picture w 0 m

-- they ascend
pub largest_ascend : (m : ℕ) (w : Window) → AscendingKeys 0 (0 + 5 ^ m) (blank_blocks m w)
unfolding blank_blocks
largest_ascend m w = select_in_ascends m blank_picture w 0

-- a pixel of the map lies in one of them exactly when it lies in the window
pub largest_cover : (m : ℕ) (w : Window) {row column : ℕ} → row < 2 ^ m → column < 2 ^ m → Covered blank_picture w 0 m 0 0 0 row column ↔ (in_window w row column ≡ true)
largest_cover m w {row} {column} low narrow =
    let i : InSquare m 0 0 row column = omega arith in
    let both = covered_exactly blank_picture w 0 i in
    ((λ x. (both.0 x).0), (λ h. both.1 (h, refl)))

-- and in no second one
pub largest_once : (m : ℕ) (w : Window) {row column x y : ℕ}
    → (s : Selected blank_picture w 0 m 0 0 0 x)
    → (t : Selected blank_picture w 0 m 0 0 0 y)
    → InSquare s.height s.row s.column row column
    → InSquare t.height t.row t.column row column
    → x ≡ y
largest_once m w s t i j = covered_once blank_picture w 0 s t i j
