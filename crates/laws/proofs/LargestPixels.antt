-- The largest blocks of which every pixel passes a test have together exactly the pixels that pass. So those of a window have its pixels, and a window of the
-- raster has one at least (specification S6.12). Rests on BlocksFrom.
use Prim.Native.Nat.{ℕ, zero, suc, ◌+◌, ◌^◌, ◌≤◌, ◌<◌}
use mathlib.Core.Path.{◌≡◌, refl, sym, ap, ap₂, ◌∙◌}
use mathlib.Core.Logic.{⊎_elim}
use mathlib.Core.Bool.{Bool, true, false, ◌&&◌, ◌||◌, true≢false}
use mathlib.Core.List.{List, [], ◌∷◌, ◌++◌}
use native.Mathlib.Omega.{arith}
use lib.ListN.{length}
use lib.Dec.{leb}
use borrow.Author.Tests.{leb-true}
use Rattle.keys.specs.Key.{root_key, child_key}
use Rattle.keys.specs.Block.{in_block, pixel_key}
use Rattle.keys.proofs.Cases.{decide, and_left, and_right, or_either, or_left, or_right, same_test}
use Rattle.keys.specs.Under.{here, nw, ne, sw, se, MapBlock, InSquare}
use Rattle.keys.proofs.Under.{under_trans}
use Rattle.keys.proofs.Pixel.{inside}
use Rattle.keys.proofs.InBlock.{in_block_iff}
use Rattle.definitions.specs.Picture.{every_pixel}
use Rattle.definitions.specs.Window.{is_window, in_window, blocks_from, largest_blocks}
use Rattle.definitions.specs.Covered.{in_some}
use Rattle.definitions.specs.declared.Window.{Window}
use Rattle.laws.proofs.Within.{within-cases, pixel_row, pixel_column}
use Rattle.laws.proofs.Pixels.{every_to, every_from}
use Rattle.laws.proofs.WindowScan.{window_inside}
use Rattle.laws.proofs.BlocksFrom.{BlocksInOrder, no_block, block, blocks_one, blocks_none, blocks_part}

some_none : (m row column : ℕ) → in_some m [] row column ≡ false
unfolding in_some
some_none m row column = refl

some-append : (m : ℕ) (a b : List ℕ) (row column : ℕ) → in_some m (a ++ b) row column ≡ in_some m a row column || in_some m b row column
unfolding in_some
some-append m [] b row column = refl
some-append m (κ ∷ a) b row column = ap (λ t. in_block m κ row column || t) (some-append m a b row column) ∙ or_assoc (in_block m κ row column) _ _
  where
    or_assoc : (x y z : Bool) → x || (y || z) ≡ (x || y) || z
    or_assoc true y z = refl
    or_assoc false y z = refl

some_left : (m : ℕ) (a b : List ℕ) (row column : ℕ) → in_some m a row column ≡ true → in_some m (a ++ b) row column ≡ true
some_left m a b row column h = some-append m a b row column ∙ or_left (in_some m a row column) (in_some m b row column) h

some_right : (m : ℕ) (a b : List ℕ) (row column : ℕ) → in_some m b row column ≡ true → in_some m (a ++ b) row column ≡ true
some_right m a b row column h = some-append m a b row column ∙ or_right (in_some m a row column) (in_some m b row column) h

some-either {ℓ} : {C : Type ℓ} (m : ℕ) (a b : List ℕ) (row column : ℕ) → (in_some m a row column ≡ true → C) → (in_some m b row column ≡ true → C)
    → in_some m (a ++ b) row column ≡ true → C
some-either m a b row column in-a in_b h = ⊎_elim in-a in_b (or_either (in_some m a row column) (in_some m b row column) (sym (some-append m a b row column) ∙ h))

some-of-four {ℓ} : {C : Type ℓ} (m : ℕ) (a b c d : List ℕ) (row column : ℕ)
    → (in_some m a row column ≡ true → C) → (in_some m b row column ≡ true → C) → (in_some m c row column ≡ true → C) → (in_some m d row column ≡ true → C)
    → in_some m (a ++ (b ++ (c ++ d))) row column ≡ true → C
some-of-four m a b c d row column in-a in_b in_c in-d =
    some-either m a (b ++ (c ++ d)) row column in-a (some-either m b (c ++ d) row column in_b (some-either m c d row column in_c in-d))

-- one block alone: a pixel of it lies there
itself : {m k r c κ : ℕ} → MapBlock m k r c κ → (row column : ℕ) → InSquare k r c row column → in_some m (κ ∷ []) row column ≡ true
unfolding in_some
itself {m} {κ = κ} b row column i = or_left (in_block m κ row column) false ((in_block_iff row column b).1 i)

or_false : (a : Bool) → a || false ≡ a
or_false true = refl
or_false false = refl

module _ (m : ℕ) (test : ℕ → ℕ → Bool) where
  all_pass : {k r c κ : ℕ} → MapBlock m k r c κ → (row column : ℕ) → every_pixel test k r c ≡ true → in_some m (κ ∷ []) row column ≡ true
      → test row column ≡ true
  unfolding in_some
  all_pass {k} {r} {c} {κ} b row column e h =
      every_to test k r c e row column ((in_block_iff row column b).0 (sym (or_false (in_block m κ row column)) ∙ h))

  pixel_passes : (r c : ℕ) → test r c ≡ true → every_pixel test 0 r c ≡ true
  pixel_passes r c h = every_from test 0 r c (λ row column i. ap₂ test (pixel_row i) (pixel_column i) ∙ h)

  -- a pixel of one of the blocks passes
  all_inside : (k : ℕ) {r c κ : ℕ} → MapBlock m k r c κ → (row column : ℕ) → in_some m (blocks_from test k r c κ) row column ≡ true → test row column ≡ true
  all_inside zero {r} {c} {κ} b row column h =
      decide (every_pixel test 0 r c)
      (λ e. all_pass b row column e (rw (blocks_one test 0 r c κ e) at h))
      (λ e. absurd (true≢false (sym (rw (blocks_none test r c κ e) at h) ∙ some_none m row column)))
  all_inside (suc k) {r} {c} {κ} b row column h =
      decide (every_pixel test (suc k) r c)
      (λ e. all_pass b row column e (rw (blocks_one test (suc k) r c κ e) at h))
      (λ e. some-of-four m (blocks_from test k r c (child_key κ k 1)) (blocks_from test k r (c + 2 ^ k) (child_key κ k 2))
      (blocks_from test k (r + 2 ^ k) c (child_key κ k 3)) (blocks_from test k (r + 2 ^ k) (c + 2 ^ k) (child_key κ k 4)) row column
      (all_inside k (under_trans b (nw here)) row column)
      (all_inside k (under_trans b (ne here)) row column)
      (all_inside k (under_trans b (sw here)) row column)
      (all_inside k (under_trans b (se here)) row column)
      (rw (blocks_part test k r c κ e) at h))

  -- a pixel of a block of the map that passes lies in one of the blocks under it
  all_covered : (k : ℕ) {r c κ : ℕ} → MapBlock m k r c κ → (row column : ℕ) → InSquare k r c row column → test row column ≡ true
      → in_some m (blocks_from test k r c κ) row column ≡ true
  all_covered zero {r} {c} {κ} b row column i h =
      decide (every_pixel test 0 r c)
      (λ e. rw (blocks_one test 0 r c κ e) (itself b row column i))
      (λ e. absurd (true≢false (sym (pixel_passes r c (ap₂ test (sym (pixel_row i)) (sym (pixel_column i)) ∙ h)) ∙ e)))
  all_covered (suc k) {r} {c} {κ} b row column i h =
      let a : List ℕ = blocks_from test k r c (child_key κ k 1) in
      let d : List ℕ = blocks_from test k r (c + 2 ^ k) (child_key κ k 2) in
      let g : List ℕ = blocks_from test k (r + 2 ^ k) c (child_key κ k 3) in
      let j : List ℕ = blocks_from test k (r + 2 ^ k) (c + 2 ^ k) (child_key κ k 4) in
      decide (every_pixel test (suc k) r c)
      (λ e. rw (blocks_one test (suc k) r c κ e) (itself b row column i))
      (λ e. rw (blocks_part test k r c κ e)
      (within-cases i
      (λ q. some_left m a (d ++ (g ++ j)) row column (all_covered k (under_trans b (nw here)) row column q h))
      (λ q. some_right m a (d ++ (g ++ j)) row column (some_left m d (g ++ j) row column (all_covered k (under_trans b (ne here)) row column q h)))
      (λ q. some_right m a (d ++ (g ++ j)) row column
      (some_right m d (g ++ j) row column (some_left m g j row column (all_covered k (under_trans b (sw here)) row column q h))))
      (λ q. some_right m a (d ++ (g ++ j)) row column
      (some_right m d (g ++ j) row column (some_right m g j row column (all_covered k (under_trans b (se here)) row column q h))))))

  -- a pixel of the raster lies in one of the blocks exactly when it passes
  pub blocks_pixels : (row column : ℕ) → row < 2 ^ m → column < 2 ^ m → in_some m (blocks_from test m 0 0 root_key) row column ≡ test row column
  blocks_pixels row column low narrow =
      same_test (in_some m (blocks_from test m 0 0 root_key) row column) (test row column)
      (all_inside m here row column)
      (all_covered m here row column (omega arith))

-- a pixel of the raster lies in one of the largest blocks exactly when it lies in the window
pub largest_pixels : (m : ℕ) (w : Window) (row column : ℕ) → row < 2 ^ m → column < 2 ^ m → in_some m (largest_blocks m w) row column ≡ in_window w row column
unfolding largest_blocks
largest_pixels m w row column low narrow = blocks_pixels m (in_window w) row column low narrow

-- a pixel of one of some blocks in order has its key at or past where they begin
some_from : {m from until : ℕ} {blocks : List ℕ} → BlocksInOrder m from until blocks → (row column : ℕ) → in_some m blocks row column ≡ true
    → from ≤ pixel_key m row column
unfolding in_some
some_from (no_block h) row column e = absurd (true≢false (sym e))
some_from {m} {blocks = κ ∷ blocks} (block {k = k} h b rest) row column e =
    ⊎_elim
    (λ (i : in_block m κ row column ≡ true). let key = inside {row = row} {column = column} b ((in_block_iff row column b).0 i) in omega arith)
    (λ (i : in_some m blocks row column ≡ true). let past = some_from rest row column i in omega arith)
    (or_either (in_block m κ row column) (in_some m blocks row column) e)

-- so a pixel lies in one of them only: no later block has a pixel of an earlier one
pub order_apart : {m from until κ : ℕ} {blocks : List ℕ} → BlocksInOrder m from until (κ ∷ blocks) → (row column : ℕ) → in_block m κ row column ≡ true
    → in_some m blocks row column ≡ false
order_apart {m} {κ = κ} {blocks = blocks} (block {k = k} h b rest) row column e =
    decide (in_some m blocks row column)
    (λ also. absurd (let key = inside {row = row} {column = column} b ((in_block_iff row column b).0 e) in let past = some_from rest row column also in omega arith))
    (λ alone. alone)

no_blocks : (m : ℕ) (blocks : List ℕ) (row column : ℕ) → in_some m blocks row column ≡ true → 0 < length blocks
unfolding in_some
no_blocks m [] row column e = absurd (true≢false (sym e))
no_blocks m (κ ∷ blocks) row column e = omega arith

-- a window of the raster has a largest block: that of its first pixel
pub largest_some : (m : ℕ) (w : Window) → is_window m w ≡ true → 0 < length (largest_blocks m w)
unfolding is_window
largest_some m w e =
    let sides : Bool = leb 1 w.height && leb 1 w.width in
    let ends : Bool = leb (w.row + w.height) (2 ^ m) && leb (w.column + w.width) (2 ^ m) in
    let both = and_left sides ends e in
    let past = and_right sides ends e in
    let high = leb-true 1 w.height (and_left (leb 1 w.height) (leb 1 w.width) both) in
    let wide = leb-true 1 w.width (and_right (leb 1 w.height) (leb 1 w.width) both) in
    let low = leb-true (w.row + w.height) (2 ^ m) (and_left (leb (w.row + w.height) (2 ^ m)) (leb (w.column + w.width) (2 ^ m)) past) in
    let narrow = leb-true (w.column + w.width) (2 ^ m) (and_right (leb (w.row + w.height) (2 ^ m)) (leb (w.column + w.width) (2 ^ m)) past) in
    no_blocks m (largest_blocks m w) w.row w.column
    (largest_pixels m w w.row w.column (omega arith) (omega arith)
    ∙ window_inside w w.row w.column (record { from_row = omega arith; to_row = omega arith; from_column = omega arith; to_column = omega arith }))
