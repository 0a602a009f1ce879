-- The areas of all features below s add up: in a window to height * width, over the whole raster to T * T. They are counted from the pixels and not
-- from stored sums. Rests on RasterOf and WindowScan.
use Prim.Native.Nat.{ℕ, zero, suc, ◌+◌, ◌*◌, ◌^◌, ◌≤◌, ◌<◌}
use mathlib.Core.Path.{◌≡◌, refl, sym, ◌∙◌, ap₂}
use mathlib.Core.Bool.{true, cond}
use mathlib.Core.List.{List, [], ◌∷◌, Memᴰ}
use native.Mathlib.Omega.{arith}
use lib.ListN.{length}
use lib.Dec.{eqb}
use borrow.Author.Tests.{eq-eqb, ne_eqb}
use Rattle.keys.proofs.Cases.{equal}
use Rattle.keys.specs.Under.{Every}
use Rattle.definitions.specs.Picture.{Picture}
use Rattle.definitions.specs.Window.{in_window, features_of_rows, features_in}
use Rattle.definitions.specs.Area.{count_of, area_in, pixels_with, sum_below}
use Rattle.definitions.specs.declared.Window.{Window}
use Rattle.laws.proofs.RasterOf.{rows-length}
use Rattle.laws.proofs.WindowScan.{inside_window, scanned_pixel}

nothing_below : (s : ℕ) → sum_below (λ f. count_of f []) s ≡ 0
unfolding sum_below count_of
nothing_below zero = refl
nothing_below (suc s) = let e = nothing_below s in omega arith

pub same_below : (g h : ℕ → ℕ) (s : ℕ) → ((f : ℕ) → g f ≡ h f) → sum_below g s ≡ sum_below h s
unfolding sum_below
same_below g h zero e = refl
same_below g h (suc s) e = ap₂ (λ x y. x + y) (same_below g h s e) (e s)

pub add-below : (g h : ℕ → ℕ) (s : ℕ) → sum_below (λ f. g f + h f) s ≡ sum_below g s + sum_below h s
unfolding sum_below
add-below g h zero = refl
add-below g h (suc s) = let e = add-below g h s in omega arith

-- a feature is none of the features up to it
not_below : (x s : ℕ) → s ≤ x → sum_below (λ f. cond (eqb x f) 1 0) s ≡ 0
unfolding sum_below
not_below x zero h = refl
not_below x (suc s) h = let e = not_below x s (omega arith) in rw (ne_eqb x s (λ q. omega arith)) (omega arith)

-- and one of the features below s that are more than it
once_below : (x s : ℕ) → x < s → sum_below (λ f. cond (eqb x f) 1 0) s ≡ 1
unfolding sum_below
once_below x zero h = absurd (omega arith)
once_below x (suc s) h =
    equal x s
    (λ e. let z = not_below x s (omega arith) in rw (eq-eqb x s e) (omega arith))
    (λ d. let z = once_below x s (omega arith) in rw (ne_eqb x s d) (omega arith))

first_counted : (s x : ℕ) (xs : List ℕ) → sum_below (λ f. count_of f (x ∷ xs)) s ≡ sum_below (λ f. cond (eqb x f) 1 0) s + sum_below (λ f. count_of f xs) s
unfolding count_of
first_counted s x xs = add-below (λ f. cond (eqb x f) 1 0) (λ f. count_of f xs) s

-- the counts of all features below s add up to the pixels
pub counts_add_up : (s : ℕ) (xs : List ℕ) → ((x : ℕ) → Memᴰ x xs → x < s) → sum_below (λ f. count_of f xs) s ≡ length xs
counts_add_up s [] h = nothing_below s
counts_add_up s (x ∷ xs) h =
    first_counted s x xs
    ∙ ap₂ (λ a b. a + b) (once_below x s (h x (Memᴰ.head refl))) (counts_add_up s xs (λ y i. h y (Memᴰ.tail i)))
    ∙ omega arith

-- the areas of all features in a window add up to its pixels
pub areas_add_up : (p : Picture) (w : Window) (s : ℕ) → ((r c : ℕ) → in_window w r c ≡ true → p r c < s) → sum_below (area_in p w) s ≡ w.height * w.width
unfolding area_in features_in
areas_add_up p w s h =
    counts_add_up s (features_of_rows p w.row w.column w.width w.height)
    (λ x i. let q = scanned_pixel p w i in let j = h q.row q.column q.inside in let e = q.feature in omega arith)
    ∙ rows-length p w.row w.column w.width w.height

-- the window that is a block
abbrev pub square_of : ℕ → ℕ → ℕ → Window
square_of k r c = record { row = r; column = c; height = 2 ^ k; width = 2 ^ k }

-- the areas of all features in a block add up to its pixels; in the block of height m at 0, 0, which is the whole raster, to T * T
pub square_adds_up : (k r c : ℕ) (p : Picture) (s : ℕ) → Every (λ a b. p a b < s) k r c → sum_below (area_in p (square_of k r c)) s ≡ 2 ^ k * 2 ^ k
square_adds_up k r c p s h =
    areas_add_up p (square_of k r c) s
    (λ a b e. let i = inside_window (square_of k r c) a b e in h a b (omega (arith, i.from_row, i.to_row, i.from_column, i.to_column)))

-- the area of a block is its count
pub square_area : (p : Picture) (k r c f : ℕ) → area_in p (square_of k r c) f ≡ pixels_with p k r c f
unfolding area_in features_in pixels_with
square_area p k r c f = refl

-- so the counts of a block add up too
pub pixels_add_up : (k r c : ℕ) (p : Picture) (s : ℕ) → Every (λ a b. p a b < s) k r c → sum_below (pixels_with p k r c) s ≡ 2 ^ k * 2 ^ k
pixels_add_up k r c p s h = same_below _ _ s (λ f. sym (square_area p k r c f)) ∙ square_adds_up k r c p s h
