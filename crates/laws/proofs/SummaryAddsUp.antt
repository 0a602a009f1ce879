-- All numbers of a summary add up to T * T, since those of the blocks below a block are its own counts. Rests on AreasAddUp and SummaryOf.
use Prim.Native.Nat.{ℕ, zero, suc, ◌+◌, ◌*◌, ◌^◌, ◌<◌}
use mathlib.Core.Path.{◌≡◌, refl, sym, ◌∙◌, ap}
use mathlib.Core.List.{List, [], ◌∷◌, ◌++◌}
use native.Mathlib.Nat.{add-zero, zero-add, add-suc, suc-add}
use native.Mathlib.Omega.{arith}
use Rattle.keys.specs.Under.{Every}
use Rattle.definitions.specs.Picture.{Picture}
use Rattle.definitions.specs.Area.{pixels_with, counts_from, summary_below, summary_of, summary_level, summary_height, sum_below}
use Rattle.laws.proofs.PixelSums.{sum_same_four}
use Rattle.laws.proofs.CountOf.{pixels_quadrants}
use Rattle.laws.proofs.AreasAddUp.{same_below, add-below, pixels_add_up}
use Rattle.laws.proofs.SummaryOf.{summary_zero, summary_suc}

unfoldable pub total : List ℕ → ℕ
total [] = 0
total (x ∷ xs) = x + total xs

total-append : (xs ys : List ℕ) → total (xs ++ ys) ≡ total xs + total ys
unfolding total
total-append [] ys = sym (zero-add _)
total-append (x ∷ xs) ys = let e = total-append xs ys in omega arith

-- the counts from feature f on, and those below it
counts-from : (p : Picture) (k r c f more : ℕ) → total (counts_from p k r c f more) + sum_below (pixels_with p k r c) f ≡ sum_below (pixels_with p k r c) (f + more)
unfolding total counts_from sum_below
counts-from p k r c f zero = zero-add _ ∙ ap (sum_below (pixels_with p k r c)) (sym (add-zero f))
counts-from p k r c f (suc more) =
    let e = counts-from p k r c (suc f) more in
    let g = ap (sum_below (pixels_with p k r c)) (suc-add f more ∙ sym (add-suc f more)) in
    omega arith

none_below : (g : ℕ → ℕ) → sum_below g 0 ≡ 0
unfolding sum_below
none_below g = refl

-- a block's counts add up to the sum over the features
counts_total : (p : Picture) (k r c s : ℕ) → total (counts_from p k r c 0 s) ≡ sum_below (pixels_with p k r c) s
counts_total p k r c s =
    let e = counts-from p k r c 0 s in
    let g = ap (sum_below (pixels_with p k r c)) (zero-add s) in
    let z = none_below (pixels_with p k r c) in
    omega arith

four_totals : (a b c d : List ℕ) → total (a ++ (b ++ (c ++ d))) ≡ total a + total b + (total c + total d)
four_totals a b c d =
    let x = total-append a (b ++ (c ++ d)) in
    let y = total-append b (c ++ d) in
    let z = total-append c d in
    omega arith

four_below : (a b c d : ℕ → ℕ) (s : ℕ) → sum_below (λ f. a f + b f + (c f + d f)) s ≡ sum_below a s + sum_below b s + (sum_below c s + sum_below d s)
four_below a b c d s =
    let x = add-below (λ f. a f + b f) (λ f. c f + d f) s in
    let y = add-below a b s in
    let z = add-below c d s in
    omega arith

-- the numbers of the blocks below a block add up to its own
below_total : (s : ℕ) (p : Picture) (k d r c : ℕ) → total (summary_below s p k d r c) ≡ sum_below (pixels_with p (k + d) r c) s
below_total s p k zero r c = ap total (summary_zero s p k r c) ∙ counts_total p k r c s ∙ ap (λ h. sum_below (pixels_with p h r c) s) (sym (add-zero k))
below_total s p k (suc d) r c =
    let e = 2 ^ (k + d) in
    ap total (summary_suc s p k d r c)
    ∙ four_totals (summary_below s p k d r c) (summary_below s p k d r (c + e)) (summary_below s p k d (r + e) c) (summary_below s p k d (r + e) (c + e))
    ∙ sum_same_four (below_total s p k d r c) (below_total s p k d r (c + e)) (below_total s p k d (r + e) c) (below_total s p k d (r + e) (c + e))
    ∙ sym (four_below (pixels_with p (k + d) r c) (pixels_with p (k + d) r (c + e)) (pixels_with p (k + d) (r + e) c) (pixels_with p (k + d) (r + e) (c + e)) s)
    ∙ same_below _ _ s (λ f. sym (pixels_quadrants p f (k + d) r c))
    ∙ ap (λ h. sum_below (pixels_with p h r c) s) (sym (add-suc k d))

-- all numbers of the summary add up to T * T
pub summary_adds_up : (m s : ℕ) (p : Picture) → Every (λ r c. p r c < s) m 0 0 → total (summary_of m s p) ≡ 2 ^ m * 2 ^ m
unfolding summary_of
summary_adds_up m s p h =
    let e : summary_height m + summary_level m ≡ m = omega arith in
    below_total s p (summary_height m) (summary_level m) 0 0
    ∙ ap (λ k. sum_below (pixels_with p k 0 0) s) e
    ∙ pixels_add_up m 0 0 p s h
