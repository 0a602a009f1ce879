-- Sums over the pixels of a block that lies in a larger one: the larger block's sum is the smaller one's where nothing is added outside that. A sum of
-- sums is the sum of both, and a sum of ones and zeros is at most the pixels. Rests on the sums by quadrants.
use Prim.Native.Nat.{ℕ, zero, suc, ◌+◌, ◌^◌, ◌≤◌}
use mathlib.Core.Path.{◌≡◌, refl, ◌∙◌}
use native.Mathlib.Nat.{pow-suc}
use native.Mathlib.Omega.{arith}
use Rattle.keys.specs.Under.{Under, here, nw, ne, sw, se, InSquare, Every}
use Rattle.keys.proofs.Interval.{within}
use Rattle.laws.proofs.Within.{every_nw, every_ne, every_sw, every_se}
use Rattle.laws.proofs.PixelSums.{sum_pixels, sum_zero, sum_suc, sum_constant}

-- what adds nothing at any pixel adds nothing
pub sum_nothing : (g : ℕ → ℕ → ℕ) (k r c : ℕ) → Every (λ a b. g a b ≡ 0) k r c → sum_pixels g k r c ≡ 0
sum_nothing g k r c e = sum_constant g 0 k r c e ∙ omega arith

-- two sums over one block
pub sum_both : (g h : ℕ → ℕ → ℕ) (k r c : ℕ) → sum_pixels (λ a b. g a b + h a b) k r c ≡ sum_pixels g k r c + sum_pixels h k r c
sum_both g h zero r c =
    let x = sum_zero (λ a b. g a b + h a b) r c in
    let y = sum_zero g r c in
    let z = sum_zero h r c in
    omega arith
sum_both g h (suc k) r c =
    let x = sum_suc (λ a b. g a b + h a b) k r c in
    let y = sum_suc g k r c in
    let z = sum_suc h k r c in
    let nw = sum_both g h k r c in
    let ne = sum_both g h k r (c + 2 ^ k) in
    let sw = sum_both g h k (r + 2 ^ k) c in
    let se = sum_both g h k (r + 2 ^ k) (c + 2 ^ k) in
    omega arith

-- at most 1 at each pixel
pub sum_most : (g : ℕ → ℕ → ℕ) (k r c : ℕ) → ((a b : ℕ) → g a b ≤ 1) → sum_pixels g k r c ≤ 4 ^ k
sum_most g zero r c h = let x = sum_zero g r c in let y = h r c in omega arith
sum_most g (suc k) r c h =
    let x = sum_suc g k r c in
    let e = pow-suc 4 k in
    let nw = sum_most g k r c h in
    let ne = sum_most g k r (c + 2 ^ k) h in
    let sw = sum_most g k (r + 2 ^ k) c h in
    let se = sum_most g k (r + 2 ^ k) (c + 2 ^ k) h in
    omega arith

-- of the pixels of a block (k r c), nothing is added outside another
abbrev pub Only : (ℕ → ℕ → ℕ) → (k r c k' r' c' : ℕ) → Type 0
Only g k r c k' r' c' = Every (λ a b. (InSquare k' r' c' a b → ⊥) → g a b ≡ 0) k r c

-- so where the other lies under it, the sum is the other's
pub sum_under : (g : ℕ → ℕ → ℕ) {k r c κ k' r' c' κ' : ℕ} → Under k r c κ k' r' c' κ' → Only g k r c k' r' c' → sum_pixels g k r c ≡ sum_pixels g k' r' c'
sum_under g here only = refl
sum_under g (nw {k} {r} {c} u) only =
    let v = within u in
    let x = sum_suc g k r c in
    let mine = sum_under g u (every_nw only) in
    let east = sum_nothing g k r (c + 2 ^ k) (λ a b i. every_ne only a b i (λ j. omega arith)) in
    let south = sum_nothing g k (r + 2 ^ k) c (λ a b i. every_sw only a b i (λ j. omega arith)) in
    let far = sum_nothing g k (r + 2 ^ k) (c + 2 ^ k) (λ a b i. every_se only a b i (λ j. omega arith)) in
    omega arith
sum_under g (ne {k} {r} {c} u) only =
    let v = within u in
    let x = sum_suc g k r c in
    let mine = sum_under g u (every_ne only) in
    let west = sum_nothing g k r c (λ a b i. every_nw only a b i (λ j. omega arith)) in
    let far = sum_nothing g k (r + 2 ^ k) c (λ a b i. every_sw only a b i (λ j. omega arith)) in
    let south = sum_nothing g k (r + 2 ^ k) (c + 2 ^ k) (λ a b i. every_se only a b i (λ j. omega arith)) in
    omega arith
sum_under g (sw {k} {r} {c} u) only =
    let v = within u in
    let x = sum_suc g k r c in
    let mine = sum_under g u (every_sw only) in
    let north = sum_nothing g k r c (λ a b i. every_nw only a b i (λ j. omega arith)) in
    let far = sum_nothing g k r (c + 2 ^ k) (λ a b i. every_ne only a b i (λ j. omega arith)) in
    let east = sum_nothing g k (r + 2 ^ k) (c + 2 ^ k) (λ a b i. every_se only a b i (λ j. omega arith)) in
    omega arith
sum_under g (se {k} {r} {c} u) only =
    let v = within u in
    let x = sum_suc g k r c in
    let mine = sum_under g u (every_se only) in
    let far = sum_nothing g k r c (λ a b i. every_nw only a b i (λ j. omega arith)) in
    let north = sum_nothing g k r (c + 2 ^ k) (λ a b i. every_ne only a b i (λ j. omega arith)) in
    let west = sum_nothing g k (r + 2 ^ k) c (λ a b i. every_sw only a b i (λ j. omega arith)) in
    omega arith
