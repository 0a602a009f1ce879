-- Select gives at most as many keys as the window has pixels, since each block that it gives has a pixel of the window to itself. Rests on the laws of
-- select.
use Prim.Native.Nat.{ℕ, zero, suc, ◌+◌, ◌*◌, ◌-◌, ◌^◌, ◌≤◌, ◌<◌, min}
use mathlib.Core.Path.{◌≡◌, ap, ap₂}
use mathlib.Core.Bool.{true}
use mathlib.Core.List.{List, ◌++◌}
use native.Mathlib.Nat.{pow-suc, mul-add, add-mul, mul-le-mul}
use native.Mathlib.Omega.{arith}
use lib.ListN.{length, length-append}
use Rattle.keys.specs.Key.{child_key, root_key}
use Rattle.keys.proofs.Cases.{decide}
use Rattle.keys.proofs.Powers.{two_pos}
use Rattle.definitions.specs.Picture.{Picture}
use Rattle.definitions.specs.Window.{is_given, select_from, select_in}
use Rattle.definitions.specs.declared.Window.{Window}
use Rattle.laws.proofs.WindowScan.{inside_window}
use Rattle.laws.proofs.SelectMeans.{given_inside, select_given, select_pixel, select_quadrants}

-- how many numbers of the run of a size from a on are below x
unfoldable below : ℕ → ℕ → ℕ → ℕ
below a size x = min (x - a) size

below_rises : (a size x y : ℕ) → x ≤ y → below a size x ≤ below a size y
unfolding below
below_rises a size x y h = omega arith

-- how many it has in common with the run of a side from r on
unfoldable common : ℕ → ℕ → ℕ → ℕ → ℕ
common a size r side = below a size (r + side) - below a size r

common_halves : (a size r k : ℕ) → common a size r (2 ^ k) + common a size (r + 2 ^ k) (2 ^ k) ≡ common a size r (2 ^ suc k)
unfolding common
common_halves a size r k =
    let twice = pow-suc 2 k in
    let end : below a size (r + 2 ^ k + 2 ^ k) ≡ below a size (r + 2 ^ suc k) = ap (below a size) (omega arith) in
    let one = below_rises a size r (r + 2 ^ k) (omega arith) in
    let two = below_rises a size (r + 2 ^ k) (r + 2 ^ k + 2 ^ k) (omega arith) in
    omega arith

common_some : (a size r side : ℕ) → a ≤ r → r < a + size → 0 < side → 1 ≤ common a size r side
unfolding common below
common_some a size r side low high some = omega arith

common_most : (a size r side : ℕ) → common a size r side ≤ size
unfolding common below
common_most a size r side = omega arith

-- the parts of a product of two sums
four_parts : (a b c d : ℕ) → a * c + (a * d + (b * c + b * d)) ≡ (a + b) * (c + d)
four_parts a b c d = let x = add-mul a b (c + d) in let y = mul-add a c d in let z = mul-add b c d in omega arith

four_lengths : (a b c d : List ℕ) → length (a ++ (b ++ (c ++ d))) ≡ length a + (length b + (length c + length d))
four_lengths a b c d = simp length-append

module _ (p : Picture) (w : Window) (f : ℕ) where
  -- the rows and the columns of a block that are the window's
  abbrev rows : ℕ → ℕ → ℕ
  rows k r = common w.row w.height r (2 ^ k)

  abbrev columns : ℕ → ℕ → ℕ
  columns k c = common w.column w.width c (2 ^ k)

  given_few : (k r c κ : ℕ) → is_given p w f k r c ≡ true → length (select_from p w f k r c κ) ≤ rows k r * columns k c
  given_few k r c κ e =
      let some = two_pos k in
      let i = inside_window w r c (given_inside p w f k r c {row = r} {column = c} e (omega arith)) in
      let high = common_some w.row w.height r (2 ^ k) i.from_row i.to_row some in
      let wide = common_some w.column w.width c (2 ^ k) i.from_column i.to_column some in
      rw (select_given p w f k r c κ e) (mul-le-mul high wide)

  select_from_few : (k r c κ : ℕ) → length (select_from p w f k r c κ) ≤ rows k r * columns k c
  select_from_few zero r c κ =
      decide (is_given p w f 0 r c) (given_few 0 r c κ) (λ e. rw (select_pixel p w f r c κ e) (omega arith))
  select_from_few (suc k) r c κ =
      decide (is_given p w f (suc k) r c) (given_few (suc k) r c κ)
      (λ e.
      let one = select_from_few k r c (child_key κ k 1) in
      let two = select_from_few k r (c + 2 ^ k) (child_key κ k 2) in
      let three = select_from_few k (r + 2 ^ k) c (child_key κ k 3) in
      let four = select_from_few k (r + 2 ^ k) (c + 2 ^ k) (child_key κ k 4) in
      let all = four_parts (rows k r) (rows k (r + 2 ^ k)) (columns k c) (columns k (c + 2 ^ k)) in
      let halves = ap₂ (λ a b. a * b) (common_halves w.row w.height r k) (common_halves w.column w.width c k) in
      rw (select_quadrants p w f k r c κ e, four_lengths) (omega arith))

  -- select gives no more keys than the window has pixels
  pub select_few : (m : ℕ) → length (select_in m p w f) ≤ w.height * w.width
  unfolding select_in
  select_few m =
      let few = select_from_few m 0 0 root_key in
      let high = common_most w.row w.height 0 (2 ^ m) in
      let wide = common_most w.column w.width 0 (2 ^ m) in
      let most = mul-le-mul high wide in
      omega arith
