-- Runs of places and rectangles of pixels: what the tests say, a rectangle row by row and by its quadrants, and a raster painted in a rectangle so.
-- Rests on Painted.
use Prim.Native.Nat.{ℕ, suc, ◌+◌, ◌*◌, ◌/◌, ◌%◌, ◌≤◌, ◌<◌}
use mathlib.Core.Path.{◌≡◌, refl, ◌∙◌, ap}
use mathlib.Core.Bool.{Bool, true, false, ◌||◌}
use mathlib.Core.Logic.{◌⊎◌, inl, inr}
use mathlib.Core.List.{List}
use native.Mathlib.Omega.{arith}
use native.Mathlib.Nat.{div-add-mod', mod-lt, mul-le-mul_right, suc-mul}
use lib.ListN.{length}
use lib.Dec.{leb, eqb}
use borrow.Author.Tests.{leb-true, ltb-true, le-leb, lt-ltb, eq-eqb, eqb-true}
use Rattle.keys.proofs.Cases.{decide, split, and_left, and_right, and_both, or_either, or_left, or_right, same_test}
use Rattle.definitions.specs.Picture.{Picture}
use Rattle.read.specs.Fill.{filled_by, in_run, in_rectangle, rectangle_painted}
use Rattle.read.proofs.Painted.{painted-length, painted_join, painted_same, painted_none}

pub record InRun (from until i : ℕ) : Type 0 where
  pub low : from ≤ i
  pub high : i < until

pub run_true : (from until i : ℕ) → in_run from until i ≡ true → InRun from until i
run_true from until i e = record { low = leb-true _ _ (and_left _ _ e); high = ltb-true _ _ (and_right (leb from i) _ e) }

pub true_run : (from until i : ℕ) → InRun from until i → in_run from until i ≡ true
true_run from until i h = and_both _ _ (le-leb _ _ h.low) (lt-ltb _ _ h.high)

-- a test that no fact fits fails
fails : (b : Bool) → (b ≡ true → ⊥) → b ≡ false
fails b h = decide b (λ e. absurd (h e)) (λ e. e)

either {ℓ} : {C : Type ℓ} (a b : Bool) → a || b ≡ true → (a ≡ true → C) → (b ≡ true → C) → C
either {C = C} a b e in-a in_b = go (or_either a b e)
  where
    go : (a ≡ true) ⊎ (b ≡ true) → C
    go (inl h) = in-a h
    go (inr h) = in_b h

pub run_empty : (from i : ℕ) → in_run from from i ≡ false
run_empty from i = fails _ (λ e. let h = run_true from from i e in omega arith)

-- one place more
pub run_next : (from until i : ℕ) → from ≤ until → in_run from until i || eqb i until ≡ in_run from (until + 1) i
run_next from until i h =
    same_test _ _
    (λ e. either (in_run from until i) (eqb i until) e
    (λ a. let f = run_true from until i a in true_run from (until + 1) i (omega arith))
    (λ a. let f = eqb-true i until a in true_run from (until + 1) i (omega arith)))
    (λ e.
    let f = run_true from (until + 1) i e in
    split i until (λ a. or_left _ _ (true_run from until i (omega arith))) (λ a. or_right (in_run from until i) _ (eq-eqb i until (omega arith))))

pub record InRectangle (r c height width a b : ℕ) : Type 0 where
  pub top : r ≤ a
  pub bottom : a < r + height
  pub left : c ≤ b
  pub right : b < c + width

pub rectangle_true : (r c height width a b : ℕ) → in_rectangle r c height width a b ≡ true → InRectangle r c height width a b
rectangle_true r c height width a b e =
    let rows = run_true r (r + height) a (and_left _ _ e) in
    let columns = run_true c (c + width) b (and_right (in_run r (r + height) a) _ e) in
    omega arith

pub true_rectangle : (r c height width a b : ℕ) → InRectangle r c height width a b → in_rectangle r c height width a b ≡ true
true_rectangle r c height width a b h = and_both _ _ (true_run r (r + height) a (omega arith)) (true_run c (c + width) b (omega arith))

pub rectangle_empty : (r c width a b : ℕ) → in_rectangle r c 0 width a b ≡ false
rectangle_empty r c width a b = fails _ (λ e. let h = rectangle_true r c 0 width a b e in omega arith)

-- a row before another ends before it begins
rows_apart : (wide q t : ℕ) → q < t → q * wide + wide ≤ t * wide
rows_apart wide q t h = let e = suc-mul q wide in let f = mul-le-mul_right {m = suc q} {n = t} wide h in omega arith

-- a place in a run within row t is in that row
same_row : (wide q s t c side : ℕ) → s < wide → c + side ≤ wide → t * wide + c ≤ q * wide + s → q * wide + s < t * wide + c + side → q ≡ t
same_row wide q s t c side small fits low high =
    split q t (λ a. let h = rows_apart wide q t a in absurd (omega arith))
    (λ a. split t q (λ b. let h = rows_apart wide t q b in absurd (omega arith)) (λ b. omega arith))

-- the run of row r + n in a rectangle is the rectangle's next row
module _ (wide r c side : ℕ) (pos : 0 < wide) (fits : c + side ≤ wide) (n from : ℕ) (is : from ≡ (r + n) * wide + c) (j : ℕ) where
  row_to : in_run from (from + side) j ≡ true → InRectangle r c (n + 1) side (j / wide) (j % wide)
  row_to e =
      let f = run_true from (from + side) j e in
      let d = div-add-mod' j wide in
      let s = mod-lt j pos in
      let same = same_row wide (j / wide) (j % wide) (r + n) c side s fits (omega arith) (omega arith) in
      let same' = ap (λ x. x * wide) same in
      omega arith

  row_from : InRectangle r c (n + 1) side (j / wide) (j % wide) → r + n ≤ j / wide → in_run from (from + side) j ≡ true
  row_from h last =
      let d = div-add-mod' j wide in
      let same : j / wide ≡ r + n = omega arith in
      let same' = ap (λ x. x * wide) same in
      true_run from (from + side) j (omega arith)

  pub rectangle_next : in_rectangle r c n side (j / wide) (j % wide) || in_run from (from + side) j ≡ in_rectangle r c (n + 1) side (j / wide) (j % wide)
  rectangle_next =
      same_test _ _
      (λ e. either (in_rectangle r c n side (j / wide) (j % wide)) (in_run from (from + side) j) e
      (λ a. let f = rectangle_true r c n side (j / wide) (j % wide) a in true_rectangle r c (n + 1) side (j / wide) (j % wide) (omega arith))
      (λ a. true_rectangle r c (n + 1) side (j / wide) (j % wide) (row_to a)))
      (λ e.
      let f = rectangle_true r c (n + 1) side (j / wide) (j % wide) e in
      split (j / wide) (r + n)
      (λ a. or_left _ _ (true_rectangle r c n side (j / wide) (j % wide) (omega arith)))
      (λ a. or_right (in_rectangle r c n side (j / wide) (j % wide)) _ (row_from f a)))

-- a rectangle painted with one feature: nothing at first, and row by row
pub rectangle_none : (wide : ℕ) (p : Picture) (r c side : ℕ) (x : List ℕ) → rectangle_painted wide p r c 0 side x ≡ x
unfolding rectangle_painted
rectangle_none wide p r c side x = painted_none _ _ x (λ j. rectangle_empty r c side (j / wide) (j % wide))

pub rectangle_row : (wide f r c side n from : ℕ) (x : List ℕ) → 0 < wide → c + side ≤ wide → from ≡ (r + n) * wide + c
    → filled_by (in_run from (from + side)) (λ j. f) (rectangle_painted wide (λ a b. f) r c n side x) ≡ rectangle_painted wide (λ a b. f) r c (n + 1) side x
unfolding rectangle_painted
rectangle_row wide f r c side n from x pos fits is =
    painted_join (λ j. in_rectangle r c n side (j / wide) (j % wide)) (in_run from (from + side)) (λ j. f) x
    ∙ painted_same _ _ _ _ x (λ j. rectangle_next wide r c side pos fits n from is j) (λ j h. refl)

pub rectangle-length : (wide : ℕ) (p : Picture) (r c height width : ℕ) (x : List ℕ) → length (rectangle_painted wide p r c height width x) ≡ length x
unfolding rectangle_painted
rectangle-length wide p r c height width x = painted-length _ _ x

-- pictures that agree in the rectangle paint the same
pub rectangle_same : (wide : ℕ) (p q : Picture) (r c height width : ℕ) (x : List ℕ)
    → ((a b : ℕ) → InRectangle r c height width a b → p a b ≡ q a b)
    → rectangle_painted wide p r c height width x ≡ rectangle_painted wide q r c height width x
unfolding rectangle_painted
rectangle_same wide p q r c height width x e = painted_same _ _ _ _ x (λ j. refl) (λ j h. e (j / wide) (j % wide) (rectangle_true r c height width (j / wide) (j % wide) h))

-- a pixel of a square lies in one of its quadrants
module _ (r c half side : ℕ) (halves : side ≡ half + half) (a b : ℕ) where
  abbrev nw_test : Bool
  nw_test = in_rectangle r c half half a b

  abbrev ne_test : Bool
  ne_test = in_rectangle r (c + half) half half a b

  abbrev sw_test : Bool
  sw_test = in_rectangle (r + half) c half half a b

  abbrev se_test : Bool
  se_test = in_rectangle (r + half) (c + half) half half a b

  part_of : {r' c' : ℕ} → r ≤ r' → r' + half ≤ r + side → c ≤ c' → c' + half ≤ c + side → in_rectangle r' c' half half a b ≡ true → in_rectangle r c side side a b ≡ true
  part_of {r'} {c'} t u v w e = let f = rectangle_true r' c' half half a b e in true_rectangle r c side side a b (omega arith)

  pub quadrants_test : nw_test || ne_test || sw_test || se_test ≡ in_rectangle r c side side a b
  quadrants_test =
      same_test _ _
      (λ e. either (nw_test || ne_test || sw_test) se_test e
      (λ f. either (nw_test || ne_test) sw_test f
      (λ g. either nw_test ne_test g
      (part_of (omega arith) (omega arith) (omega arith) (omega arith))
      (part_of (omega arith) (omega arith) (omega arith) (omega arith)))
      (part_of (omega arith) (omega arith) (omega arith) (omega arith)))
      (part_of (omega arith) (omega arith) (omega arith) (omega arith)))
      (λ e.
      let f = rectangle_true r c side side a b e in
      split a (r + half)
      (λ n. or_left _ _ (or_left _ _ (split b (c + half)
      (λ w. or_left _ _ (true_rectangle r c half half a b (omega arith)))
      (λ w. or_right nw_test _ (true_rectangle r (c + half) half half a b (omega arith))))))
      (λ s. split b (c + half)
      (λ w. or_left _ _ (or_right (nw_test || ne_test) _ (true_rectangle (r + half) c half half a b (omega arith))))
      (λ w. or_right (nw_test || ne_test || sw_test) _ (true_rectangle (r + half) (c + half) half half a b (omega arith)))))

-- the four quadrants painted one after the other are the square painted
pub four_painted : (wide : ℕ) (p : Picture) (r c half side : ℕ) (x : List ℕ) → side ≡ half + half
    → rectangle_painted wide p (r + half) (c + half) half half
    (rectangle_painted wide p (r + half) c half half
    (rectangle_painted wide p r (c + half) half half (rectangle_painted wide p r c half half x)))
    ≡ rectangle_painted wide p r c side side x
unfolding rectangle_painted
four_painted wide p r c half side x halves =
    let v : ℕ → ℕ = λ i. p (i / wide) (i % wide) in
    let nw : ℕ → Bool = λ i. in_rectangle r c half half (i / wide) (i % wide) in
    let ne : ℕ → Bool = λ i. in_rectangle r (c + half) half half (i / wide) (i % wide) in
    let sw : ℕ → Bool = λ i. in_rectangle (r + half) c half half (i / wide) (i % wide) in
    let se : ℕ → Bool = λ i. in_rectangle (r + half) (c + half) half half (i / wide) (i % wide) in
    ap (λ y. filled_by se v (filled_by sw v y)) (painted_join nw ne v x)
    ∙ ap (filled_by se v) (painted_join (λ j. nw j || ne j) sw v x)
    ∙ painted_join (λ j. nw j || ne j || sw j) se v x
    ∙ painted_same _ _ _ _ x (λ j. quadrants_test r c half side halves (j / wide) (j % wide)) (λ j h. refl)
