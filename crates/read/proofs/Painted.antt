-- A raster painted at the places that pass a test: what stands at a place, painting twice, and equal tests and values give equal rasters. One
-- store paints one place. Rests on keys' Cases.
use Prim.Native.Nat.{ℕ, zero, suc, ◌+◌, ◌≤◌, ◌<◌}
use mathlib.Core.Path.{◌≡◌, refl, sym, ◌∙◌, ap, ap₂}
use mathlib.Core.Bool.{Bool, true, false, cond, ◌||◌}
use mathlib.Core.List.{List, [], ◌∷◌}
use native.Mathlib.Omega.{arith}
use native.Mathlib.Nat.{zero-add}
use lib.ListN.{length, get_or, set}
use lib.Dec.{eqb}
use borrow.Author.Tests.{eq-eqb, ne_eqb}
use Rattle.keys.proofs.Cases.{decide}
use Rattle.read.specs.Fill.{painted_from, filled_by}

length_from : (test : ℕ → Bool) (value : ℕ → ℕ) (i : ℕ) (x : List ℕ) → length (painted_from test value i x) ≡ length x
unfolding painted_from
length_from test value i [] = refl
length_from test value i (v ∷ x) = ap suc (length_from test value (suc i) x)

-- painting leaves the length
pub painted-length : (test : ℕ → Bool) (value : ℕ → ℕ) (x : List ℕ) → length (filled_by test value x) ≡ length x
painted-length test value x = length_from test value 0 x

at_from : (test : ℕ → Bool) (value : ℕ → ℕ) (i : ℕ) (x : List ℕ) (j : ℕ) → j < length x → get_or (painted_from test value i x) j 0 ≡ cond (test (i + j)) (value (i + j)) (get_or x j 0)
unfolding painted_from
at_from test value i [] j h = absurd (omega arith)
at_from test value i (v ∷ x) zero h = let e : i + 0 ≡ i = omega arith in rw e
at_from test value i (v ∷ x) (suc j) h = let e : suc i + j ≡ i + suc j = omega arith in at_from test value (suc i) x j (omega arith) ∙ ap (λ k. cond (test k) (value k) (get_or x j 0)) e

-- a place that passes has its value, another what it had
pub painted_at : (test : ℕ → Bool) (value : ℕ → ℕ) (x : List ℕ) (j : ℕ) → j < length x → get_or (filled_by test value x) j 0 ≡ cond (test j) (value j) (get_or x j 0)
painted_at test value x j h = at_from test value 0 x j h ∙ ap (λ k. cond (test k) (value k) (get_or x j 0)) (zero-add j)

twice : (s t : Bool) (v w : ℕ) → cond t v (cond s v w) ≡ cond (s || t) v w
twice true true v w = refl
twice true false v w = refl
twice false true v w = refl
twice false false v w = refl

join_from : (s t : ℕ → Bool) (value : ℕ → ℕ) (i : ℕ) (x : List ℕ) → painted_from t value i (painted_from s value i x) ≡ painted_from (λ j. s j || t j) value i x
unfolding painted_from
join_from s t value i [] = refl
join_from s t value i (v ∷ x) = ap₂ (λ y l. y ∷ l) (twice (s i) (t i) (value i) v) (join_from s t value (suc i) x)

-- painted twice with the same values, a raster is painted where either test passes
pub painted_join : (s t : ℕ → Bool) (value : ℕ → ℕ) (x : List ℕ) → filled_by t value (filled_by s value x) ≡ filled_by (λ j. s j || t j) value x
painted_join s t value x = join_from s t value 0 x

choose : (s t : Bool) (v w z : ℕ) → s ≡ t → (s ≡ true → v ≡ w) → cond s v z ≡ cond t w z
choose s t v w z e f = decide s (λ h. let g = f h in rw (← e, h) g) (λ h. rw (← e, h))

same_from : (s t : ℕ → Bool) (v w : ℕ → ℕ) (i : ℕ) (x : List ℕ) → ((j : ℕ) → s j ≡ t j) → ((j : ℕ) → s j ≡ true → v j ≡ w j) → painted_from s v i x ≡ painted_from t w i x
unfolding painted_from
same_from s t v w i [] e f = refl
same_from s t v w i (z ∷ x) e f = ap₂ (λ y l. y ∷ l) (choose (s i) (t i) (v i) (w i) z (e i) (f i)) (same_from s t v w (suc i) x e f)

-- tests that pass at the same places, with the same values there, paint the same
pub painted_same : (s t : ℕ → Bool) (v w : ℕ → ℕ) (x : List ℕ) → ((j : ℕ) → s j ≡ t j) → ((j : ℕ) → s j ≡ true → v j ≡ w j) → filled_by s v x ≡ filled_by t w x
painted_same s t v w x e f = same_from s t v w 0 x e f

none_from : (test : ℕ → Bool) (value : ℕ → ℕ) (i : ℕ) (x : List ℕ) → ((j : ℕ) → i ≤ j → test j ≡ false) → painted_from test value i x ≡ x
unfolding painted_from
none_from test value i [] e = refl
none_from test value i (v ∷ x) e = rw (e i (omega arith)) (ap (λ l. v ∷ l) (none_from test value (suc i) x (λ j h. e j (omega arith))))

-- a test that never passes paints nothing
pub painted_none : (test : ℕ → Bool) (value : ℕ → ℕ) (x : List ℕ) → ((j : ℕ) → test j ≡ false) → filled_by test value x ≡ x
painted_none test value x e = none_from test value 0 x (λ j h. e j)

set-from : (f i k : ℕ) (x : List ℕ) → set x k f ≡ painted_from (λ j. eqb j (i + k)) (λ j. f) i x
unfolding painted_from
set-from f i k [] = refl
set-from f i zero (v ∷ x) =
    let e : i ≡ i + 0 = omega arith in
    let rest = none_from (λ j. eqb j (i + 0)) (λ j. f) (suc i) x (λ j h. ne_eqb j (i + 0) (λ (g : j ≡ i + 0). omega arith)) in
    rw (eq-eqb i (i + 0) e) (ap (λ l. f ∷ l) (sym rest))
set-from f i (suc k) (v ∷ x) =
    let e : suc i + k ≡ i + suc k = omega arith in
    rw (ne_eqb i (i + suc k) (λ (g : i ≡ i + suc k). omega arith))
    (ap (λ l. v ∷ l) (set-from f (suc i) k x ∙ ap (λ n. painted_from (λ j. eqb j n) (λ j. f) (suc i) x) e))

-- one store paints one place
pub set-painted : (f k : ℕ) (x : List ℕ) → set x k f ≡ filled_by (λ j. eqb j k) (λ j. f) x
set-painted f k x = set-from f 0 k x ∙ ap (λ n. filled_by (λ j. eqb j n) (λ j. f) x) (zero-add k)
