-- Strictly ascending keys between two bounds: each stands once, and a list of them is settled by its members. Rests on keys' Cases.
use Prim.Native.Nat.{ℕ, zero, suc, ◌≤◌, ◌<◌}
use mathlib.Core.Path.{◌≡◌, refl, sym, ap₂}
use mathlib.Core.Logic.{⊎_elim}
use mathlib.Core.List.{List, [], ◌∷◌, ◌++◌, Memᴰ}
use native.Mathlib.Omega.{arith}
use native.Mathlib.Nat.{le_of_suc-le-suc}
use lib.ListN.{length, get_or}
use Rattle.keys.proofs.Cases.{split}

-- each key is at least lo, below hi, and above the one before it
pub data AscendingKeys : ℕ → ℕ → List ℕ → Type 0 where
  no_key : {lo hi : ℕ} → lo ≤ hi → AscendingKeys lo hi []
  key : {lo hi x : ℕ} {l : List ℕ} → lo ≤ x → AscendingKeys (suc x) hi l → AscendingKeys lo hi (x ∷ l)

-- the bounds are in order
pub keys_bounds : {lo hi : ℕ} {l : List ℕ} → AscendingKeys lo hi l → lo ≤ hi
keys_bounds (no_key h) = h
keys_bounds (key h t) = let e = keys_bounds t in omega arith

-- wider bounds hold too
pub ascending_widen : {lo hi lo' hi' : ℕ} {l : List ℕ} → lo' ≤ lo → hi ≤ hi' → AscendingKeys lo hi l → AscendingKeys lo' hi' l
ascending_widen {lo'} {hi'} a b (no_key h) = no_key {lo = lo'} {hi = hi'} (omega arith)
ascending_widen {lo'} a b (key {x} h t) = key {lo = lo'} {x = x} (omega arith) (ascending_widen {lo = suc x} {lo' = suc x} (omega arith) b t)

-- keys below a bound, and then keys from it on
pub keys-append : {lo mid hi : ℕ} {a b : List ℕ} → AscendingKeys lo mid a → AscendingKeys mid hi b → AscendingKeys lo hi (a ++ b)
keys-append {hi} (no_key h) t = ascending_widen h (omega arith) t
keys-append (key h s) t = key h (keys-append s t)

-- each key lies between the bounds
pub ascending_member : {lo hi x : ℕ} {l : List ℕ} → AscendingKeys lo hi l → Memᴰ x l → (lo ≤ x) × (x < hi)
ascending_member (no_key h) m = absurd (mathlib.Core.List.Memᴰ.not-nil m)
ascending_member {lo} {hi} {x} (key {x = y} {l} h t) m =
    let order = keys_bounds t in
    ⊎_elim (λ (e : x ≡ y). omega arith) (λ (m' : Memᴰ x l). let ih = ascending_member t m' in omega arith) (mathlib.Core.List.Memᴰ.cases_cons m)

-- the key at a place is at least the lower bound
pub ascending_at : {lo hi : ℕ} {l : List ℕ} → AscendingKeys lo hi l → (j : ℕ) → j < length l → lo ≤ get_or l j 0
ascending_at (no_key h) j room = absurd (omega arith)
ascending_at (key h t) zero room = h
ascending_at (key h t) (suc j) room = let ih = ascending_at t j (le_of_suc-le-suc room) in omega arith

-- a later place has a larger key
pub ascending_places : {lo hi : ℕ} {l : List ℕ} → AscendingKeys lo hi l → (i j : ℕ) → i < j → j < length l → get_or l i 0 < get_or l j 0
ascending_places (no_key e) i j h room = absurd (omega arith)
ascending_places (key e t) zero zero h room = absurd (omega arith)
ascending_places (key e t) zero (suc j) h room = ascending_at t j (le_of_suc-le-suc room)
ascending_places (key e t) (suc i) zero h room = absurd (omega arith)
ascending_places (key e t) (suc i) (suc j) h room = ascending_places t i j (le_of_suc-le-suc h) (le_of_suc-le-suc room)

-- each key stands once
pub ascending_once : {lo hi : ℕ} {l : List ℕ} → AscendingKeys lo hi l → (i j : ℕ) → i < length l → j < length l → get_or l i 0 ≡ get_or l j 0 → i ≡ j
ascending_once t i j hi hj e =
    split i j (λ below. absurd (let h = ascending_places t i j below hj in omega arith))
    (λ le. split j i (λ below. absurd (let h = ascending_places t j i below hi in omega arith)) (λ ge. omega arith))

-- without its first key a list ascends above it
pub keys_rest : {lo hi x : ℕ} {l : List ℕ} → AscendingKeys lo hi (x ∷ l) → AscendingKeys (suc x) hi l
keys_rest (key h t) = t

-- what comes after the first key of one list comes after that of another that begins with the same key
past_first : {lo hi x y z : ℕ} {a b : List ℕ} → AscendingKeys lo hi (x ∷ a) → x ≡ y → Memᴰ z a → Memᴰ z (y ∷ b) → Memᴰ z b
past_first {y} {z} {b} s e m other =
    let above = ascending_member (keys_rest s) m in
    ⊎_elim (λ (same : z ≡ y). absurd (omega arith)) (λ (m' : Memᴰ z b). m') (mathlib.Core.List.Memᴰ.cases_cons other)

same_first : {lo hi lo' hi' x y : ℕ} {a b : List ℕ} → AscendingKeys lo hi (x ∷ a) → AscendingKeys lo' hi' (y ∷ b)
    → Memᴰ x (y ∷ b) → Memᴰ y (x ∷ a) → x ≡ y
same_first {x} {y} {a} {b} s t to from =
    ⊎_elim (λ (e : x ≡ y). e)
    (λ (m : Memᴰ x b). ⊎_elim (λ (e : y ≡ x). sym e)
    (λ (n : Memᴰ y a). absurd (let g = ascending_member (keys_rest t) m in let h = ascending_member (keys_rest s) n in omega arith))
    (mathlib.Core.List.Memᴰ.cases_cons from)) (mathlib.Core.List.Memᴰ.cases_cons to)

-- ascending lists with the same members are the same
pub ascending_same : {lo hi lo' hi' : ℕ} (a b : List ℕ) → AscendingKeys lo hi a → AscendingKeys lo' hi' b
    → ((z : ℕ) → Memᴰ z a → Memᴰ z b) → ((z : ℕ) → Memᴰ z b → Memᴰ z a)
    → a ≡ b
ascending_same [] [] s t to from = refl
ascending_same [] (y ∷ b) s t to from = absurd (mathlib.Core.List.Memᴰ.not-nil (from y (mathlib.Core.List.Memᴰ.head refl)))
ascending_same (x ∷ a) [] s t to from = absurd (mathlib.Core.List.Memᴰ.not-nil (to x (mathlib.Core.List.Memᴰ.head refl)))
ascending_same (x ∷ a) (y ∷ b) s t to from =
    let first : x ≡ y = same_first s t (to x (mathlib.Core.List.Memᴰ.head refl)) (from y (mathlib.Core.List.Memᴰ.head refl)) in
    ap₂ (λ z l. z ∷ l) first
    (ascending_same a b (keys_rest s) (keys_rest t)
    (λ z m. past_first s first m (to z (mathlib.Core.List.Memᴰ.tail m)))
    (λ z m. past_first t (sym first) m (from z (mathlib.Core.List.Memᴰ.tail m))))
