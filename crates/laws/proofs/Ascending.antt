-- Records whose keys ascend strictly between two bounds: laws to widen the bounds, to join two such lists and to find where the
-- key of a record lies. Rests on the definitions alone.
use Prim.Native.Nat.{ℕ, suc, ◌+◌, ◌*◌, ◌≤◌, ◌<◌}
use mathlib.Core.Path.{◌≡◌, sym, ◌∙◌, ap}
use mathlib.Core.List.{List, [], ◌∷◌, ◌++◌, Memᴰ}
use native.Mathlib.Nat.{le_refl}
use native.Mathlib.Omega.{arith}
use Rattle.definitions.specs.List.{Record, record_of, Ascending, none, next}

-- the lower bound is at most the upper
pub ascending_bounds : {lo hi : ℕ} {l : List Record} → Ascending lo hi l → lo ≤ hi
ascending_bounds (none h) = h
ascending_bounds (next h a) = let j = ascending_bounds a in omega arith

-- keys between two bounds are between wider ones
pub widen : {lo hi lo' hi' : ℕ} {l : List Record} → lo' ≤ lo → hi ≤ hi' → Ascending lo hi l → Ascending lo' hi' l
widen {lo' = lo'} {hi' = hi'} u v (none h) = none {lo = lo'} {hi = hi'} (omega arith)
widen {lo' = lo'} u v (next {e = e} h a) = next {lo = lo'} {e = e} (omega arith) (widen (le_refl _) v a)

-- without its first record a list ascends above it
pub ascending_rest : {lo hi : ℕ} {e : Record} {l : List Record} → Ascending lo hi (e ∷ l) → Ascending (suc e.key) hi l
ascending_rest (next h a) = a

-- one record between the bounds
pub ascending_one : {lo hi κ v : ℕ} → lo ≤ κ → κ < hi → Ascending lo hi (record_of κ v ∷ [])
ascending_one u v = next u (none v)

-- a list that ends below where another begins is joined to it
pub ascending-append : {lo mid hi : ℕ} {l l' : List Record} → Ascending lo mid l → Ascending mid hi l' → Ascending lo hi (l ++ l')
ascending-append (none h) b = widen h (omega arith) b
ascending-append (next h a) b = next h (ascending-append a b)

-- four lists, each in its fifth of an interval, are joined; the first fifth is left for what stands before them
pub ascending_four : {a b c d : List Record} (κ q : ℕ)
    → 0 < q
    → Ascending (κ + 1 * q) (κ + 1 * q + q) a
    → Ascending (κ + 2 * q) (κ + 2 * q + q) b
    → Ascending (κ + 3 * q) (κ + 3 * q + q) c
    → Ascending (κ + 4 * q) (κ + 4 * q + q) d
    → Ascending (suc κ) (κ + q * 5) (a ++ (b ++ (c ++ d)))
ascending_four κ q pos one two three four =
    ascending-append (widen {lo' = suc κ} {hi' = κ + 2 * q} (omega arith) (omega arith) one)
    (ascending-append (widen {lo' = κ + 2 * q} {hi' = κ + 3 * q} (omega arith) (omega arith) two)
    (ascending-append (widen {lo' = κ + 3 * q} {hi' = κ + 4 * q} (omega arith) (omega arith) three)
    (widen {lo' = κ + 4 * q} {hi' = κ + q * 5} (omega arith) (omega arith) four)))

-- the key of each record is at least the lower bound
pub key_from : {lo hi : ℕ} {l : List Record} {x : Record} → Ascending lo hi l → Memᴰ x l → lo ≤ x.key
key_from (none h) m = elim m [ ]
key_from (next {e = e} h a) (Memᴰ.head i) = let j = ap (λ y. y.key) i in omega arith
key_from (next h a) (Memᴰ.tail m) = let j = key_from a m in omega arith

-- and below the upper
pub member_below : {lo hi : ℕ} {l : List Record} {x : Record} → Ascending lo hi l → Memᴰ x l → x.key < hi
member_below (none h) m = elim m [ ]
member_below (next {e = e} h a) (Memᴰ.head i) = let j = ap (λ y. y.key) i in let b = ascending_bounds a in omega arith
member_below (next h a) (Memᴰ.tail m) = member_below a m

-- no two records have the same key
pub same_key_record : {lo hi : ℕ} {l : List Record} {x y : Record} → Ascending lo hi l → Memᴰ x l → Memᴰ y l → x.key ≡ y.key → x ≡ y
same_key_record (none h) m n e = elim m [ ]
same_key_record (next h a) (Memᴰ.head i) (Memᴰ.head j) e = i ∙ sym j
same_key_record (next h a) (Memᴰ.head i) (Memᴰ.tail n) e = let b = key_from a n in let k = ap (λ z. z.key) i in absurd (omega arith)
same_key_record (next h a) (Memᴰ.tail m) (Memᴰ.head j) e = let b = key_from a m in let k = ap (λ z. z.key) j in absurd (omega arith)
same_key_record (next h a) (Memᴰ.tail m) (Memᴰ.tail n) e = same_key_record a m n e
