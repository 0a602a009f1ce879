-- The value of the last record at or before a key: over two lists joined, where every key is above, and at a single record. Rests on List of the definitions.
use Prim.Native.Nat.{ℕ, ◌≤◌, ◌<◌}
use mathlib.Core.Path.{◌≡◌, refl, ◌∙◌}
use mathlib.Core.Bool.{cond}
use mathlib.Core.List.{List, [], ◌∷◌, ◌++◌}
use native.Mathlib.Omega.{arith}
use lib.Dec.{leb}
use borrow.Author.Tests.{le-leb, lt-leb}
use Rattle.definitions.specs.List.{Record, record_of, Ascending, none, next}
use Rattle.definitions.specs.Read.{value_at}

-- a record at or before the key replaces what was found before it
pub value-at : (x v : ℕ) (e : Record) (l : List Record) → e.key ≤ x → value_at x v (e ∷ l) ≡ value_at x e.value l
unfolding value_at
value-at x v e l h = rw (le-leb e.key x h)

-- a record after the key does not
pub value_after_key : (x v : ℕ) (e : Record) (l : List Record) → x < e.key → value_at x v (e ∷ l) ≡ value_at x v l
unfolding value_at
value_after_key x v e l h = rw (lt-leb e.key x h)

-- no record
pub value_none : (x v : ℕ) → value_at x v [] ≡ v
unfolding value_at
value_none x v = refl

-- in two lists one after the other, what the first gives is handed to the second
pub value-append : (x v : ℕ) (l l' : List Record) → value_at x v (l ++ l') ≡ value_at x (value_at x v l) l'
unfolding value_at
value-append x v [] l' = refl
value-append x v (e ∷ l) l' = value-append x (cond (leb e.key x) e.value v) l l'

-- where every key is above, nothing is found
pub value_above : {lo hi : ℕ} {l : List Record} (x v : ℕ) → x < lo → Ascending lo hi l → value_at x v l ≡ v
value_above x v h (none j) = value_none x v
value_above x v h (next {e = e} {l = l} j a) = value_after_key x v e l (omega arith) ∙ value_above x v (omega arith) a

-- whatever was found before, the list gives y at the key x
abbrev pub Reads : ℕ → List Record → ℕ → Type 0
Reads x l y = (v : ℕ) → value_at x v l ≡ y

-- the list has nothing at or before x
abbrev pub Silent : ℕ → List Record → Type 0
Silent x l = (v : ℕ) → value_at x v l ≡ v

-- two lists with nothing have nothing together
pub silent-append : (x : ℕ) (l l' : List Record) → Silent x l → Silent x l' → Silent x (l ++ l')
silent-append x l l' a b v = value-append x v l l' ∙ b (value_at x v l) ∙ a v

-- what a list gives it gives before one that has nothing
pub reads_left : (x y : ℕ) (l l' : List Record) → Reads x l y → Silent x l' → Reads x (l ++ l') y
reads_left x y l l' a b v = value-append x v l l' ∙ b (value_at x v l) ∙ a v

-- what a list gives it gives after any other
pub reads_right : (x y : ℕ) (l l' : List Record) → Reads x l' y → Reads x (l ++ l') y
reads_right x y l l' a v = value-append x v l l' ∙ a (value_at x v l)

-- and after any record
pub reads_tail : (x y : ℕ) (e : Record) (l : List Record) → Reads x l y → Reads x (e ∷ l) y
unfolding value_at
reads_tail x y e l a v = a (cond (leb e.key x) e.value v)

-- one record at or before the key gives its value
pub reads_one : (x κ y : ℕ) → κ ≤ x → Reads x (record_of κ y ∷ []) y
reads_one x κ y h v = value-at x v (record_of κ y) [] h ∙ value_none x y
