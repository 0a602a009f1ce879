-- Findings by id and then key (specification S13.11): that one comes before another, as facts on their numbers, and that in an
-- ascending list each comes before every later one, so that each stands once. Rests on keys' Cases.
use Prim.Native.Nat.{ℕ, zero, suc, ◌≤◌, ◌<◌}
use mathlib.Core.Path.{◌≡◌, refl, sym, ap}
use mathlib.Core.Logic.{⊎_elim}
use mathlib.Core.Bool.{true, ◌&&◌}
use mathlib.Core.List.Memᴰ
use mathlib.Core.List.{List, [], ◌∷◌, ◌++◌, Memᴰ}
use native.Mathlib.Omega.{arith}
use native.Mathlib.Nat.{le_of_suc-le-suc}
use lib.ListN.{length, get_or}
use lib.Dec.{ltb, eqb}
use borrow.Author.Tests.{ltb-true, eqb-true, lt-ltb, eq-eqb}
use Rattle.keys.proofs.Cases.{split, and_left, and_right, and_both, or_either, or_left, or_right}
use Rattle.definitions.specs.Rules.{Finding, comes_before, findings_ascend}

-- ---- one before another
-- the one comes before the other, by id and then key
pub record Earlier (a b : Finding) : Type 0 where
  pub ids : a.id ≤ b.id
  pub keys : a.id ≡ b.id → a.key < b.key

pub test_earlier : (a b : Finding) → comes_before a b ≡ true → Earlier a b
test_earlier a b e =
    ⊎_elim
    (λ (h : ltb a.id b.id ≡ true). let low = ltb-true a.id b.id h in record { ids = omega arith; keys = λ same. absurd (omega arith) })
    (λ (h : eqb a.id b.id && ltb a.key b.key ≡ true).
    let same = eqb-true a.id b.id (and_left (eqb a.id b.id) (ltb a.key b.key) h) in
    let low = ltb-true a.key b.key (and_right (eqb a.id b.id) (ltb a.key b.key) h) in
    record { ids = omega arith; keys = λ also. low })
    (or_either (ltb a.id b.id) (eqb a.id b.id && ltb a.key b.key) e)

pub earlier_test : (a b : Finding) → Earlier a b → comes_before a b ≡ true
earlier_test a b h =
    split a.id b.id
    (λ low. or_left (ltb a.id b.id) (eqb a.id b.id && ltb a.key b.key) (lt-ltb a.id b.id low))
    (λ high.
    let low = h.ids in
    let same : a.id ≡ b.id = omega arith in
    or_right (ltb a.id b.id) (eqb a.id b.id && ltb a.key b.key)
    (and_both (eqb a.id b.id) (ltb a.key b.key) (eq-eqb a.id b.id same) (lt-ltb a.key b.key (h.keys same))))

-- what comes before one that comes before a third comes before the third
pub earlier_on : (a b c : Finding) → Earlier a b → Earlier b c → Earlier a c
earlier_on a b c f g =
    let i = f.ids in
    let j = g.ids in
    record { ids = omega arith; keys = λ same. let k = f.keys (omega arith) in let l = g.keys (omega arith) in omega arith }

-- none comes before an equal one
pub earlier_other : (a b : Finding) → Earlier a b → a ≡ b → ⊥
earlier_other a b h e = let low = h.keys (ap (λ x. x.id) e) in let same : a.key ≡ b.key = ap (λ x. x.key) e in omega arith

-- ---- a list of them
-- each comes before every later one
pub data InOrder : List Finding → Type 0 where
  no_finding : InOrder []
  finding : {x : Finding} {xs : List Finding} → ((y : Finding) → Memᴰ y xs → Earlier x y) → InOrder xs → InOrder (x ∷ xs)

-- without the first they still ascend
pub ascend_rest : (x : Finding) (xs : List Finding) → findings_ascend (x ∷ xs) ≡ true → findings_ascend xs ≡ true
unfolding findings_ascend
ascend_rest x [] e = refl
ascend_rest x (y ∷ xs) e = and_right (comes_before x y) (findings_ascend (y ∷ xs)) e

ascend_first : (x y : Finding) (xs : List Finding) → findings_ascend (x ∷ (y ∷ xs)) ≡ true → comes_before x y ≡ true
unfolding findings_ascend
ascend_first x y xs e = and_left (comes_before x y) (findings_ascend (y ∷ xs)) e

before_all : {x y : Finding} {xs : List Finding} → Earlier x y → InOrder (y ∷ xs) → (z : Finding) → Memᴰ z (y ∷ xs) → Earlier x z
before_all {x} {y} {xs} first (finding h t) z m =
    ⊎_elim (λ (e : z ≡ y). rw e first) (λ (n : Memᴰ z xs). earlier_on x y z first (h z n)) (Memᴰ.cases_cons m)

-- where each comes before the next, each comes before every later one
pub ascend_order : (xs : List Finding) → findings_ascend xs ≡ true → InOrder xs
ascend_order [] e = no_finding
ascend_order (x ∷ []) e = finding (λ y m. absurd (Memᴰ.not-nil m)) no_finding
ascend_order (x ∷ (y ∷ xs)) e =
    let rest = ascend_order (y ∷ xs) (ascend_rest x (y ∷ xs) e) in finding (before_all (test_earlier x y (ascend_first x y xs e)) rest) rest

pub order_ascend : {xs : List Finding} → InOrder xs → findings_ascend xs ≡ true
unfolding findings_ascend
order_ascend no_finding = refl
order_ascend (finding {x} {xs = []} h t) = refl
order_ascend (finding {x} {xs = y ∷ xs} h t) =
    and_both (comes_before x y) (findings_ascend (y ∷ xs)) (earlier_test x y (h y (Memᴰ.head refl))) (order_ascend t)

-- one list and then another, all of which come later
pub order-append : {xs ys : List Finding} → InOrder xs → InOrder ys → ((x y : Finding) → Memᴰ x xs → Memᴰ y ys → Earlier x y) → InOrder (xs ++ ys)
order-append no_finding t h = t
order-append {ys} (finding {x} {xs} g s) t h =
    finding
    (λ y m. ⊎_elim (λ (n : Memᴰ y xs). g y n) (λ (n : Memᴰ y ys). h x y (Memᴰ.head refl) n) (Memᴰ.append_cases xs m))
    (order-append s t (λ a b m n. h a b (Memᴰ.tail m) n))

-- ---- place by place
-- what stands at a place of the list is one of it
member_at : (d : Finding) (xs : List Finding) (i : ℕ) → i < length xs → Memᴰ (get_or xs i d) xs
member_at d [] i h = absurd (omega arith)
member_at d (x ∷ xs) zero h = Memᴰ.head refl
member_at d (x ∷ xs) (suc i) h = Memᴰ.tail (member_at d xs i (le_of_suc-le-suc h))

-- what stands at a place comes before what stands at a later one
pub order_places : (d : Finding) {xs : List Finding} → InOrder xs → (i j : ℕ) → i < j → j < length xs → Earlier (get_or xs i d) (get_or xs j d)
order_places d no_finding i j h room = absurd (omega arith)
order_places d (finding g t) zero zero h room = absurd (omega arith)
order_places d (finding {x} {xs} g t) zero (suc j) h room = g (get_or xs j d) (member_at d xs j (le_of_suc-le-suc room))
order_places d (finding g t) (suc i) zero h room = absurd (omega arith)
order_places d (finding g t) (suc i) (suc j) h room = order_places d t i j (le_of_suc-le-suc h) (le_of_suc-le-suc room)

-- so each stands once
pub order_once : (d : Finding) {xs : List Finding} → InOrder xs → (i j : ℕ) → i < length xs → j < length xs → get_or xs i d ≡ get_or xs j d → i ≡ j
order_once d {xs} t i j hi hj e =
    split i j (λ below. absurd (earlier_other (get_or xs i d) (get_or xs j d) (order_places d t i j below hj) e))
    (λ le. split j i (λ below. absurd (earlier_other (get_or xs j d) (get_or xs i d) (order_places d t j i below hi) (sym e))) (λ ge. omega arith))
