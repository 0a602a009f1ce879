-- What a buffer holds after a call: what is new stands first, a slice that is replaced again and again is as if replaced once at the longest, and
-- slices keep their lengths. Rests on the laws of lists.
use Prim.Native.Nat.{ℕ, zero, suc, ◌+◌, ◌-◌, ◌≤◌, max}
use mathlib.Core.Path.{◌≡◌, refl, sym, ap, ap₂, ◌∙◌}
use mathlib.Core.List.{List, [], ◌∷◌, ◌++◌, append_assoc}
use native.Mathlib.Nat.{zero-sub}
use native.Mathlib.Omega.{arith}
use native.Mathlib.Numerals.{unary_clauses}
use lib.ListN.{length, take, drop, replicate, length-append, length-take, length-drop, length-replicate, replicate-append-replicate, drop_of_length-le}
use lib.Seq.{length-take-le, take_at, drop-drop}
use Rattle.definitions.specs.Buffer.{over, over_at, replaced}

-- so many places dropped off two lists, one after the other
pub drop-append : (j : ℕ) (xs ys : List ℕ) → drop j (xs ++ ys) ≡ drop j xs ++ drop (j - length xs) ys
drop-append zero [] ys = refl
drop-append zero (x ∷ xs) ys = rw zero-sub
drop-append (suc j) [] ys = simp unary_clauses
drop-append (suc j) (x ∷ xs) ys = simp unary_clauses (drop-append j xs ys)

-- so many places dropped off equal ones
pub drop-replicate : (j n x : ℕ) → drop j (replicate n x) ≡ replicate (n - j) x
drop-replicate zero n x = simp unary_clauses
drop-replicate (suc j) zero x = rw zero-sub
drop-replicate (suc j) (suc n) x = simp unary_clauses (drop-replicate j n x)

-- a slice keeps its length where both counts lie within it
pub length-replaced : (n : ℕ) (new old : List ℕ) → n ≤ length old → length new ≤ length old → length (replaced n new old) ≡ length old
length-replaced n new old h j = simp (length-append, length-replicate, length-drop) (omega arith)

-- what is written afresh replaces a list of its own length
pub over_replaced : (n : ℕ) (new old : List ℕ) → length new ≡ n → over new old ≡ replaced n new old
over_replaced n new old e =
    let none : 0 ≡ n - length new = omega arith in
    let same : length new ≡ max n (length new) = omega arith in
    ap₂ (λ i j. new ++ (replicate i 0 ++ drop j old)) none same

-- zeroes, and then what is left of a slice, by any names of the two numbers
zeroes : (i j n t u : ℕ) (old : List ℕ) → i + j ≡ n → t ≡ u → replicate i 0 ++ (replicate j 0 ++ drop t old) ≡ replicate n 0 ++ drop u old
zeroes i j n t u old e f =
    sym (append_assoc (replicate i 0) (replicate j 0) (drop t old))
    ∙ ap₂ (λ l x. l ++ drop x old) (replicate-append-replicate i j 0 ∙ ap (λ x. replicate x 0) e) f

-- so many places dropped off zeroes and what is left of a slice
drop-zeroes : (i size t : ℕ) (old : List ℕ) → drop i (replicate size 0 ++ drop t old) ≡ replicate (size - i) 0 ++ drop (t + (i - size)) old
drop-zeroes i size t old =
    drop-append i (replicate size 0) (drop t old)
    ∙ ap₂ (λ l x. l ++ drop (i - x) (drop t old)) (drop-replicate i size 0) (length-replicate size 0)
    ∙ ap (λ l. replicate (size - i) 0 ++ l) (drop-drop (i - size) t old)

places_left : (a j n : ℕ) → a ≤ j → a ≤ n → n - a - (j - a) ≡ n - j
places_left a j n h f = omega arith

places_past : (a j n : ℕ) → a ≤ j → a ≤ n → max n a + (j - a - (n - a)) ≡ max n j
places_past a j n h f = omega arith

-- past the list that a slice was replaced by
past_list : (j longest : ℕ) (new old : List ℕ) → length new ≤ j → length new ≤ longest
    → drop j (replaced longest new old) ≡ replicate (longest - j) 0 ++ drop (max longest j) old
past_list j longest new old h f =
    let a : ℕ = length new in
    drop-append j new (replicate (longest - a) 0 ++ drop (max longest a) old)
    ∙ ap (λ l. l ++ drop (j - a) (replicate (longest - a) 0 ++ drop (max longest a) old)) (drop_of_length-le new h)
    ∙ drop-zeroes (j - a) (longest - a) (max longest a) old
    ∙ ap₂ (λ x y. replicate x 0 ++ drop y old) (places_left a j longest h f) (places_past a j longest h f)

-- a list that was replaced is replaced again: as if at once, at the longer of the lengths so far
pub replaced_again : (n longest : ℕ) (new new' old : List ℕ) → length new ≡ n → n ≤ longest
    → replaced n new' (replaced longest new old) ≡ replaced (max longest (length new')) new' old
replaced_again n longest new new' old e h =
    let a : ℕ = length new' in
    ap (λ l. new' ++ l)
    (ap (λ l. replicate (n - a) 0 ++ l) (past_list (max n a) longest new old (omega arith) (omega arith))
    ∙ zeroes (n - a) (longest - max n a) (max longest a - a) (max longest (max n a)) (max (max longest a) a) old (omega arith) (omega arith))

-- what is written at a place stands after what was before it
pub take-over : (place : ℕ) (new old : List ℕ) → place ≤ length old → take (place + length new) (over_at place new old) ≡ take place old ++ new
take-over place new old h =
    ap (λ l. take (place + length new) l) (sym (append_assoc (take place old) new (drop (place + length new) old)))
    ∙ take_at (take place old ++ new) (drop (place + length new) old) (place + length new)
    (length-append (take place old) new ∙ ap (λ x. x + length new) (length-take-le place old h))

-- what is past the places written stays
pub drop-over : (place j : ℕ) (new old : List ℕ) → place ≤ length old → place + length new ≤ j → drop j (over_at place new old) ≡ drop j old
drop-over place j new old h f =
    let front : List ℕ = take place old ++ new in
    let size : length front ≡ place + length new = length-append (take place old) new ∙ ap (λ x. x + length new) (length-take-le place old h) in
    let within : length front ≤ j = omega arith in
    let past : place + length new + (j - length front) ≡ j = omega arith in
    ap (λ l. drop j l) (sym (append_assoc (take place old) new (drop (place + length new) old)))
    ∙ drop-append j front (drop (place + length new) old)
    ∙ ap₂ (λ l r. l ++ r) (drop_of_length-le front within)
    (drop-drop (j - length front) (place + length new) old ∙ ap (λ x. drop x old) past)

-- a slice keeps its length where the places written lie within it
pub length-over_at : (place : ℕ) (new old : List ℕ) → place + length new ≤ length old → length (over_at place new old) ≡ length old
length-over_at place new old h = simp (length-append, length-take, length-drop) (omega arith)
