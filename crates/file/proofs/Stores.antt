-- Runs of stores: two that follow one another are one, and a run from the first place on is the new content over the old. Rests on the laws of
-- lists.
use Prim.Native.Nat.{ℕ, suc, ◌+◌, ◌%◌}
use mathlib.Core.Path.{◌≡◌, refl, sym, ap, ◌∙◌}
use mathlib.Core.List.{List, [], ◌∷◌, ◌++◌}
use native.Mathlib.Nat.{add-zero, div-one}
use native.Mathlib.Omega.{arith}
use lib.ListN.{length, set}
use lib.Seq.{sets}
use Rattle.definitions.specs.File.{version_for, bytes_of, head_of, mark}

-- what is stored from a place on, and then what is stored after it
pub sets_split : (l : List ℕ) (i : ℕ) (a b : List ℕ) → sets l i (a ++ b) ≡ sets (sets l i a) (i + length a) b
sets_split l i [] b = ap (λ k. sets l k b) (sym (add-zero i))
sets_split l i (x ∷ a) b =
    let next : suc i + length a ≡ i + suc (length a) = omega arith in
    sets_split (set l i x) (suc i) a b ∙ ap (λ k. sets (sets (set l i x) (suc i) a) k b) next

-- the mark, the version, m, s and n stored one after the other are the head
pub head_stores : (m s n version : ℕ) (old marked versioned whole : List ℕ) → version ≡ version_for s → marked ≡ sets old 0 mark
    → versioned ≡ sets marked 3 (bytes_of 2 version)
    → whole ≡ sets (set (set versioned 5 (m % 256)) 6 (s % 256)) 7 (bytes_of 4 n) → whole ≡ sets old 0 (head_of m s n)
unfolding head_of bytes_of
head_stores m s n version old marked versioned whole v e f g = g ∙ rw (f, e, v, div-one m, div-one s)

length-head : (m s n : ℕ) → 0 + length (head_of m s n) ≡ 11
unfolding head_of bytes_of
length-head m s n = refl

-- what is stored after the head is stored from byte 11 on
pub head_then : (old : List ℕ) (m s n : ℕ) (rest : List ℕ) → sets old 0 (head_of m s n ++ rest) ≡ sets (sets old 0 (head_of m s n)) 11 rest
head_then old m s n rest = sets_split old 0 (head_of m s n) rest ∙ ap (λ k. sets (sets old 0 (head_of m s n)) k rest) (length-head m s n)
