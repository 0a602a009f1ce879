-- What a place made and a place given up leave in one of the slices: the numbers of a table with a row more, and of one with a row less. Rests on Place, and
-- on the laws of runs in the crate slices.
use Prim.Native.Nat.{ℕ, suc, ◌+◌, ◌-◌, ◌≤◌, ◌<◌, max}
use mathlib.Core.Path.{◌≡◌, refl, sym, ap, ap₂, ◌∙◌}
use mathlib.Core.Bool.{true}
use mathlib.Core.List.{List, [], ◌∷◌, ◌++◌, map, append_assoc}
use native.Mathlib.Omega.{arith}
use lib.ListN.{length, set, take, drop, replicate, length-drop, length-append}
use lib.Seq.{sets, take-take, length-take-le}
use Rattle.slices.proofs.Parts.{drop-take}
use Rattle.slices.proofs.Sets.{sets_parts, sets_snoc}
use Rattle.definitions.specs.Buffer.{over, replaced}
use Rattle.definitions.specs.Offices.{Waiver, added, removed}
use Rattle.offices.specs.Place.{row_place, leads, opened, gap_closed}
use Rattle.offices.proofs.Place.{place_within, added_at, removed_at}

map-append : (f : Waiver → ℕ) (xs ys : List Waiver) → map f (xs ++ ys) ≡ map f xs ++ map f ys
map-append f [] ys = refl
map-append f (x ∷ xs) ys = ap (λ l. f x ∷ l) (map-append f xs ys)

map-take : (f : Waiver → ℕ) (n : ℕ) (xs : List Waiver) → map f (take n xs) ≡ take n (map f xs)
map-take f Prim.Native.Nat.zero xs = refl
map-take f (suc n) [] = refl
map-take f (suc n) (x ∷ xs) = ap (λ l. f x ∷ l) (map-take f n xs)

map-drop : (f : Waiver → ℕ) (n : ℕ) (xs : List Waiver) → map f (drop n xs) ≡ drop n (map f xs)
map-drop f Prim.Native.Nat.zero xs = refl
map-drop f (suc n) [] = refl
map-drop f (suc n) (x ∷ xs) = map-drop f n xs

module _ (l : List ℕ) (rows place number : ℕ) (low : place ≤ rows) (fits : rows < length l) where
  -- a place is made
  pub opened_is : take place (take rows l) ++ (number ∷ drop place (take rows l)) ++ drop (suc rows) l ≡ opened rows place number l
  opened_is =
      let rest = length-drop place l in
      let run = length-take-le (rows - place) (drop place l) (omega arith) in
      let end : place + suc (length (take (rows - place) (drop place l))) ≡ suc rows = omega arith in
      sym
      (sets_parts l place (number ∷ take (rows - place) (drop place l)) (omega arith)
      ∙ ap (λ n. take place l ++ ((number ∷ take (rows - place) (drop place l)) ++ drop n l)) end
      ∙ ap₂ (λ a b. a ++ ((number ∷ b) ++ drop (suc rows) l)) (sym (take-take place rows l low)) (sym (drop-take place rows l))
      ∙ sym (append_assoc (take place (take rows l)) (number ∷ drop place (take rows l)) (drop (suc rows) l)))

module _ (l : List ℕ) (rows place : ℕ) (low : place < rows) (fits : rows ≤ length l) where
  -- a place is given up
  pub closed_is : take place (take rows l) ++ drop (suc place) (take rows l) ++ (0 ∷ drop rows l) ≡ gap_closed rows place l
  closed_is =
      let next : suc place ≡ place + 1 = omega arith in
      let rest = length-drop (place + 1) l in
      let run = length-take-le (rows - (place + 1)) (drop (place + 1) l) (omega arith) in
      let size = length-append (take (rows - (place + 1)) (drop (place + 1) l)) (0 ∷ []) in
      let end : place + length (take (rows - (place + 1)) (drop (place + 1) l) ++ (0 ∷ [])) ≡ rows = omega arith in
      sym
      (sets_parts l place (take (rows - (place + 1)) (drop (place + 1) l) ++ (0 ∷ [])) (omega arith)
      ∙ ap (λ n. take place l ++ ((take (rows - (place + 1)) (drop (place + 1) l) ++ (0 ∷ [])) ++ drop n l)) end
      ∙ ap (λ r. take place l ++ r) (append_assoc (take (rows - (place + 1)) (drop (place + 1) l)) (0 ∷ []) (drop rows l))
      ∙ ap₂ (λ a b. a ++ (b ++ (0 ∷ drop rows l))) (sym (take-take place rows l (omega arith)))
      (sym (drop-take (place + 1) rows l) ∙ ap (λ n. drop n (take rows l)) (sym next))
      ∙ sym (append_assoc (take place (take rows l)) (drop (suc place) (take rows l)) (0 ∷ drop rows l)))

  -- a store behind the run that was moved
  pub closed_run : set (sets l place (take (rows - (place + 1)) (drop (place + 1) l))) (rows - 1) 0 ≡ gap_closed rows place l
  closed_run =
      let rest = length-drop (place + 1) l in
      let run = length-take-le (rows - (place + 1)) (drop (place + 1) l) (omega arith) in
      let end : rows - 1 ≡ place + length (take (rows - (place + 1)) (drop (place + 1) l)) = omega arith in
      ap (λ n. set (sets l place (take (rows - (place + 1)) (drop (place + 1) l))) n 0) end
      ∙ sets_snoc l place (take (rows - (place + 1)) (drop (place + 1) l)) 0

-- ---- a slice of the table
module _ (f : Waiver → ℕ) (w : Waiver) (t : List Waiver) (l : List ℕ) (rows : ℕ) (size : length t ≡ rows) (is : map f t ≡ take rows l) where
  abbrev place : ℕ
  place = row_place w t

  map-added : map f (added w t) ≡ take place (take rows l) ++ (f w ∷ drop place (take rows l))
  map-added =
      ap (map f) (added_at w t)
      ∙ map-append f (take place t) (w ∷ drop place t)
      ∙ ap₂ (λ a b. a ++ (f w ∷ b)) (map-take f place t ∙ ap (take place) is) (map-drop f place t ∙ ap (drop place) is)

  -- with a row more
  pub slice_added : rows < length l → opened rows place (f w) l ≡ over (map f (added w t)) l
  slice_added fits =
      let low = place_within w t in
      let full = length-take-le rows l (omega arith) in
      let a = length-take-le place (take rows l) (omega arith) in
      let b = length-drop place (take rows l) in
      let c = length-append (take place (take rows l)) (f w ∷ drop place (take rows l)) in
      let long : suc rows ≡ length (map f (added w t)) = sym (ap length map-added ∙ (let z : length (take place (take rows l) ++ (f w ∷ drop place (take rows l))) ≡ suc rows = omega arith in z)) in
      sym (opened_is l rows place (f w) (omega arith) fits)
      ∙ ap₂ (λ a n. a ++ drop n l) (sym map-added) long

  module _ (low : place < rows) (same : leads w (drop place t) ≡ true) where
    map-removed : map f (removed w t) ≡ take place (take rows l) ++ drop (suc place) (take rows l)
    map-removed =
        ap (map f) (removed_at w t same)
        ∙ map-append f (take place t) (drop (suc place) t)
        ∙ ap₂ (λ a b. a ++ b) (map-take f place t ∙ ap (take place) is) (map-drop f (suc place) t ∙ ap (drop (suc place)) is)

    -- with a row less
    pub slice_removed : rows ≤ length l → gap_closed rows place l ≡ replaced rows (map f (removed w t)) l
    slice_removed fits =
        let full = length-take-le rows l (omega arith) in
        let a = length-take-le place (take rows l) (omega arith) in
        let b = length-drop (suc place) (take rows l) in
        let c = length-append (take place (take rows l)) (drop (suc place) (take rows l)) in
        let long : length (map f (removed w t)) + 1 ≡ rows = (let e = ap length map-removed in omega arith) in
        let one : 1 ≡ rows - length (map f (removed w t)) = omega arith in
        let end : rows ≡ max rows (length (map f (removed w t))) = omega arith in
        sym (closed_is l rows place low fits)
        ∙ ap (λ r. r ++ (0 ∷ drop rows l)) (sym map-removed)
        ∙ ap₂ (λ k n. map f (removed w t) ++ (replicate k 0 ++ drop n l)) one end
