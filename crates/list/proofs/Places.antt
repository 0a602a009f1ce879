-- Records in two slices of one length, from a place on: the record at the place and those after it, and the place where the check's outcome
-- begins. Rests on Sound.
use Prim.Native.Nat.{ℕ, zero, suc, ◌+◌, ◌-◌, ◌≤◌, ◌<◌}
use mathlib.Core.Path.{◌≡◌, refl, sym, ◌∙◌, ap}
use mathlib.Core.List.{List, [], ◌∷◌, ◌++◌, append_assoc}
use native.Mathlib.Numerals.{add-one}
use native.Mathlib.Omega.{arith}
use lib.ListN.{length, get_or, take, drop, length-append, length-drop, take-append-drop, drop_of_length-le}
use lib.Seq.{drop_at}
use Rattle.definitions.specs.List.{Record, record_of}
use Rattle.definitions.specs.Read.{paired}
use Rattle.laws.proofs.ListOf.{list_head_first}
use Rattle.laws.proofs.Records.{paired-length}
use Rattle.list.specs.Check.{Outcome, wrong, left, rest_place, after_own, after_node}
use Rattle.list.proofs.Sound.{sound}

records_from : (K B : List ℕ) (i : ℕ) → length K ≡ length B → i < length K → drop i (paired K B) ≡ record_of (get_or K i 0) (get_or B i 0) ∷ drop (suc i) (paired K B)
unfolding paired
records_from [] B i same h = absurd (omega arith)
records_from (x ∷ K) [] i same h = absurd (omega arith)
records_from (x ∷ K) (y ∷ B) zero same h = refl
records_from (x ∷ K) (y ∷ B) (suc i) same h = records_from K B i (omega arith) (omega arith)

-- the records from a place on: the one there and those after it
pub record_at : (K B : List ℕ) (i : ℕ) → length K ≡ length B → i < length K
    → drop i (paired K B) ≡ record_of (get_or K i 0) (get_or B i 0) ∷ drop (i + 1) (paired K B)
record_at K B i same h =
    records_from K B i same h ∙ ap (λ j. record_of (get_or K i 0) (get_or B i 0) ∷ drop j (paired K B)) (sym (add-one i))

-- past the last place there are none
pub records_end : (K B : List ℕ) (i : ℕ) → length K ≡ length B → length K ≤ i → drop i (paired K B) ≡ []
records_end K B i same h = let e = paired-length K B same in drop_of_length-le (paired K B) {i = i} (omega arith)

-- a list from a place on is what is left at that place
pub place_of_rest : (l : List Record) (i n : ℕ) → n ≡ length l → i ≤ n → rest_place n (left (drop i l)) ≡ i
unfolding rest_place
place_of_rest l i n e h = let j = length-drop i l in omega arith

-- what is left at the end of a list begins where the list's other records end
pub end-of : (l before rest : List Record) → l ≡ before ++ rest → rest ≡ drop (length l - length rest) l
end-of l before rest e =
    let n = ap length e ∙ length-append before rest in
    let m : length before ≡ length l - length rest = omega arith in
    sym (ap (drop (length l - length rest)) e ∙ drop_at before rest (length l - length rest) m)

-- what a block leaves is the end of what it was found in
pub block_leaves : (k κ bits : ℕ) (l rest : List Record) → after_own (after_node k) κ bits l ≡ left rest → (before : List Record) × (l ≡ before ++ rest)
block_leaves k κ bits l rest e =
    let s = sound k 0 0 κ bits l rest e in
    let first = list_head_first s.picture k 0 0 κ in
    (first.0, tails (s.is ∙ ap (λ x. x ++ rest) first.1))
  where
    tails : {x y : Record} {l l' : List Record} → x ∷ l ≡ y ∷ l' → l ≡ l'
    tails e = cc

-- what the place of an outcome tells, where the block's records were looked for from the place i on among the records l
pub record PlaceTold (l : List Record) (outcome : Outcome) (place : ℕ) : Type 0 where
  pub refused : place ≡ 0 → outcome ≡ wrong
  pub passed : (place ≡ 0 → ⊥) → outcome ≡ left (drop place l)
  pub within : place ≤ length l

pub told : (k κ bits : ℕ) (l : List Record) (i n : ℕ) → n ≡ length l → 0 < i → i ≤ n
    → PlaceTold l (after_own (after_node k) κ bits (drop i l)) (rest_place n (after_own (after_node k) κ bits (drop i l)))
unfolding rest_place
told k κ bits l i n size above within = go (after_own (after_node k) κ bits (drop i l)) refl
  where
    go : (o : Outcome) → after_own (after_node k) κ bits (drop i l) ≡ o → PlaceTold l o (rest_place n o)
    go wrong e = record { refused = λ z. refl; passed = λ z. absurd (z refl); within = omega arith }
    go (left rest) e =
        let b = block_leaves k κ bits (drop i l) rest e in
        let whole : l ≡ (take i l ++ b.0) ++ rest = sym (take-append-drop i l) ∙ ap (λ x. take i l ++ x) b.1 ∙ sym (append_assoc (take i l) b.0 rest) in
        let m = ap length b.1 ∙ length-append b.0 rest in
        let d = length-drop i l in
        record {
          refused = λ z. absurd (omega arith);
          passed = λ z. ap left (end-of l (take i l ++ b.0) rest whole ∙ ap (λ x. drop (x - length rest) l) (sym size));
          within = omega arith;
        }
