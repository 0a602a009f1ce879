-- The part of a file's bytes from a place to their end, as code lends it: to be read, and to be written. Rests on the laws of lists.
use Prim.Native.Nat.{ℕ, ◌+◌, ◌-◌, ◌≤◌}
use mathlib.Core.Path.{◌≡◌, sym, ap, ap₂, ◌∙◌}
use mathlib.Core.List.{List, ◌++◌, append_assoc, append-nil}
use native.Mathlib.Omega.{arith}
use lib.ListN.{length, take, drop, length-drop, drop_of_length-le}
use lib.Seq.{sets, sets-eq, take_all, take-add, drop-drop}

-- what is lent are the bytes from the place on
pub rest_lent : (bytes : List ℕ) (start : ℕ) → take (length bytes - start) (drop start bytes) ≡ drop start bytes
rest_lent bytes start = let e = length-drop start bytes in take_all (length bytes - start) (drop start bytes) (omega arith)

four_parts : (a b c d : List ℕ) → a ++ (b ++ c ++ d) ≡ (a ++ b) ++ c ++ d
four_parts a b c d = simp append_assoc

module _ (bytes : List ℕ) (start i : ℕ) (new : List ℕ) (fits : start + i + length new ≤ length bytes) where
  -- what is stored in the part is stored in the whole
  sets_rest : take start bytes ++ sets (drop start bytes) i new ≡ sets bytes (start + i) new
  sets_rest =
      let e = length-drop start bytes in
      let place : start + (i + length new) ≡ start + i + length new = omega arith in
      ap (λ l. take start bytes ++ l) (sets-eq new (drop start bytes) i (omega arith))
      ∙ four_parts (take start bytes) (take i (drop start bytes)) new (drop (i + length new) (drop start bytes))
      ∙ ap₂ (λ front back. front ++ new ++ back) (sym (take-add start i bytes)) (drop-drop (i + length new) start bytes ∙ ap (λ k. drop k bytes) place)
      ∙ sym (sets-eq new bytes (start + i) fits)

  -- once the part is back
  pub rest_back : (part : List ℕ) → part ≡ sets (take (length bytes - start) (drop start bytes)) i new
      → take start bytes ++ (part ++ drop (length bytes - start) (drop start bytes)) ≡ sets bytes (start + i) new
  rest_back part is =
      let e = length-drop start bytes in
      ap₂ (λ p q. take start bytes ++ (p ++ q)) (is ∙ ap (λ l. sets l i new) (rest_lent bytes start))
      (drop_of_length-le (drop start bytes) {i = length bytes - start} (omega arith))
      ∙ ap (λ l. take start bytes ++ l) (append-nil (sets (drop start bytes) i new))
      ∙ sets_rest
