-- One slice in which the tail was moved and new values were written before it: it begins with the exchanged values. Rests on the laws of slices.
use Prim.Native.Nat.{ℕ, ◌+◌, ◌-◌, ◌≤◌}
use mathlib.Core.Path.{◌≡◌, sym, ◌∙◌, ap, ap₂}
use mathlib.Core.List.{List, ◌++◌, append_assoc}
use native.Mathlib.Omega.{arith}
use lib.ListN.{length, take, drop, length-append, length-drop}
use lib.Seq.{sets, take-take, length-take-le}
use Rattle.definitions.specs.Buffer.{over}
use Rattle.slices.proofs.Parts.{drop-take}
use Rattle.slices.proofs.Sets.{sets_join_back, sets_parts}

-- the values new stand where some of the first n were, and the others of those n after them
abbrev pub traded : List ℕ → ℕ → ℕ → ℕ → List ℕ → List ℕ
traded l n start end new = take start (take n l) ++ (new ++ drop end (take n l))

module _ (l : List ℕ) (n start end place : ℕ) (new : List ℕ)
    (order : start ≤ end) (within : end ≤ n) (fits : n ≤ length l) (place_is : place ≡ start + length new) (room : place + (n - end) ≤ length l) where
  abbrev tail : List ℕ
  tail = take (n - end) (drop end l)

  tail_size : length tail ≡ n - end
  tail_size = let rest = length-drop end l in length-take-le (n - end) (drop end l) (omega arith)

  parts : traded l n start end new ≡ take start l ++ (new ++ tail)
  parts = ap₂ (λ a b. a ++ (new ++ b)) (take-take start n l (omega arith)) (drop-take end n l)

  -- as many as there were, less those taken out, and the new ones
  pub traded-length : length (traded l n start end new) ≡ place + (n - end)
  traded-length =
      let e = ap length parts ∙ length-append (take start l) (new ++ tail) in
      let f = length-append new tail in
      let g = length-take-le start l (omega arith) in
      let h = tail_size in
      omega arith

  -- the tail is moved, and then the new values are written
  pub traded_is : sets (sets l place tail) start new ≡ over (traded l n start end new) l
  traded_is =
      let size = length-append new tail in
      let t = tail_size in
      let all : start + length (new ++ tail) ≡ length (traded l n start end new) = (let e = traded-length in omega arith) in
      ap (λ i. sets (sets l i tail) start new) place_is
      ∙ sets_join_back l start new tail
      ∙ sets_parts l start (new ++ tail) (omega arith)
      ∙ sym (append_assoc (take start l) (new ++ tail) (drop (start + length (new ++ tail)) l))
      ∙ ap₂ (λ a i. a ++ drop i l) (sym parts) all
