-- Parts of a list: what stands from a place on, of so many values from the first. Rests on the laws of lists.
use Prim.Native.Nat.{ℕ, zero, suc, ◌-◌}
use mathlib.Core.Path.{◌≡◌, sym, ap, ◌∙◌}
use mathlib.Core.List.{List, [], ◌∷◌}
use native.Mathlib.Omega.{arith}
use lib.ListN.{take, drop}
use lib.Seq.{take-nil}

-- from a place on, of the first n
pub drop-take {ℓ} : {A : Type ℓ} (i n : ℕ) (l : List A) → drop i (take n l) ≡ take (n - i) (drop i l)
drop-take zero n l = let same : n ≡ n - 0 = omega arith in ap (λ k. take k l) same
drop-take (suc i) zero l = let none : 0 ≡ 0 - suc i = omega arith in ap (λ k. take k (drop (suc i) l)) none
drop-take (suc i) (suc n) [] = sym (take-nil (suc n - suc i))
drop-take (suc i) (suc n) (x ∷ l) = let same : n - i ≡ suc n - suc i = omega arith in drop-take i n l ∙ ap (λ k. take k (drop i l)) same
