-- The library's test of what a slice begins with, and the definition's of a file's mark. Rests on their definitions.
use Prim.Native.Nat.{ℕ}
use mathlib.Core.Path.{◌≡◌, refl, ap, ap₂, ◌∙◌}
use mathlib.Core.Bool.{◌&&◌}
use mathlib.Core.List.{List, [], ◌∷◌}
use lib.ListN.{length, take}
use lib.Dec.{eqb}
use Rattle.std.proofs.Common.{arith}
use Rattle.std.proofs.lemmas.Bool.Decides.{nat_tests}
use Rattle.std.specs.Cmp.Lexicographic.{pointwise}
use Rattle.definitions.specs.File.{same_bytes}

either_way : (x y : ℕ) → eqb y x ≡ eqb x y
either_way x y = grind (arith, nat_tests)

-- two lists compared from the other side
pub compared : (xs ys : List ℕ) → pointwise eqb ys xs ≡ same_bytes xs ys
unfolding same_bytes
compared [] [] = refl
compared [] (y ∷ ys) = refl
compared (x ∷ xs) [] = refl
compared (x ∷ xs) (y ∷ ys) = ap₂ ◌&&◌ (either_way x y) (compared xs ys)

pub front_compared : (mark file : List ℕ) → length mark ≡ 3 → pointwise eqb mark (take (length mark) file) ≡ same_bytes (take 3 file) mark
front_compared mark file size = ap (λ n. pointwise eqb mark (take n file)) size ∙ compared (take 3 file) mark
