-- The summary's places of one feature add up to the feature's pixels: of the whole raster over all blocks, and of a block of the map over the
-- summary's blocks that lie under it. Rests on SummaryOf and CountsApart.
use Prim.Native.Nat.{ℕ, zero, suc, ◌+◌, ◌*◌, ◌^◌, ◌<◌}
use mathlib.Core.Path.{◌≡◌, refl, sym, ◌∙◌, ap, ap₂}
use mathlib.Core.Bool.{true}
use mathlib.Core.List.{List, ◌++◌}
use native.Mathlib.Nat.{add-zero, add-suc, add-mul, mul-le-mul_right, suc-mul}
use native.Mathlib.Omega.{arith}
use lib.ListN.{length, get_or, get_or-append}
use lib.Seq.{get_or-append-add}
use Rattle.keys.specs.Key.{valid_key, height_of}
use Rattle.keys.specs.Block.{row_of, column_of}
use Rattle.keys.proofs.Valid.{valid_block}
use Rattle.definitions.specs.Picture.{Picture}
use Rattle.definitions.specs.Edit.{put}
use Rattle.definitions.specs.Area.{pixels_with, summary_level, summary_height, block_key, sum_below}
use Rattle.laws.proofs.Features.{one_from_leaf}
use Rattle.laws.proofs.CountOf.{pixels_none}
use Rattle.laws.proofs.SummaryOf.{summary_block}
use Rattle.laws.proofs.CountsApart.{Apart, put_apart}

-- sums of so many numbers: equal terms, and a sum in two parts
pub within_same : (g h : ℕ → ℕ) (n : ℕ) → ((i : ℕ) → i < n → g i ≡ h i) → sum_below g n ≡ sum_below h n
unfolding sum_below
within_same g h zero e = refl
within_same g h (suc n) e = ap₂ (λ x y. x + y) (within_same g h n (λ i j. e i (omega arith))) (e n (omega arith))

two_parts : (g : ℕ → ℕ) (a b : ℕ) → sum_below g (a + b) ≡ sum_below g a + sum_below (λ i. g (a + i)) b
unfolding sum_below
two_parts g a zero = ap (sum_below g) (add-zero a) ∙ sym (add-zero _)
two_parts g a (suc b) = ap (sum_below g) (add-suc a b) ∙ (let e = two_parts g a b in omega arith)

-- what stands at the places of feature f in so many blocks of s places each
abbrev pub places_of : List ℕ → ℕ → ℕ → ℕ → ℕ
places_of l s f blocks = sum_below (λ b. get_or l (b * s + f) 0) blocks

module _ (s f : ℕ) (h : f < s) where
  places-append : (xs ys : List ℕ) (n k : ℕ) → length xs ≡ n * s → places_of (xs ++ ys) s f (n + k) ≡ places_of xs s f n + places_of ys s f k
  places-append xs ys n k long =
      two_parts (λ b. get_or (xs ++ ys) (b * s + f) 0) n k
      ∙ ap₂ (λ x y. x + y)
      (within_same _ _ n (λ b i. get_or-append xs ys 0 (b * s + f) (before b i)))
      (within_same _ _ k (λ b i. ap (λ j. get_or (xs ++ ys) j 0) (behind b) ∙ get_or-append-add xs ys (b * s + f) 0))
    where
      before : (b : ℕ) → b < n → b * s + f < length xs
      before b i = let e = suc-mul b s in let g = mul-le-mul_right {m = suc b} {n = n} s i in omega arith

      behind : (b : ℕ) → (n + b) * s + f ≡ length xs + (b * s + f)
      behind b = let e = add-mul n b s in omega arith

-- the count of feature f in block number b
abbrev numbered : ℕ → Picture → ℕ → ℕ → ℕ
numbered m p f b = pixels_with p (summary_height m) (row_of m (block_key m b)) (column_of m (block_key m b)) f

module _ (m : ℕ) (p : Picture) (f κ : ℕ) (valid : valid_key m κ ≡ true) where
  -- the picture inside the block, and around it pixels of another feature
  framed : Picture
  framed = put m κ p (λ row column. suc f)

  module _ (b : ℕ) (h : b < 4 ^ summary_level m) where
    -- and one apart from it
    apart_none : Apart (height_of m κ) κ (summary_height m) (block_key m b) → numbered m framed f b ≡ 0
    unfolding framed
    apart_none apart =
        put_apart (valid_block m κ valid) (summary_block m 0 p b h) apart p (λ row column. suc f) f
        ∙ pixels_none (λ row column. suc f) _ _ _ (one_from_leaf (λ row column. suc f) (suc f) _ _ _ (λ r c w. refl)) f (λ e. omega arith)
