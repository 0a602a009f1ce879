-- A block is written as well when its quadrants are written from the last to the first: their runs do not meet. Rests on build's WrittenBlock.
use Prim.Native.Nat.{ℕ, suc, ◌+◌, ◌^◌, ◌≤◌}
use mathlib.Core.Path.{◌≡◌, refl, sym, ◌∙◌, ap}
use mathlib.Core.List.{List, map}
use native.Mathlib.Omega.{arith}
use lib.ListN.{length}
use lib.Seq.{sets}
use Rattle.keys.specs.Key.{child_key}
use Rattle.definitions.specs.Picture.{Picture}
use Rattle.definitions.specs.List.{Record, list_of}
use Rattle.slices.proofs.Sets.{sets_apart}
use Rattle.build.specs.BuildBlocks.{Written, FourWritten, below}
use Rattle.build.proofs.WrittenBlock.{length_run, written_four}

-- four runs that do not meet, stored from the last to the first
runs_turned : (l : List ℕ) (a b c d : ℕ) (s t u v : List ℕ) → a + length s ≤ b → b + length t ≤ c → c + length u ≤ d
    → sets (sets (sets (sets l d v) c u) b t) a s ≡ sets (sets (sets (sets l a s) b t) c u) d v
runs_turned l a b c d s t u v h i j =
    sym (sets_apart (sets (sets l d v) c u) a b s t h)
    ∙ ap (λ q. sets q b t) (sym (sets_apart (sets l d v) a c s u (omega arith)))
    ∙ ap (λ q. sets (sets q c u) b t) (sym (sets_apart l a d s v (omega arith)))
    ∙ sym (sets_apart (sets (sets l a s) d v) b c t u i)
    ∙ ap (λ q. sets q c u) (sym (sets_apart (sets l a s) b d t v (omega arith)))
    ∙ sym (sets_apart (sets (sets l a s) b t) c d u v j)

-- one of the two numbers of each record of four quadrants
module _ (f : Record → ℕ) (p : Picture) (k r c κ : ℕ) where
  turned : (l l₁ l₂ l₃ l₄ : List ℕ) (i₁ i₂ i₃ i₄ : ℕ)
      → i₂ ≡ i₁ + length (list_of p k r c (child_key κ k 1))
      → i₃ ≡ i₂ + length (list_of p k r (c + 2 ^ k) (child_key κ k 2))
      → i₄ ≡ i₃ + length (list_of p k (r + 2 ^ k) c (child_key κ k 3))
      → l₄ ≡ sets l (i₄ + 1) (map f (below p k (r + 2 ^ k) (c + 2 ^ k) (child_key κ k 4)))
      → l₃ ≡ sets l₄ (i₃ + 1) (map f (below p k (r + 2 ^ k) c (child_key κ k 3)))
      → l₂ ≡ sets l₃ (i₂ + 1) (map f (below p k r (c + 2 ^ k) (child_key κ k 2)))
      → l₁ ≡ sets l₂ (i₁ + 1) (map f (below p k r c (child_key κ k 1)))
      → l₁ ≡ sets (sets (sets (sets l (i₁ + 1) (map f (below p k r c (child_key κ k 1))))
      (i₂ + 1) (map f (below p k r (c + 2 ^ k) (child_key κ k 2))))
      (i₃ + 1) (map f (below p k (r + 2 ^ k) c (child_key κ k 3))))
      (i₄ + 1) (map f (below p k (r + 2 ^ k) (c + 2 ^ k) (child_key κ k 4)))
  turned l l₁ l₂ l₃ l₄ i₁ i₂ i₃ i₄ e₂ e₃ e₄ h₄ h₃ h₂ h₁ =
      let n₁ = length_run f p k r c (child_key κ k 1) in
      let n₂ = length_run f p k r (c + 2 ^ k) (child_key κ k 2) in
      let n₃ = length_run f p k (r + 2 ^ k) c (child_key κ k 3) in
      h₁ ∙ ap (λ q. sets q (i₁ + 1) (map f (below p k r c (child_key κ k 1))))
      (h₂ ∙ ap (λ q. sets q (i₂ + 1) (map f (below p k r (c + 2 ^ k) (child_key κ k 2))))
      (h₃ ∙ ap (λ q. sets q (i₃ + 1) (map f (below p k (r + 2 ^ k) c (child_key κ k 3)))) h₄))
      ∙ runs_turned l (i₁ + 1) (i₂ + 1) (i₃ + 1) (i₄ + 1)
      (map f (below p k r c (child_key κ k 1)))
      (map f (below p k r (c + 2 ^ k) (child_key κ k 2)))
      (map f (below p k (r + 2 ^ k) c (child_key κ k 3)))
      (map f (below p k (r + 2 ^ k) (c + 2 ^ k) (child_key κ k 4)))
      (omega arith) (omega arith) (omega arith)

-- THE LAW: a block is written once its quadrants are, the last first, and their own records stand before them
pub written_backward : (p : Picture) (k r c κ place : ℕ)
    {keys bits keys₁ bits₁ keys₂ bits₂ keys₃ bits₃ keys₄ bits₄ keys' bits' : List ℕ} {b₁ b₂ b₃ b₄ i₂ i₃ i₄ end b n : ℕ}
    → Written p k (r + 2 ^ k) (c + 2 ^ k) (child_key κ k 4) i₄ keys bits keys₄ bits₄ b₄ end
    → Written p k (r + 2 ^ k) c (child_key κ k 3) i₃ keys₄ bits₄ keys₃ bits₃ b₃ i₄
    → Written p k r (c + 2 ^ k) (child_key κ k 2) i₂ keys₃ bits₃ keys₂ bits₂ b₂ i₃
    → Written p k r c (child_key κ k 1) (place + 1) keys₂ bits₂ keys₁ bits₁ b₁ i₂
    → FourWritten κ (5 ^ k) place b₁ b₂ b₃ b₄ i₂ i₃ i₄ end keys₁ bits₁ keys' bits' b n
    → Written p (suc k) r c κ place keys bits keys' bits' b n
written_backward p k r c κ place {keys} {bits} {keys₁} {bits₁} {keys₂} {bits₂} {keys₃} {bits₃} {keys₄} {bits₄} {i₂ = i₂} {i₃} {i₄} w₄ w₃ w₂ w₁ four =
    written_four p k r c κ place
    (record { union_is = w₁.union_is; next-is = w₁.next-is; keys_are = refl; bits_are = refl })
    (record { union_is = w₂.union_is; next-is = w₂.next-is; keys_are = refl; bits_are = refl })
    (record { union_is = w₃.union_is; next-is = w₃.next-is; keys_are = refl; bits_are = refl })
    (record {
      union_is = w₄.union_is;
      next-is = w₄.next-is;
      keys_are = turned (λ x. x.key) p k r c κ keys keys₁ keys₂ keys₃ keys₄ (place + 1) i₂ i₃ i₄ w₁.next-is w₂.next-is w₃.next-is w₄.keys_are w₃.keys_are w₂.keys_are w₁.keys_are;
      bits_are = turned (λ x. x.value) p k r c κ bits bits₁ bits₂ bits₃ bits₄ (place + 1) i₂ i₃ i₄ w₁.next-is w₂.next-is w₃.next-is w₄.bits_are w₃.bits_are w₂.bits_are w₁.bits_are;
    })
    four
