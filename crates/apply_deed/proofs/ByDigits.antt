-- The tally of a block by its four quadrants. Rests on build's laws of counting a block.
use Prim.Native.Nat.{ℕ, suc, ◌+◌, ◌-◌, ◌^◌, ◌≤◌, ◌<◌}
use mathlib.Core.Path.{◌≡◌, refl, ap}
use native.Mathlib.Omega.{arith}
use Rattle.keys.specs.Child.{child_of}
use Rattle.keys.specs.declared.block.TreeBlock.{TreeBlock}
use Rattle.definitions.specs.Picture.{Picture}
use Rattle.definitions.specs.Bits.{union_of_four}
use Rattle.build.specs.BuildBlocks.{Tallied, Joined}
use Rattle.build.proofs.CountBlock.{tallied_four, tallied_small}

pub few_below : {p : Picture} (b : TreeBlock) (d : ℕ) {q : TreeBlock} {x y : ℕ} → q ≡ child_of b d → b.height ≤ 10 → Tallied p q.height q.row q.column x y → y ≤ 5 ^ 9
few_below b d e deep t = let h = ap (λ x. x.height) e in tallied_small t (omega (arith, h))

pub four_tallied : {p : Picture} (b : TreeBlock) {q₁ q₂ q₃ q₄ : TreeBlock} {x₁ x₂ x₃ x₄ y₁ y₂ y₃ y₄ x y : ℕ} → 0 < b.height
    → q₁ ≡ child_of b 1 → q₂ ≡ child_of b 2 → q₃ ≡ child_of b 3 → q₄ ≡ child_of b 4
    → Tallied p q₁.height q₁.row q₁.column x₁ y₁
    → Tallied p q₂.height q₂.row q₂.column x₂ y₂
    → Tallied p q₃.height q₃.row q₃.column x₃ y₃
    → Tallied p q₄.height q₄.row q₄.column x₄ y₄
    → Joined (union_of_four x₁ x₂ x₃ x₄) (y₁ + (y₂ + (y₃ + y₄))) x y
    → Tallied p b.height b.row b.column x y
four_tallied {p} b positive e₁ e₂ e₃ e₄ =
    let k = b.height - 1 in
    let up : b.height ≡ suc k = omega arith in
    rw (e₁, e₂, e₃, e₄) (λ t₁ t₂ t₃ t₄ j. rw up (tallied_four p k (2 ^ k) b.row b.column refl t₁ t₂ t₃ t₄ j))
