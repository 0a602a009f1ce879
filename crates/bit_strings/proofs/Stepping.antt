-- The code's step past one block is the model's, one law for each way out. Rests on Passing.
use Prim.Native.Nat.{ℕ, zero, suc, ◌+◌, ◌/◌, ◌^◌}
use mathlib.Core.Path.{◌≡◌, refl, sym, ap, ◌∙◌}
use Rattle.std.specs.Prelude.{Some, None}
use mathlib.Core.Bool.{Bool, true, false}
use mathlib.Core.List.{List, [], ◌∷◌}
use native.Mathlib.Nat.{pow-suc}
use native.Mathlib.Omega.{arith}
use lib.ListN.{drop}
use borrow.Author.Tests.{eq-eqb, ne_eqb}
use Rattle.keys.specs.Key.{zeros_at_end}
use Rattle.definitions.specs.BitStrings.{four_equal}
use Rattle.bit_strings.specs.Steps.{next_bit, passed}
use Rattle.bit_strings.proofs.Passing.{after_leaf, after_inner}

power_one : (k : ℕ) → 5 ^ k ≡ 1 → k ≡ 0
power_one zero e = refl
power_one (suc k) e = let p = pow-suc 5 k in absurd (omega arith)

power_more : (k : ℕ) → (5 ^ k ≡ 1 → ⊥) → k ≡ 0 → ⊥
power_more k e z = e (ap (λ j. 5 ^ j) z)

module _ (m x step : ℕ) (is : step ≡ 5 ^ zeros_at_end m x) where
  pub pass_no_leaf : (nodes leaves : List Bool) → next_bit nodes ≡ 1 → next_bit leaves ≡ 2 → None ≡ passed m x nodes leaves
  unfolding passed next_bit
  pass_no_leaf [] leaves e f = refl
  pass_no_leaf (true ∷ nodes) [] e f = refl
  pass_no_leaf (true ∷ nodes) (true ∷ leaves) e f = absurd (omega arith)
  pass_no_leaf (true ∷ nodes) (false ∷ leaves) e f = absurd (omega arith)
  pass_no_leaf (false ∷ nodes) leaves e f = absurd (omega arith)

  pub pass_leaf : (nodes leaves : List Bool) → next_bit nodes ≡ 1 → (next_bit leaves ≡ 2 → ⊥) → Some (record { key = x + step; leaf = true }) ≡ passed m x nodes leaves
  unfolding passed next_bit
  pass_leaf [] leaves e f = absurd (omega arith)
  pass_leaf (true ∷ nodes) [] e f = absurd (f refl)
  pass_leaf (true ∷ nodes) (b ∷ leaves) e f = sym (λ i. Some (record { key = (after_leaf m x ∙ ap (λ k. x + k) (sym is)) i; leaf = true }))
  pass_leaf (false ∷ nodes) leaves e f = absurd (omega arith)

  pub pass_none : (nodes leaves : List Bool) → next_bit nodes ≡ 2 → None ≡ passed m x nodes leaves
  unfolding passed next_bit
  pass_none [] leaves e = refl
  pass_none (true ∷ nodes) leaves e = absurd (omega arith)
  pass_none (false ∷ nodes) leaves e = absurd (omega arith)

  pub pass_deep : (nodes leaves : List Bool) → (next_bit nodes ≡ 1 → ⊥) → (next_bit nodes ≡ 2 → ⊥) → step ≡ 1 → None ≡ passed m x nodes leaves
  unfolding passed next_bit
  pass_deep [] leaves e f one = refl
  pass_deep (true ∷ nodes) leaves e f one = absurd (e refl)
  pass_deep (false ∷ nodes) leaves e f one = rw (eq-eqb (zeros_at_end m x) 0 (power_one (zeros_at_end m x) (sym is ∙ one))) refl

  pub pass_equal : (nodes leaves : List Bool) → (next_bit nodes ≡ 1 → ⊥) → (next_bit nodes ≡ 2 → ⊥) → (step ≡ 1 → ⊥)
      → four_equal (drop 1 nodes) leaves ≡ true → None ≡ passed m x nodes leaves
  unfolding passed next_bit
  pass_equal [] leaves e f more four = refl
  pass_equal (true ∷ nodes) leaves e f more four = absurd (e refl)
  pass_equal (false ∷ nodes) leaves e f more four =
      rw (ne_eqb (zeros_at_end m x) 0 (power_more (zeros_at_end m x) (λ one. more (is ∙ one))), four) refl

  pub pass_inner : (nodes leaves : List Bool) → (next_bit nodes ≡ 1 → ⊥) → (next_bit nodes ≡ 2 → ⊥) → (step ≡ 1 → ⊥)
      → four_equal (drop 1 nodes) leaves ≡ false → Some (record { key = x + step / 5; leaf = false }) ≡ passed m x nodes leaves
  unfolding passed next_bit
  pass_inner [] leaves e f more four = absurd (f refl)
  pass_inner (true ∷ nodes) leaves e f more four = absurd (e refl)
  pass_inner (false ∷ nodes) leaves e f more four =
      rw (ne_eqb (zeros_at_end m x) 0 (power_more (zeros_at_end m x) (λ one. more (is ∙ one))), four)
      (sym (λ i. Some (record { key = (after_inner m x ∙ ap (λ k. x + k / 5) (sym is)) i; leaf = false })))
