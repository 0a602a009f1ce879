-- What is read of a number tells whether it is a key. Rests on Cases.
use Prim.Native.Nat.{ℕ}
use mathlib.Core.Path.{◌≡◌, ap, ◌∙◌}
use mathlib.Core.Bool.{true, false, cond}
use Rattle.std.specs.Prelude.{Some, None}
use Rattle.keys.specs.Key.{valid_key}
use Rattle.keys.specs.KeySquare.{square_of_key, square_read}
use Rattle.keys.specs.declared.Square.{Square}
use Rattle.keys.proofs.Cases.{decide}

-- only a key has a square, which is its own
pub read_some : (m κ : ℕ) (s : Square) → Some s ≡ square_read m κ → (valid_key m κ ≡ true) × (s ≡ square_of_key m κ)
read_some m κ s e =
    decide (valid_key m κ)
    (λ t. (t, (let g = e ∙ ap (λ b. cond b (Some (square_of_key m κ)) None) t in cc)))
    (λ f. let g = e ∙ ap (λ b. cond b (Some (square_of_key m κ)) None) f in absurd (cc))

-- what is no key has none
pub read_none : (m κ : ℕ) → None ≡ square_read m κ → valid_key m κ ≡ false
read_none m κ e = decide (valid_key m κ) (λ t. let g = e ∙ ap (λ b. cond b (Some (square_of_key m κ)) None) t in absurd (cc)) (λ f. f)
