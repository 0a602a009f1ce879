-- The keys of a quadrant, by its digit: a fifth of the block's. Rests on Powers.
use Prim.Native.Nat.{ℕ, suc, ◌+◌, ◌/◌, ◌^◌, ◌<◌}
use mathlib.Core.Path.{◌≡◌, ap, ◌∙◌}
use native.Mathlib.Omega.{arith}
use native.Mathlib.Nat.{pow-suc, one-mul}
use Rattle.keys.specs.Span.{child_span}
use Rattle.keys.specs.declared.span.KeySpan.{KeySpan}
use Rattle.keys.proofs.Powers.{five_pos}

-- a fifth of a step is the step of a quadrant
pub fifth_of : {step : ℕ} (k : ℕ) → step ≡ 5 ^ suc k → step / 5 ≡ 5 ^ k
fifth_of k e = let f = pow-suc 5 k in omega arith

-- and it is less
pub child_fewer : (span : KeySpan) (k d : ℕ) {child : KeySpan} → child ≡ child_span span d → span.step ≡ 5 ^ k → child.step < span.step
child_fewer span k d e f = let h = five_pos k in let g = ap (λ x. x.step) e in omega (arith, g)

-- the first quadrant's, with no factor
pub child_first : (span : KeySpan) {child : KeySpan} → child ≡ child_span span 1 → ◌≡◌ {A = KeySpan} child (record { key = span.key + span.step / 5; step = span.step / 5 })
child_first span e = e ∙ ap (λ x. record { key = span.key + x; step = span.step / 5 }) (one-mul (span.step / 5))
