-- A block's two digits are those of its number in base 4, each one more.
use Prim.Native.Nat.{ℕ, ◌+◌, ◌*◌, ◌/◌, ◌%◌, ◌-◌, ◌^◌, ◌≤◌}
use mathlib.Core.Path.{◌≡◌, ap, ◌∙◌}
use native.Mathlib.Omega.{arith}
use Rattle.definitions.specs.Area.{block_key}
use Rattle.summary.proofs.BlockNumbers.{number_most, key_none, key_one, key_two, key_fits}
use Rattle.summary.proofs.blocks.key_of.Goals as goal

pub returns-then-m-eq0 : goal.returns-then-m-eq0
returns-then-m-eq0 c = key_none c.args.m c.args.b (omega arith)

pub overflow_cast-number : goal.overflow_cast-number
overflow_cast-number c = let h = number_most c.args.m in omega (arith, c.requires.1)

pub returns-then-m-eq1 : goal.returns-then-m-eq1
returns-then-m-eq1 c = key_one c.args.m c.args.b (omega arith)

pub overflow_mul-result-2 : goal.overflow_mul-result-2
overflow_mul-result-2 c =
    let h = number_most c.args.m in
    record { fits = key_fits c.args.b _ c.args.m (omega (arith, c.requires.1)) c.power_of_five-step.ensures c.requires.0 }

stepped : (m b step : ℕ) → step ≡ 5 ^ (m - 2) → 2 ≤ m → (b / 4 * 5 + b % 4 + 6) * step ≡ block_key m b
stepped m b step e h = ap (λ x. (b / 4 * 5 + b % 4 + 6) * x) e ∙ key_two m b h

pub returns : goal.returns
returns c = stepped c.args.m c.args.b _ c.power_of_five-step.ensures (omega arith)
