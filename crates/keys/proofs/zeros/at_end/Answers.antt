-- `zeros::at_end` meets its contract: the root's digits are all zeros, and of any other key after each turn one zero more is passed.
use Prim.Native.Nat.{ℕ, ◌^◌}
use mathlib.Core.Path.{◌≡◌, ◌∙◌, sym, ap}
use native.Mathlib.Omega.{arith}
use Rattle.keys.specs.Key.{zeros_at_end}
use Rattle.keys.proofs.Powers.{five_le, five_next}
use Rattle.keys.proofs.LastZeros.{zeros_root, zeros_turn, zeros_stop, zeros_end}
use Rattle.keys.proofs.zeros.at_end.Goals as goal

-- the root
root : (m key : ℕ) → key ≡ 0 → m ≡ zeros_at_end m key
root m key e = sym (ap (zeros_at_end m) e ∙ zeros_root m)

pub returns-then-key-eq0 : goal.returns-then-key-eq0
returns-then-key-eq0 c = let e = root _ _ c.if-key-eq0.true in (e, c.power_of_five.ensures ∙ ap (λ k. 5 ^ k) e)

pub returns-then-rest-ne0 : goal.returns-then-rest-ne0
returns-then-rest-ne0 c =
    let l = c.loop-count in
    let e = zeros_stop _ _ l.count l.rest l.invariant.1 c.if-rest-ne0.true in
    (e, l.invariant.0 ∙ ap (λ k. 5 ^ k) e)

pub overflow_mul-power : goal.overflow_mul-power
overflow_mul-power c = let h = five_le {k = c.loop-count.count} 10 (omega arith) in omega arith

pub loop-count-preserved : goal.loop-count-preserved
loop-count-preserved c =
    let l = c.loop-count in
    (five_next _ _ l.invariant.0, zeros_turn _ _ l.count l.rest l.invariant.1 (omega arith) c.if-rest-ne0.false)

pub returns : goal.returns
returns c =
    let l = c.loop-count in
    let e = zeros_end _ _ l.count l.rest l.invariant.1 (omega arith) in
    let all : l.count ≡ c.args.m = omega arith in
    (sym all ∙ e, l.invariant.0 ∙ ap (λ k. 5 ^ k) e)
