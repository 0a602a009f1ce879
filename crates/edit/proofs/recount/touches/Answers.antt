-- The block's key and its height are those of the summary's block.
use Prim.Native.Nat.{ℕ, ◌+◌, ◌^◌, ◌≤◌, ◌<◌}
use mathlib.Core.Path.{◌≡◌, sym, ◌∙◌, ap, ap₂}
use mathlib.Core.Bool.{false, ◌&&◌}
use native.Mathlib.Omega.{arith}
use lib.Dec.{ltb}
use borrow.Author.Tests.{le-ltb, lt-ltb}
use Rattle.keys.specs.Key.{zeros_at_end}
use Rattle.keys.proofs.LastZeros.{keys_height}
use Rattle.keys.proofs.Powers.{five_le}
use Rattle.keys.proofs.Valid.{valid_below}
use Rattle.definitions.specs.Area.{summary_level, summary_height, block_key}
use Rattle.summary.proofs.BlockNumbers.{key_valid, key_height}
use Rattle.edit.proofs.recount.touches.Goals as goal

-- the key that was found ends its interval a step on
step_is : (m b other step : ℕ) → b < 4 ^ summary_level m → other ≡ block_key m b → step ≡ 5 ^ zeros_at_end m other → step ≡ 5 ^ summary_height m
step_is m b other step h e f =
    f ∙ ap (λ x. 5 ^ zeros_at_end m x) e ∙ keys_height m (block_key m b) (key_valid m b h) ∙ ap (λ k. 5 ^ k) (key_height m b h)

-- and that end is small
end_small : (m b other step : ℕ) → m ≤ 10 → b < 4 ^ summary_level m → other ≡ block_key m b → step ≡ 5 ^ summary_height m → other + step < 2 ^ 32
end_small m b other step deep h e f =
    let a = valid_below m (block_key m b) (key_valid m b h) in
    let c = five_le {k = m} 10 deep in
    let d = five_le {k = summary_height m} 10 (omega arith) in
    omega arith

-- apart before it
none_touch : (m b key end other : ℕ) → other ≡ block_key m b → end ≤ other → false ≡ (ltb (block_key m b) end && ltb key (block_key m b + 5 ^ summary_height m))
none_touch m b key end other e h = sym (ap (λ t. t && ltb key (block_key m b + 5 ^ summary_height m)) (le-ltb (block_key m b) end (omega arith)))

-- else the second test decides
then_touch : (m b key end other step : ℕ) → other ≡ block_key m b → other < end → step ≡ 5 ^ summary_height m
    → ltb key (other + step) ≡ (ltb (block_key m b) end && ltb key (block_key m b + 5 ^ summary_height m))
then_touch m b key end other step e h f =
    ap₂ (λ x y. ltb key (x + y)) e f ∙ sym (ap (λ t. t && ltb key (block_key m b + 5 ^ summary_height m)) (lt-ltb (block_key m b) end (omega arith)))

pub overflow_add-result : goal.overflow_add-result
overflow_add-result c =
    let is = step_is c.args.m c.args.b _ _ c.requires.1 c.key_of-other.ensures c.keys_in.ensures in
    record { fits = end_small c.args.m c.args.b _ _ c.requires.0 c.requires.1 c.key_of-other.ensures is }

pub returns-else-other-end : goal.returns-else-other-end
returns-else-other-end c = le-ltb _ _ c.if-other-end.false ∙ none_touch _ _ _ _ _ c.key_of-other.ensures c.if-other-end.false

pub returns-then-other-end : goal.returns-then-other-end
returns-then-other-end c =
    then_touch c.args.m c.args.b _ _ _ _ c.key_of-other.ensures c.if-other-end.true
    (step_is c.args.m c.args.b _ _ c.requires.1 c.key_of-other.ensures c.keys_in.ensures)
