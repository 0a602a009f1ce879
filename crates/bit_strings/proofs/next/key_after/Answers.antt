-- `next::key_after`: the two ways of going on.
use Rattle.bit_strings.proofs.Passing.{key_leaf, key_inner}
use Rattle.keys.proofs.LastZeros.{keys_most}
use Rattle.keys.proofs.Powers.{five_le}
use native.Mathlib.Omega.{arith}
use borrow.Author.Tests.{eq-eqb, ne_eqb}
use Rattle.bit_strings.proofs.next.key_after.Goals as goal

pub overflow_add-result : goal.overflow_add-result
overflow_add-result c =
    let h = five_le 10 c.requires.0 in
    omega (arith, keys_most c.args.m c.args.key, c.keys_in-step.ensures, c.requires.1)

pub returns-then-leaf-eq1 : goal.returns-then-leaf-eq1
returns-then-leaf-eq1 c = key_leaf _ _ _ _ c.keys_in-step.ensures (eq-eqb c.args.leaf 1 c.if-leaf-eq1.true)

pub overflow_add-result-2 : goal.overflow_add-result-2
overflow_add-result-2 c =
    let h = five_le 10 c.requires.0 in
    omega (arith, keys_most c.args.m c.args.key, c.keys_in-step.ensures, c.requires.1)

pub returns : goal.returns
returns c = key_inner _ _ _ _ c.keys_in-step.ensures (ne_eqb c.args.leaf 1 c.if-leaf-eq1.false)
