-- `pack::bit_of`: the two strings, an inner node and a leaf in each. Rests on Packing.
use borrow.Author.Tests.{eq-eqb, ne_eqb}
use Rattle.bit_strings.proofs.Packing.{node_inner, node_leaf, leaf_none, leaf_some}
use Rattle.bit_strings.proofs.pack.bit_of.Goals as goal

pub returns-then-inner : goal.returns-then-inner
returns-then-inner c = node_inner _ c.args.value c.if-not-leaves.true (eq-eqb _ _ c.if-inner.true)

pub returns-then-not-leaves : goal.returns-then-not-leaves
returns-then-not-leaves c = node_leaf _ c.args.value c.if-not-leaves.true (ne_eqb _ _ c.if-inner.false)

pub returns-then-inner-2 : goal.returns-then-inner-2
returns-then-inner-2 c = leaf_none _ c.args.value c.if-not-leaves.false (eq-eqb _ _ c.if-inner-2.true)

pub returns : goal.returns
returns c = leaf_some _ c.args.value c.if-not-leaves.false (ne_eqb _ _ c.if-inner-2.false)
