-- `fill::value_at`: an inner node, and a leaf of either feature. Rests on Answers.
use borrow.Author.Tests.{eq-eqb}
use Rattle.bit_strings.proofs.Answers.{value_found, value_none}
use Rattle.bit_strings.proofs.fill.value_at.Goals as goal

pub returns-in-Some : goal.returns-in-Some
returns-in-Some c = rw (c.from.ensures, eq-eqb c.args.leaf 1 c.if-leaf-ne1.false) (value_found _ _ c.in-Some.ensures)

pub returns-in-None : goal.returns-in-None
returns-in-None c = rw (eq-eqb c.args.leaf 1 c.if-leaf-ne1.false) (value_none _ c.in-None.ensures)
