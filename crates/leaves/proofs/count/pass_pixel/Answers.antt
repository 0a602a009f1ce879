-- `count::pass_pixel`: no leaf is left, the next is another, or it is the pixel.
use mathlib.Core.Path.{refl}
use Rattle.leaves.proofs.PassBlock.{lost_none, passed_leaf, lost_other}
use Rattle.leaves.proofs.count.pass_pixel.Goals as goal

pub returns-then-keys-at : goal.returns-then-keys-at
returns-then-keys-at c = lost_none _ c.args.features.now _ _ c.if-keys-at.true

pub returns-then-keys-at-2 : goal.returns-then-keys-at-2
returns-then-keys-at-2 c = lost_other _ c.args.features.now _ _ c.if-keys-at.false c.if-keys-at-2.true refl

pub returns : goal.returns
returns c = rw c.pass_leaf.ensures (passed_leaf _ _ _ _ c.if-keys-at.false c.if-keys-at-2.false)
