-- `grow_all` meets its contract: there is nothing to grow, or `grow` does it.
use Rattle.apply_deed.proofs.Changing.{grown_all, grown_none}
use Rattle.apply_deed.proofs.change.grow_all.Goals as goal

pub returns-then-at : goal.returns-then-at
returns-then-at c = grown_none _ c.if-at.true

pub grow-requires : goal.grow-requires
grow-requires c = rw c.root.ensures c.requires

pub returns : goal.returns
returns c = grown_all _ c.root.ensures c.grow.ensures
