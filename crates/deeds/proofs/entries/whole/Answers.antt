-- `whole` meets its contract.
use Rattle.deeds.proofs.EntryTurns.{whole_leaf, whole_content}
use Rattle.deeds.proofs.entries.whole.Goals as goal

pub returns-then-count-eq1 : goal.returns-then-count-eq1
returns-then-count-eq1 c = whole_leaf _ _ c.if-count-eq1.true

pub returns : goal.returns
returns c = whole_content _ _ c.if-count-eq1.false
