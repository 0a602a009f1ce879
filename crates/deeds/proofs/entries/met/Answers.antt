-- `met` meets its contract: the entry holds the block, lies inside it, or is apart from it.
use Rattle.std.proofs.Common.{sym, ◌∙◌}
use Rattle.deeds.proofs.EntryTurns.{met_holds, met_parted, met_apart}
use Rattle.deeds.proofs.entries.met.Goals as goal

pub taken_back-requires : goal.taken_back-requires
taken_back-requires c = c.requires.2.held (sym c.holds.ensures ∙ c.if-holds.true)

pub returns-then-holds : goal.returns-then-holds
returns-then-holds c = c.taken_back.ensures ∙ met_holds _ _ _ _ _ (sym c.holds.ensures ∙ c.if-holds.true)

pub returns-then-holds-2 : goal.returns-then-holds-2
returns-then-holds-2 c = met_parted _ _ _ _ _ (sym c.holds.ensures ∙ c.if-holds.false) (sym c.holds-2.ensures ∙ c.if-holds-2.true)

pub returns : goal.returns
returns c = met_apart _ _ _ _ _ (sym c.holds.ensures ∙ c.if-holds.false) (sym c.holds-2.ensures ∙ c.if-holds-2.false)
