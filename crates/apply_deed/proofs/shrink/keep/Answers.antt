-- `keep` meets its contract, by the meeting.
use borrow.Author.Rules.{rules}
use Rattle.apply_deed.proofs.ShrinkLaws.{kept_apart, kept_leaf}
use Rattle.apply_deed.proofs.shrink.keep.Goals as goal

pub returns-in-Apart : goal.returns-in-Apart
returns-in-Apart c = kept_apart _ (search rules) (search rules) (search rules)

pub returns-in-Leaf : goal.returns-in-Leaf
returns-in-Leaf c = kept_leaf _ (search rules)
