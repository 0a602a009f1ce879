-- `shrink_leaf` meets its contract: the leaf is counted, and one record is written.
use Rattle.apply_deed.proofs.ShrinkLaws.{leaf_shrunk}
use Rattle.apply_deed.proofs.shrink.shrink_leaf.Goals as goal

pub returns : goal.returns
returns c = leaf_shrunk _ _ c.requires.leaf_asked.leaf c.tally_leaf-tally.ensures c.bits_left.ensures
