-- `write_leaf` meets its contract: the records below the leaf are written, and its own in front of them.
use Rattle.apply_deed.proofs.LeafWritten.{leaf_fits, leaf_room, leaf_wrote}
use Rattle.apply_deed.proofs.spread.write_leaf.Goals as goal

pub spread-grown-requires : goal.spread-grown-requires
spread-grown-requires c = let a = c.requires.leaf_asked in record {
  leaf_asked = a;
  fitting_before = leaf_fits _ c.requires.write_asked a.deep a.block;
}

pub bounds-keys-start : goal.bounds-keys-start
bounds-keys-start c = (leaf_room _ c.requires.write_asked c.spread-grown.ensures).0

pub bounds-bits-start : goal.bounds-bits-start
bounds-bits-start c = (leaf_room _ c.requires.write_asked c.spread-grown.ensures).1

pub returns : goal.returns
returns c = leaf_wrote _ c.requires.write_asked c.spread-grown.ensures
