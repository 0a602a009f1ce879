-- `check_file::holds_list`: the map is the block of the root. Rests on FileList.
use Rattle.list.proofs.Content.{root_valid}
use Rattle.file.proofs.FileList.{all_laid, root_decides}
use Rattle.file.proofs.check_file.holds_list.Goals as goal

pub holds_block-requires : goal.holds_block-requires
holds_block-requires c = (all_laid c.requires _ c.width-width.ensures, c.requires.deepest, c.requires.slots, root_valid c.args.head.m)

pub returns : goal.returns
returns c = root_decides c.requires _ c.width-width.ensures c.holds_block.result c.holds_block.ensures
