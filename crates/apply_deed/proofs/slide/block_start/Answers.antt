-- `block_start` meets its contract: among keys that ascend the search finds a key that is there.
use Rattle.apply_deed.proofs.Sliding.{first_sorted, start_found}
use Rattle.apply_deed.proofs.slide.block_start.Goals as goal

pub place-requires : goal.place-requires
place-requires c = first_sorted c.requires

pub returns : goal.returns
returns c = start_found c.requires c.place.ensures
