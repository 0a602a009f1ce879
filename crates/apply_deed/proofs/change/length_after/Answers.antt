-- `length_after` meets its contract.
use Rattle.apply_deed.proofs.Asked.{shown_here}
use Rattle.apply_deed.proofs.Changing.{shown_whole, length-told}
use Rattle.apply_deed.proofs.change.length_after.Goals as goal

pub tally_records-requires : goal.tally_records-requires
tally_records-requires c = let list = c.args.list.now in shown_here c.requires (shown_whole c.root-root.ensures list.deepest list.own)

pub returns : goal.returns
returns c = let list = c.args.list.now in length-told _ list.deepest list.own c.root-root.ensures c.tally_records.ensures
