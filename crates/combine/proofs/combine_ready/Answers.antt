-- `combine::combine_ready`: too little room leaves all as it was, and else the records below the root and the root's own are the whole list. Rests on
-- WholeLists.
use Rattle.std.proofs.Common.{◌≤◌, length, sym, ◌∙◌, arith}
use borrow.Author.Tests.{leb-true}
use Rattle.definitions.specs.Read.{room}
use Rattle.combine.specs.Ready.{list_combined}
use Rattle.combine.proofs.WholeLists.{root_fits, root_places, has_answer}
use Rattle.combine.proofs.combine_ready.Goals as goal

pub write_block-root-requires : goal.write_block-root-requires
write_block-root-requires c =
    let h = leb-true _ _ (sym c.has_room.ensures ∙ c.if-not-has_room.false) in
    root_fits c.requires (omega arith) c.root.ensures c.at_roots.ensures

pub bounds-keys-0 : goal.bounds-keys-0
bounds-keys-0 c =
    let h = leb-true _ _ (sym c.has_room.ensures ∙ c.if-not-has_room.false) in
    let fits : length (list_combined c.args.first.now c.args.second.now c.args.table.now c.args.s2) ≤ room c.args.keys.now c.args.bits.now = omega arith in
    (root_places c.requires fits c.root.ensures c.at_roots.ensures c.write_block-root.ensures).0

pub bounds-bits-0 : goal.bounds-bits-0
bounds-bits-0 c =
    let h = leb-true _ _ (sym c.has_room.ensures ∙ c.if-not-has_room.false) in
    let fits : length (list_combined c.args.first.now c.args.second.now c.args.table.now c.args.s2) ≤ room c.args.keys.now c.args.bits.now = omega arith in
    (root_places c.requires fits c.root.ensures c.at_roots.ensures c.write_block-root.ensures).1

pub returns : goal.returns
returns c =
    let h = leb-true _ _ (sym c.has_room.ensures ∙ c.if-not-has_room.false) in
    let fits : length (list_combined c.args.first.now c.args.second.now c.args.table.now c.args.s2) ≤ room c.args.keys.now c.args.bits.now = omega arith in
    has_answer c.requires fits c.root.ensures c.at_roots.ensures c.write_block-root.ensures
