-- The record at the block's place is its own, or that of the leaf around it.
use mathlib.Core.Path.{sym, ◌∙◌}
use native.Mathlib.Omega.{arith}
use Rattle.summary.proofs.CountBlock.{room_at_first, place_room, leaf_counts, node_there, node_counts}
use Rattle.summary.proofs.count.count_block.Goals as goal

pub offset_bounds-list-place : goal.offset_bounds-list-place
offset_bounds-list-place c =
    let h = place_room c.args.list.now.own _ c.place-place.ensures in
    omega (arith, c.well_formed)

pub bounds-list-place : goal.bounds-list-place
bounds-list-place c = place_room c.args.list.now.own _ c.place-place.ensures

pub count_leaf-requires : goal.count_leaf-requires
count_leaf-requires c =
    (sym c.has_one_slot.ensures ∙ c.if-has_one_slot.true, room_at_first _ _ _ c.args.list.now.deepest c.requires.1)

pub count_node-end-requires : goal.count_node-end-requires
count_node-end-requires c =
    (node_there c.args.list.now.own _ c.place-place.ensures c.requires.0 c.requires.1 (sym c.has_one_slot.ensures ∙ c.if-has_one_slot.false), room_at_first _ _ _ c.args.list.now.deepest c.requires.1)

pub returns-then-has_one_slot : goal.returns-then-has_one_slot
returns-then-has_one_slot c =
    leaf_counts c.args.list.now.own _ c.place-place.ensures c.requires.0 c.requires.1 _ (sym c.has_one_slot.ensures ∙ c.if-has_one_slot.true) c.count_leaf.ensures

pub returns-else-has_one_slot : goal.returns-else-has_one_slot
returns-else-has_one_slot c =
    node_counts c.args.list.now.own _ c.place-place.ensures c.requires.0 c.requires.1 (sym c.has_one_slot.ensures ∙ c.if-has_one_slot.false) _ _ c.count_node-end.ensures
