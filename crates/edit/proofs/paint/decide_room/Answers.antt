-- Each way out answers what the table's last two rows say there.
use native.Mathlib.Omega.{arith}
use Rattle.edit.proofs.PaintRoom.{content_small, entry_told, plan_small, painted_told, paint_goes}
use Rattle.edit.proofs.PaintTable.{log_full, list_full, room_enough}
use Rattle.edit.proofs.paint.decide_room.Goals as goal

pub places-requires : goal.places-requires
places-requires c =
    let h = content_small c.args.list.now c.args.in_force c.args.key c.args.feature c.requires.block.0 _ c.stand-standing.ensures in
    omega (arith, h, c.content_count-count.ensures, c.well_formed)

pub overflow_add-in_force : goal.overflow_add-in_force
overflow_add-in_force c =
    let h = content_small c.args.list.now c.args.in_force c.args.key c.args.feature c.requires.block.0 _ c.stand-standing.ensures in
    omega (arith, h, c.content_count-count.ensures, c.places.ensures, c.requires.log, c.well_formed)

pub returns-then-log_room-in_force-clause-told : goal.returns-then-log_room-in_force-clause-told
returns-then-log_room-in_force-clause-told c =
    log_full _ _ _ _ _ _ _ _ (entry_told c.args.list.now c.args.in_force c.args.key c.args.feature c.requires.block.0 _ c.stand-standing.ensures _ _ c.content_count-count.ensures c.places.ensures) c.if-log_room-in_force.true

pub length_after-requires : goal.length_after-requires
length_after-requires c =
    let h = plan_small c.args.list.now c.args.in_force c.args.key c.args.feature c.requires.block.0 _ c.stand-standing.ensures c.requires.block.1 _ c.power_of_two-bits.ensures _ c.plan_by-plan.ensures in
    (h.0, h.1, omega (arith, c.well_formed))

pub returns-then-list_room-length_after-clause-told : goal.returns-then-list_room-length_after-clause-told
returns-then-list_room-length_after-clause-told c =
    list_full _ _ _ _ _ _ _ _ (entry_told c.args.list.now c.args.in_force c.args.key c.args.feature c.requires.block.0 _ c.stand-standing.ensures _ _ c.content_count-count.ensures c.places.ensures) _
    (painted_told c.args.list.now c.args.in_force c.args.key c.args.feature c.requires.block.0 _ c.stand-standing.ensures c.requires.block.1 _ c.power_of_two-bits.ensures _ c.plan_by-plan.ensures _ c.length_after.ensures) c.if-log_room-in_force.false c.if-list_room-length_after.true

pub returns-clause-told : goal.returns-clause-told
returns-clause-told c =
    room_enough _ _ _ _ _ _ _ _ (entry_told c.args.list.now c.args.in_force c.args.key c.args.feature c.requires.block.0 _ c.stand-standing.ensures _ _ c.content_count-count.ensures c.places.ensures) _
    (painted_told c.args.list.now c.args.in_force c.args.key c.args.feature c.requires.block.0 _ c.stand-standing.ensures c.requires.block.1 _ c.power_of_two-bits.ensures _ c.plan_by-plan.ensures _ c.length_after.ensures) c.if-log_room-in_force.false c.if-list_room-length_after.false

pub returns-clause-granted : goal.returns-clause-granted
returns-clause-granted c =
    paint_goes c.args.list.now c.args.in_force c.args.key c.args.feature c.requires.block.0 _ c.stand-standing.ensures c.requires.block.1 _ c.power_of_two-bits.ensures _ c.plan_by-plan.ensures _ c.content_count-count.ensures
