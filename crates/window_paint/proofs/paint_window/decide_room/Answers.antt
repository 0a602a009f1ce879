-- `paint_window::decide_room` meets its contract: each way out answers what the table's last two rows say there.
use Prim.Native.Nat.{ℕ, ◌+◌, ◌≤◌}
use mathlib.Core.Path.{◌≡◌, sym, ap, ◌∙◌}
use native.Mathlib.Omega.{arith}
use lib.ListN.{length}
use Rattle.keys.specs.Under.{here}
use Rattle.keys.specs.Child.{root_of}
use Rattle.keys.specs.declared.block.TreeBlock.{TreeBlock}
use Rattle.definitions.specs.Log.{closing_places}
use Rattle.definitions.specs.declared.Window.{Window}
use Rattle.definitions.specs.Calls.PaintWindow.{group_gained}
use Rattle.list.specs.declared.accepted_list.Accepted.{Accepted}
use Rattle.list.specs.Taken.{records_listed, picture_listed}
use Rattle.list.proofs.Fuller.{near_root}
use Rattle.window_paint.specs.WindowLogging.{largest_in, NeededFor}
use Rattle.window_paint.proofs.GroupLogged.{group-length, root_number}
use Rattle.window_paint.proofs.WindowFilled.{can_paint}
use Rattle.window_paint.proofs.WindowNeeds.{needs_few}
use Rattle.window_paint.proofs.PaintWindowTable.{log_full, list_full, room_enough}
use Rattle.window_paint.proofs.paint_window.decide_room.Goals as goal

-- what the whole map's blocks need
module _ (list : Accepted) (window : Window) {root : TreeBlock} (is_root : root ≡ root_of list.m) {number places : ℕ}
    (needed : NeededFor list.m (picture_listed list) (largest_in window root) number places) where
  whole : NeededFor list.m (picture_listed list) (largest_in window (root_of list.m)) number places
  whole = rw is_root at needed

  -- that is little
  few : places ≤ 29296875
  few = (needs_few _ _ _ _ list.deepest here whole).1

  -- the places used with the group
  logged_is : (in_force feature : ℕ) {closed : ℕ} → closed ≡ places + closing_places
      → in_force + closed ≡ in_force + length (group_gained list.m (records_listed list) window feature)
  logged_is in_force feature e =
      ap (λ x. in_force + x)
      (e
      ∙ ap (λ x. x + closing_places) (whole.places_are feature)
      ∙ sym (group-length list.m list.keys.now list.bits.now (length list.keys.now) window feature))

pub need_below-needed-requires : goal.need_below-needed-requires
need_below-needed-requires c =
    let a = c.requires.painting.list in
    (record { low = a.low; narrow = a.narrow }, rw c.root.ensures here, near_root c.args.list.now.own _)

pub places-requires : goal.places-requires
places-requires c = omega (arith, few c.args.list.now c.args.window c.root.ensures c.need_below-needed.ensures.0)

pub overflow_add-in_force : goal.overflow_add-in_force
overflow_add-in_force c = omega (arith, c.places.ensures, few c.args.list.now c.args.window c.root.ensures c.need_below-needed.ensures.0, c.requires.log)

pub returns-then-log_room-in_force-clause-told : goal.returns-then-log_room-in_force-clause-told
returns-then-log_room-in_force-clause-told c =
    log_full _ _ _ _ _ _ _ _ (logged_is c.args.list.now c.args.window c.root.ensures c.need_below-needed.ensures.0 _ _ c.places.ensures) c.if-log_room-in_force.true

pub has_room-requires : goal.has_room-requires
has_room-requires c = can_paint c.requires.painting

pub returns-then-not-has_room-clause-told : goal.returns-then-not-has_room-clause-told
returns-then-not-has_room-clause-told c =
    list_full _ _ _ _ _ _ _ _ (logged_is c.args.list.now c.args.window c.root.ensures c.need_below-needed.ensures.0 _ _ c.places.ensures) c.if-log_room-in_force.false
    (sym c.has_room.ensures ∙ c.if-not-has_room.true)

pub returns-clause-told : goal.returns-clause-told
returns-clause-told c =
    room_enough _ _ _ _ _ _ _ _ (logged_is c.args.list.now c.args.window c.root.ensures c.need_below-needed.ensures.0 _ _ c.places.ensures) c.if-log_room-in_force.false
    (sym c.has_room.ensures ∙ c.if-not-has_room.false)

pub returns-clause-number : goal.returns-clause-number
returns-clause-number c = root_number _ _ (whole c.args.list.now c.args.window c.root.ensures c.need_below-needed.ensures.0).number_is
