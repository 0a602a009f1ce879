-- What there is no room for is left; else the list is changed, and the summary counted anew.
use mathlib.Core.Path.{sym, ◌∙◌}
use Rattle.deeds.specs.Doing.{step_by}
use Rattle.undo.proofs.Applying.{applied_full, can_change, change_own, change_outdated, applied_done}
use Rattle.undo.proofs.group.apply.Goals as goal

pub returns-then-not-has_room : goal.returns-then-not-has_room
returns-then-not-has_room c = applied_full _ c.requires c.taken-former.ensures _ c.smaller-room.ensures (sym c.has_room.ensures ∙ c.if-not-has_room.true)

pub change-after-requires : goal.change-after-requires
change-after-requires c = can_change _ c.requires c.taken-former.ensures _ c.smaller-room.ensures (sym c.has_room.ensures ∙ c.if-not-has_room.false)

pub taken-changed-requires : goal.taken-changed-requires
taken-changed-requires c =
    (c.requires.deep, change_own (step_by c.args.doing) c.requires c.taken-former.ensures _ c.smaller-room.ensures (sym c.has_room.ensures ∙ c.if-not-has_room.false) c.change-after.ensures)

pub recount-requires-clause-step_outdated : goal.recount-requires-clause-step_outdated
recount-requires-clause-step_outdated c =
    change_outdated _ c.requires c.taken-former.ensures _ c.smaller-room.ensures (sym c.has_room.ensures ∙ c.if-not-has_room.false) c.change-after.ensures c.taken-changed.ensures

pub returns : goal.returns
returns c =
    applied_done _ c.requires c.taken-former.ensures _ c.smaller-room.ensures (sym c.has_room.ensures ∙ c.if-not-has_room.false) c.change-after.ensures c.taken-changed.ensures _ c.recount.ensures
