-- `check::have_one_slot` meets its contract: a number without its last slot is 0 if that was its only one, and a union is 0 if all parts are.
use Prim.Native.Nat.{◌<◌}
use Rattle.list.proofs.OneSlot.{four_none, four_some, four_clear}
use Rattle.list.proofs.check.have_one_slot.Goals as goal
use Rattle.list.proofs.check.have_one_slot.Lts as lts
use Rattle.list.proofs.check.have_one_slot.Reads as own

abbrev At-Else1 : Type 0
At-Else1 = lts.Else1 own.Pre own.Post

-- none of the four is 0
some : (c : At-Else1) → let a = c.args in ((0 < a.a) × (0 < a.b)) × ((0 < a.c) × (0 < a.d))
some c = let a = c.args in four_some a.a a.b a.c a.d c.if-a-b.false

pub returns-then-a-b : goal.returns-then-a-b
returns-then-a-b c = let a = c.args in four_none a.a a.b a.c a.d c.if-a-b.true

pub overflow_sub-result : goal.overflow_sub-result
overflow_sub-result c = (some c).0.0

pub overflow_sub-result-2 : goal.overflow_sub-result-2
overflow_sub-result-2 c = (some c).0.1

pub overflow_sub-result-3 : goal.overflow_sub-result-3
overflow_sub-result-3 c = (some c).1.0

pub overflow_sub-result-4 : goal.overflow_sub-result-4
overflow_sub-result-4 c = (some c).1.1

pub returns : goal.returns
returns c =
    let a = c.args in
    let n = some c in
    four_clear a.a a.b a.c a.d n.0.0 n.0.1 n.1.0 n.1.1
