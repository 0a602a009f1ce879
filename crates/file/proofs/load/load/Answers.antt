-- `load::load`: where the table gives no number the records are read, and else nothing is touched. Rests on LoadAnswers.
use Rattle.std.proofs.Common.{refl}
use Rattle.std.proofs.lemmas.Result.{err_from_is_err_and}
use Rattle.file.proofs.LoadAnswers.{refused, room_for, all_loaded}
use Rattle.file.proofs.load.load.Goals as goal

pub returns-in_err-head-clause-value : goal.returns-in_err-head-clause-value
returns-in_err-head-clause-value c =
    let p = err_from_is_err_and c.from_residual.result c.from_residual.ensures.1 in
    rw (p.1, p.2) (refused c.args.file.now c.args.keys.now c.args.bits.now _ (c.in_err-head.ensures.told _ _ refl refl)).0

pub returns-in_err-head-clause-keys_after : goal.returns-in_err-head-clause-keys_after
returns-in_err-head-clause-keys_after c = (refused c.args.file.now c.args.keys.now c.args.bits.now _ (c.in_err-head.ensures.told _ _ refl refl)).1.0

pub returns-in_err-head-clause-bits_after : goal.returns-in_err-head-clause-bits_after
returns-in_err-head-clause-bits_after c = (refused c.args.file.now c.args.keys.now c.args.bits.now _ (c.in_err-head.ensures.told _ _ refl refl)).1.1

pub read-requires : goal.read-requires
read-requires c =
    room_for c.args.file.now c.args.keys.now c.args.bits.now (c.in_ok-head.ensures.told _ _ refl refl) c.in_ok-head.head _ c.in_ok-head.ensures.head c.width.ensures

pub returns-clause-value : goal.returns-clause-value
returns-clause-value c =
    (all_loaded c.args.file.now c.args.keys.now c.args.bits.now (c.in_ok-head.ensures.told _ _ refl refl) c.in_ok-head.head _ _ _ c.in_ok-head.ensures.head
    c.width.ensures c.read.ensures.keys_after c.read.ensures.bits_after).0

pub returns-clause-keys_after : goal.returns-clause-keys_after
returns-clause-keys_after c =
    (all_loaded c.args.file.now c.args.keys.now c.args.bits.now (c.in_ok-head.ensures.told _ _ refl refl) c.in_ok-head.head _ _ _ c.in_ok-head.ensures.head
    c.width.ensures c.read.ensures.keys_after c.read.ensures.bits_after).1.0

pub returns-clause-bits_after : goal.returns-clause-bits_after
returns-clause-bits_after c =
    (all_loaded c.args.file.now c.args.keys.now c.args.bits.now (c.in_ok-head.ensures.told _ _ refl refl) c.in_ok-head.head _ _ _ c.in_ok-head.ensures.head
    c.width.ensures c.read.ensures.keys_after c.read.ensures.bits_after).1.1
