-- `load::load`: where the table gives no number the records are read, and else nothing is touched. Rests on LoadAnswers.
use Rattle.std.proofs.Common.{arith, refl}
use Rattle.std.proofs.lemmas.Result.{err_from_is_err_and}
use Rattle.log_file.proofs.LoadAnswers.{refused, long, room_for, all_loaded}
use Rattle.log_file.proofs.load.load.Goals as goal

pub returns-in_err-head-clause-value : goal.returns-in_err-head-clause-value
returns-in_err-head-clause-value c =
    let p = err_from_is_err_and c.from_residual.result c.from_residual.ensures.1 in
    rw (p.1, p.2) (refused c.args.file.now c.args.keys.now c.args.values.now _ (c.in_err-head.ensures.told _ _ refl refl)).0

pub returns-in_err-head-clause-keys_after : goal.returns-in_err-head-clause-keys_after
returns-in_err-head-clause-keys_after c = (refused c.args.file.now c.args.keys.now c.args.values.now _ (c.in_err-head.ensures.told _ _ refl refl)).1.0

pub returns-in_err-head-clause-values_after : goal.returns-in_err-head-clause-values_after
returns-in_err-head-clause-values_after c = (refused c.args.file.now c.args.keys.now c.args.values.now _ (c.in_err-head.ensures.told _ _ refl refl)).1.1

pub slice_bounds-read-count : goal.slice_bounds-read-count
slice_bounds-read-count c = let h = long c.args.file.now c.args.keys.now c.args.values.now (c.in_ok-head.ensures.told _ _ refl refl) in omega arith

pub slice_bounds-read-start : goal.slice_bounds-read-start
slice_bounds-read-start c = let h = long c.args.file.now c.args.keys.now c.args.values.now (c.in_ok-head.ensures.told _ _ refl refl) in omega arith

pub read-requires : goal.read-requires
read-requires c = room_for c.args.file.now c.args.keys.now c.args.values.now (c.in_ok-head.ensures.told _ _ refl refl) c.in_ok-head.head c.in_ok-head.ensures.head

pub returns-clause-value : goal.returns-clause-value
returns-clause-value c =
    (all_loaded c.args.file.now c.args.keys.now c.args.values.now (c.in_ok-head.ensures.told _ _ refl refl) c.in_ok-head.head _ _ c.in_ok-head.ensures.head
    c.read.ensures.keys_after c.read.ensures.bits_after).0

pub returns-clause-keys_after : goal.returns-clause-keys_after
returns-clause-keys_after c =
    (all_loaded c.args.file.now c.args.keys.now c.args.values.now (c.in_ok-head.ensures.told _ _ refl refl) c.in_ok-head.head _ _ c.in_ok-head.ensures.head
    c.read.ensures.keys_after c.read.ensures.bits_after).1.0

pub returns-clause-values_after : goal.returns-clause-values_after
returns-clause-values_after c =
    (all_loaded c.args.file.now c.args.keys.now c.args.values.now (c.in_ok-head.ensures.told _ _ refl refl) c.in_ok-head.head _ _ c.in_ok-head.ensures.head
    c.read.ensures.keys_after c.read.ensures.bits_after).1.1
