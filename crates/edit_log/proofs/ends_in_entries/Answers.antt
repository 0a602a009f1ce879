-- `ends_in_entries`: each turn checks the last entry of those that are left. Rests on Walk.
use Rattle.std.proofs.Common.{arith, ◌-◌, ◌+◌}
use Rattle.edit_log.proofs.Walk.{all_passed, one_fails, one_ended, one_passed}
use Rattle.edit_log.proofs.ends_in_entries.Goals as goal

pub returns-then-not-ends_in_entry : goal.returns-then-not-ends_in_entry
returns-then-not-ends_in_entry c =
    one_fails c.loop-passed.invariant (c.args.count - (c.loop-passed._passed + 1)) (omega arith) c.ends_in_entry.ensures c.if-not-ends_in_entry.true

pub last_entry-end-requires : goal.last_entry-end-requires
last_entry-end-requires c =
    one_ended c.loop-passed.invariant (c.args.count - (c.loop-passed._passed + 1)) (omega arith) c.ends_in_entry.ensures c.if-not-ends_in_entry.false

pub loop-passed-preserved : goal.loop-passed-preserved
loop-passed-preserved c = one_passed c.loop-passed.invariant _ (omega arith) c.ends_in_entry.ensures c.if-not-ends_in_entry.false _ c.last_entry-end.ensures

pub returns : goal.returns
returns c = all_passed c.loop-passed.invariant (omega arith)
