-- `step::entries_start`: each turn passes the last entry of those that are left. Rests on Walk of crate edit_log.
use Rattle.std.proofs.Common.{arith, ◌-◌, ◌+◌}
use Rattle.edit_log.proofs.Walk.{walked_all, walk_ended, walk_on}
use Rattle.log_file.proofs.step.entries_start.Goals as goal

pub last_entry-start-requires : goal.last_entry-start-requires
last_entry-start-requires c = walk_ended c.loop-passed.invariant (c.args.count - (c.loop-passed._passed + 1)) (omega arith)

pub loop-passed-preserved : goal.loop-passed-preserved
loop-passed-preserved c = walk_on c.loop-passed.invariant _ (omega arith) _ c.last_entry-start.ensures

pub returns : goal.returns
returns c = walked_all c.loop-passed.invariant (omega arith)
