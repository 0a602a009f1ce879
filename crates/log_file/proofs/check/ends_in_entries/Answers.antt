-- `check::ends_in_entries`: each turn checks the last entry of those that are left. Rests on Walk of crate edit_log and InBytes.
use Rattle.std.proofs.Common.{arith, ap, ◌-◌, ◌+◌}
use Rattle.edit_log.proofs.Walk.{all_passed, one_fails, one_ended, one_passed}
use Rattle.definitions.specs.Log.{ends_in_entries}
use Rattle.log_file.specs.Records.{log_in}
use Rattle.log_file.proofs.InBytes.{in_keys, in_values}
use Rattle.log_file.proofs.check.ends_in_entries.Goals as goal

pub loop-passed-init : goal.loop-passed-init
loop-passed-init c = record {
  within = omega arith;
  in_keys = in_keys _ c.requires.2;
  in_values = in_values _ c.requires.2;
  same = ap (λ n. ends_in_entries n c.args.m c.args.s (log_in c.args.bytes.now c.args.used)) (omega arith);
}

pub returns-then-not-ends_in_entry : goal.returns-then-not-ends_in_entry
returns-then-not-ends_in_entry c =
    one_fails c.loop-passed.invariant (c.args.count - (c.loop-passed._passed + 1)) (omega arith) c.ends_in_entry.ensures c.if-not-ends_in_entry.true

pub last_entry-end-requires : goal.last_entry-end-requires
last_entry-end-requires c =
    one_ended c.loop-passed.invariant (c.args.count - (c.loop-passed._passed + 1)) (omega arith) c.ends_in_entry.ensures c.if-not-ends_in_entry.false

pub loop-passed-preserved : goal.loop-passed-preserved
loop-passed-preserved c = one_passed c.loop-passed.invariant _ (omega arith) c.ends_in_entry.ensures c.if-not-ends_in_entry.false _ c.last_entry-end.ensures

pub returns : goal.returns
returns c = all_passed c.loop-passed.invariant (omega arith)
