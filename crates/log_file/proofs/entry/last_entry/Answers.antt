-- `entry::last_entry`: the closing records have the key, the count and the feature, and the count says where the content starts. Rests on Last of crate edit_log,
-- InBytes and LastIn.
use Rattle.std.proofs.Common.{arith}
use Rattle.edit_log.proofs.Last.{taken_there}
use Rattle.log_file.proofs.InBytes.{in_places}
use Rattle.log_file.proofs.LastIn.{entry_read}
use Rattle.log_file.proofs.entry.last_entry.Goals as goal

pub last_count-count-requires : goal.last_count-count-requires
last_count-count-requires c = (omega (arith, c.requires.all_there), in_places c.args.bytes.now c.requires.in_keys)

pub key_at-key-requires : goal.key_at-key-requires
key_at-key-requires c = omega (arith, c.requires.all_there, in_places c.args.bytes.now c.requires.in_keys)

pub value_at-feature-requires : goal.value_at-feature-requires
value_at-feature-requires c = omega (arith, c.requires.all_there, in_places c.args.bytes.now c.requires.in_keys)

pub overflow_sub-result : goal.overflow_sub-result
overflow_sub-result c = taken_there c.requires _ _ c.last_count-count.ensures.0 c.places.ensures

pub returns : goal.returns
returns c =
    entry_read c.args.bytes.now c.requires _ _ _ _ c.key_at-key.ensures c.last_count-count.ensures.0 c.places.ensures c.value_at-feature.ensures
