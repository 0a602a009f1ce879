-- `entry::last_entry`: the closing records have the key, the count and the feature, and the count says where the content starts. Rests on Last.
use Rattle.edit_log.proofs.Last.{taken_there, last_found}
use Rattle.edit_log.proofs.entry.last_entry.Goals as goal

pub overflow_sub-result-2 : goal.overflow_sub-result-2
overflow_sub-result-2 c = taken_there c.requires _ _ c.last_count-count.ensures.0 c.places.ensures

pub returns : goal.returns
returns c = last_found c.requires _ _ c.last_count-count.ensures.0 c.places.ensures
