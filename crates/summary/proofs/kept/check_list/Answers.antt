-- The root is a node of sixteen blocks, and what the pass answers of it is what the check answers of the list. Rests on KeptList.
use Rattle.summary.proofs.KeptList.{root_asked, root_checked, root_refused}
use Rattle.summary.proofs.kept.check_list.Goals as goal

pub keep_blocks-requires : goal.keep_blocks-requires
keep_blocks-requires c = root_asked (c.begins_node.ensures c.if-not-begins_node.false) c.if-m-lt4.false c.requires.m_bound.0 c.power_of_five-step.ensures c.area_of-area.ensures c.requires.kept_before

pub returns-in-Some-clause-checked : goal.returns-in-Some-clause-checked
returns-in-Some-clause-checked c = root_checked (c.begins_node.ensures c.if-not-begins_node.false) c.if-m-lt4.false c.requires.m_bound.0 c.power_of_five-step.ensures c.area_of-area.ensures c.in-Some.ensures

pub returns-in-None-clause-checked : goal.returns-in-None-clause-checked
returns-in-None-clause-checked c = root_refused (c.begins_node.ensures c.if-not-begins_node.false) c.if-m-lt4.false c.requires.m_bound.0 c.power_of_five-step.ensures c.area_of-area.ensures c.in-None.ensures
