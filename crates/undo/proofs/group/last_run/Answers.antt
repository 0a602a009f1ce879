-- The places of the last step as a run.
use Rattle.undo.proofs.GroupRuns.{group_stepped, run_asked, run_found}
use Rattle.undo.proofs.group.last_run.Goals as goal

pub last_step-last-requires : goal.last_step-last-requires
last_step-last-requires c = group_stepped c.requires

pub run_of-requires : goal.run_of-requires
run_of-requires c = run_asked c.requires _ c.last_step-last.ensures

pub returns : goal.returns
returns c =
    let last = c.before in
    let told = c.run_of.ensures in
    run_found last.requires _ last.last_step-last.ensures _ told.0 told.1 told.2
