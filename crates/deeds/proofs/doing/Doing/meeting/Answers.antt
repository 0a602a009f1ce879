-- `Doing::meeting` meets its contract, kind by kind.
use Rattle.deeds.proofs.Opened.{open_doable}
use Rattle.deeds.proofs.DeedCases.{fill_known, back_known, again_known, fill_met, back_met, again_met}
use Rattle.deeds.proofs.doing.Doing.meeting.Goals as goal

pub meeting-requires : goal.meeting-requires
meeting-requires c = let d = c.args.self in (fill_known _ _ _ c.in-Fill.is (open_doable _ _ _ d.deed d.doable), c.requires)

pub meeting_back-requires : goal.meeting_back-requires
meeting_back-requires c = let d = c.args.self in (back_known _ _ _ c.in-Back.is (open_doable _ _ _ d.deed d.doable), c.requires)

pub meeting_again-requires : goal.meeting_again-requires
meeting_again-requires c = let d = c.args.self in (again_known _ _ _ c.in-Again.is (open_doable _ _ _ d.deed d.doable), c.requires)

pub returns-in-Fill : goal.returns-in-Fill
returns-in-Fill c = fill_met _ _ _ c.in-Fill.is c.meeting.ensures

pub returns-in-Back : goal.returns-in-Back
returns-in-Back c = back_met _ _ _ c.in-Back.is c.meeting_back.ensures

pub returns-in-Again : goal.returns-in-Again
returns-in-Again c = again_met _ _ _ c.in-Again.is c.meeting_again.ensures
