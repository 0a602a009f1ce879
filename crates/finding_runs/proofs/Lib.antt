-- good settings and good waivers, and where a rule's own stand
pub mod Settings
pub mod WaiverPlaces
pub mod WaiverOrder
pub mod RuleWaivers
pub mod GoodWaivers
-- one rule: the code's tests, what it does to a run, what it gathers
pub mod StepTests
pub mod StepWaivers
pub mod StepCases
pub mod StepWrong
pub mod StepGathered
-- all rules: run by run, and what every rule keeps
pub mod Fold
pub mod Ready
pub mod TableRuns
pub mod Quiet
pub mod GoodRules
pub mod KnownIds
-- how a run begins, goes on and ends
pub mod Beginning
pub mod NextCases
pub mod AllGathered
pub mod RunEnds
pub mod Refusals
pub mod OfFindings
pub mod Told
-- the runs together give the findings of specification S13
pub mod TwoRuns
pub mod Bounds
pub mod ThreeRuns
pub mod OfficeAnswer
pub mod Answer
-- the loop over the lent rules
pub mod RunTurns
