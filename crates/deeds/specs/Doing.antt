-- A deed with its map and its log as one value: the step that it stands for, what it makes of a block, and what is left of it before a key. Rests on Deed and
-- Meeting.
use Rattle.std.specs.Prelude.{ℕ, ◌≡◌}
use Rattle.keys.specs.declared.block.TreeBlock.{TreeBlock}
use Rattle.deeds.specs.Step.{Step}
use Rattle.deeds.specs.Meeting.{Met}
use Rattle.deeds.specs.declared.meeting.Meeting.{Meeting}
use Rattle.deeds.specs.Deed.{step_of, SameBefore}
use Rattle.deeds.specs.declared.doing.Doing.{Doing}

abbrev pub step_by : Doing → Step
step_by d = step_of d.m d.deed d.log_keys.now d.log_values.now

-- what it makes of a block
abbrev pub MetWith : (d : Doing) (b : TreeBlock) → Meeting → Type 0
MetWith d b meeting = Met (step_by d) d.log_keys.now d.log_values.now b meeting

-- another deed on the same map with the same log, which does the same to every pixel whose key is below past
pub record NarrowerDeed (past : ℕ) (d d' : Doing) : Type 0 where
  pub m_is : d'.m ≡ d.m
  pub log_keys_are : d'.log_keys.now ≡ d.log_keys.now
  pub log_values_are : d'.log_values.now ≡ d.log_values.now
  pub same : SameBefore d.m past (step_by d) (step_by d')
