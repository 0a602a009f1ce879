-- What is known of a block by its meeting with a step, whatever picture the step is done over. Rests on Step.
use Rattle.std.specs.Prelude.{ℕ, ◌+◌, ◌≤◌, ◌<◌, ◌≡◌, Bool, true, false, List, length}
use Rattle.keys.specs.Under.{Every}
use Rattle.keys.specs.Child.{InMap}
use Rattle.keys.specs.declared.block.TreeBlock.{TreeBlock}
use Rattle.definitions.specs.Picture.{Picture}
use Rattle.definitions.specs.List.{list_of}
use Rattle.build.specs.BuildBlocks.{Tallied}
use Rattle.edit_log.specs.Entries.{records_from_place}
use Rattle.deeds.specs.Step.{Step, step_over}
use Rattle.deeds.specs.declared.meeting.Meeting.{Meeting}
use Rattle.deeds.specs.declared.meeting.Meeting.TheVariants.{Apart, Leaf, Content, Cut}

-- a block by its numbers
abbrev pub block_at : (height row column key : ℕ) → TreeBlock
block_at height row column key = record { height = height; row = row; column = column; key = key }

-- a block of the map
pub record BlockAsked (m : ℕ) (b : TreeBlock) : Type 0 where
  pub deep : m ≤ 10
  pub block : InMap m b

-- the step touches none of its pixels
abbrev pub Untouched : (t : Step) (height row column : ℕ) → Type 0
Untouched t height row column = Every (λ a b. t.touches a b ≡ false) height row column

-- it becomes one leaf with these bits
abbrev pub OneLeaf : (t : Step) (height row column bits : ℕ) → Type 0
OneLeaf t height row column bits = (p : Picture) → Tallied (step_over t p) height row column bits 1

-- its list becomes the records of the log from a place on, two or more
pub record ContentGiven (t : Step) (log_keys log_values : List ℕ) (height row column key start count : ℕ) : Type 0 where
  pub several : 1 < count
  pub in_keys : start + count ≤ length log_keys
  pub in_values : start + count ≤ length log_values
  pub is : (p : Picture) → records_from_place log_keys log_values start count ≡ list_of (step_over t p) height row column key

-- by cases
abbrev pub MetBy : (t : Step) (log_keys log_values : List ℕ) (b : TreeBlock) → Meeting → Type 0
MetBy t ks vs b Apart = Untouched t b.height b.row b.column
MetBy t ks vs b (Leaf bits) = OneLeaf t b.height b.row b.column bits
MetBy t ks vs b (Content start count) = ContentGiven t ks vs b.height b.row b.column b.key start count
MetBy t ks vs b Cut = 0 < b.height

pub record Met (t : Step) (log_keys log_values : List ℕ) (b : TreeBlock) (meeting : Meeting) : Type 0 where
  pub told : MetBy t log_keys log_values b meeting

-- one look does not tell what becomes of the block
abbrev pub is_cut : Meeting → Bool
is_cut Apart = false
is_cut (Leaf bits) = false
is_cut (Content start count) = false
is_cut Cut = true
