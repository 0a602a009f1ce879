-- What shrinking asks and leaves. Only contracts need these. Rests on Step and on what a list shows.
use Rattle.std.specs.Prelude.{ℕ, ◌+◌, ◌-◌, ◌≤◌, ◌<◌, Bool, true, false, cond, ◌≡◌, List, [], ◌∷◌, ◌++◌, length, set, take, drop}
use Rattle.std.proofs.lemmas.List.Edits.{sets}
use Rattle.keys.specs.declared.block.TreeBlock.{TreeBlock}
use Rattle.definitions.specs.Picture.{Picture}
use Rattle.definitions.specs.Bits.{feature_of}
use Rattle.definitions.specs.List.{record_of, keys_of, values_of}
use Rattle.list.specs.Check.{one_slot}
use Rattle.build.specs.BuildBlocks.{Tallied}
use Rattle.deeds.specs.Step.{Step, step_over, plain}
use Rattle.deeds.specs.declared.meeting.Meeting.{Meeting}
use Rattle.deeds.specs.declared.meeting.Meeting.TheVariants.{Apart, Leaf, Content, Cut}
use Rattle.apply_deed.specs.Passes.{list_at, pruned_at, Shown, ShowingBlock}

-- from a place on a slice has these numbers; what stands in front of them, and from `next` on, is as it was
pub record Forward (new before : List ℕ) (place next : ℕ) (after : List ℕ) : Type 0 where
  pub size : length after ≡ length before
  pub front : take (place + length new) after ≡ take place before ++ new
  pub behind : drop next after ≡ drop next before

-- the records of a block are to be put forward, at or before the place where they stand
pub record ShrinkAsked (m : ℕ) (b : TreeBlock) (keys bits : List ℕ) (at n place : ℕ) : Type 0 where
  pub shown : Shown m b keys bits at n
  pub order : place ≤ at

-- what is left of them stands there, the block's bits and its number of records after the step are known, and the places after the records read and written
pub record ShrunkAt (t : Step) (p : Picture) (b : TreeBlock) (keys bits : List ℕ) (at place : ℕ) (keys' bits' : List ℕ) (union count next place' : ℕ) : Type 0 where
  pub tallied : Tallied (step_over t p) b.height b.row b.column union count
  pub next-is : next ≡ at + length (list_at p b)
  pub place_is : place' ≡ place + length (pruned_at t p b)
  pub keys_are : Forward (keys_of (pruned_at t p b)) keys place next keys'
  pub bits_are : Forward (values_of (pruned_at t p b)) bits place next bits'

-- that holds of whichever picture is shown
pub record Shrinks (t : Step) (b : TreeBlock) (keys bits : List ℕ) (at n place : ℕ) (keys' bits' : List ℕ) (union count next place' : ℕ) : Type 0 where
  pub holds : (p : Picture) → ShowingBlock p b keys bits at n → ShrunkAt t p b keys bits at place keys' bits' union count next place'

-- one look tells that the block stays as it is or becomes one leaf
abbrev pub is_decided : Meeting → Bool
is_decided Apart = true
is_decided (Leaf bits) = true
is_decided (Content start count) = false
is_decided Cut = false

-- records from one place up to another are to be put forward
pub record KeepAsked (keys bits : List ℕ) (at next place : ℕ) : Type 0 where
  pub order : place ≤ at
  pub some : at < next
  pub in_keys : next ≤ length keys
  pub in-bits : next ≤ length bits

-- the records stand there as they were, or a leaf for them
abbrev pub kept_on : Meeting → (x : ℕ → ℕ) (l : List ℕ) (at next place : ℕ) → List ℕ
kept_on Apart x l at next place = sets l place (take (next - at) (drop at l))
kept_on (Leaf bits) x l at next place = set l place (x bits)
kept_on (Content start count) x l at next place = l
kept_on Cut x l at next place = l

abbrev pub kept_place : Meeting → (at next place : ℕ) → ℕ
kept_place Apart at next place = place + (next - at)
kept_place (Leaf bits) at next place = place + 1
kept_place (Content start count) at next place = place
kept_place Cut at next place = place

pub record KeptForward (meeting : Meeting) (key : ℕ) (keys bits : List ℕ) (at next place : ℕ) (keys' bits' : List ℕ) (place' : ℕ) : Type 0 where
  pub place_is : place' ≡ kept_place meeting at next place
  pub keys_are : keys' ≡ kept_on meeting (λ bits. key) keys at next place
  pub bits_are : bits' ≡ kept_on meeting (λ bits. bits) bits at next place

-- there is room for one record
pub record OneAsked (keys bits : List ℕ) (at place : ℕ) : Type 0 where
  pub order : place ≤ at
  pub in_keys : at < length keys
  pub in-bits : at < length bits

-- what is left of a leaf stands there: the leaf after the step, or the one before it where it has to grow
pub record LeafShrunk (t : Step) (own : ℕ) (b : TreeBlock) (keys bits : List ℕ) (at place : ℕ) (keys' bits' : List ℕ) (union count next place' : ℕ) : Type 0 where
  pub tallied : Tallied (step_over t (plain (feature_of own))) b.height b.row b.column union count
  pub next-is : next ≡ at + 1
  pub place_is : place' ≡ place + 1
  pub value : ℕ
  pub left : pruned_at t (plain (feature_of own)) b ≡ record_of b.key value ∷ []
  pub keys_are : keys' ≡ set keys place b.key
  pub bits_are : bits' ≡ set bits place value

-- the own record of a node stands before what is left of its quadrants, or for them where it has one slot
pub record OwnShrunk (key union : ℕ) (keys bits : List ℕ) (place last : ℕ) (keys' bits' : List ℕ) (place' : ℕ) : Type 0 where
  pub place_is : place' ≡ cond (one_slot union) (place + 1) last
  pub keys_are : keys' ≡ set keys place key
  pub bits_are : bits' ≡ set bits place union
