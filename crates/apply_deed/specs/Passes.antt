-- What the passes over the slices ask and leave. Only contracts need these. Rests on Step and on build's laws of a block.
use Rattle.std.specs.Prelude.{ℕ, ◌+◌, ◌-◌, ◌^◌, ◌≤◌, ◌<◌, false, cond, ◌≡◌, List, ◌++◌, length, get_or, set, take, drop}
use Rattle.std.proofs.lemmas.List.Edits.{sets}
use Rattle.keys.specs.Key.{all_keys}
use Rattle.keys.specs.Child.{InMap}
use Rattle.keys.specs.declared.block.TreeBlock.{TreeBlock}
use Rattle.list.specs.Among.{keys_below}
use Rattle.list.specs.Sorted.{Ascends}
use Rattle.list.specs.Check.{one_slot}
use Rattle.build.specs.BuildBlocks.{Tallied, FourAsked, FourWritten, Written}
use Rattle.build.specs.declared.count.Tally.{Tally}
use Rattle.definitions.specs.Picture.{Picture, one_feature}
use Rattle.definitions.specs.List.{Record, keys_of, values_of, list_of, Ascending}
use Rattle.definitions.specs.Read.{records_of}
use Rattle.deeds.specs.Step.{Step, step_over, pruned}
use Rattle.deeds.specs.Meeting.{is_cut}
use Rattle.deeds.specs.declared.meeting.Meeting.{Meeting}
use Rattle.deeds.specs.declared.meeting.Meeting.TheVariants.{Apart, Leaf, Content, Cut}

-- from place `at` up to n the records are these, and others behind them, whose keys ascend from `past` on
pub record Showing (l : List Record) (past : ℕ) (keys bits : List ℕ) (at n : ℕ) : Type 0 where
  pub rest : List Record
  pub limit : ℕ
  pub in_keys : n ≤ length keys
  pub in-bits : n ≤ length bits
  pub is : drop at (records_of keys bits n) ≡ l ++ rest
  pub behind : Ascending past limit rest

-- a picture's list of a block
abbrev pub list_at : (p : Picture) (b : TreeBlock) → List Record
list_at p b = list_of p b.height b.row b.column b.key

-- so of such a list: what stands behind it has keys past the block's
abbrev pub ShowingBlock : (p : Picture) (b : TreeBlock) (keys bits : List ℕ) (at n : ℕ) → Type 0
ShowingBlock p b keys bits at n = Showing (list_at p b) (b.key + 5 ^ b.height) keys bits at n

-- from place `at` on, up to n, stands the list of a block of the map, of some picture
pub record Shown (m : ℕ) (b : TreeBlock) (keys bits : List ℕ) (at n : ℕ) : Type 0 where
  pub picture : Picture
  pub deep : m ≤ 10
  pub block : InMap m b
  pub shown : ShowingBlock picture b keys bits at n

-- the bits and the number of records of a block after the step, and the place after its records before it, of whichever picture is shown
pub record StepCounted (t : Step) (b : TreeBlock) (keys bits : List ℕ) (at n union count next : ℕ) : Type 0 where
  pub tallied : (p : Picture) → ShowingBlock p b keys bits at n → Tallied (step_over t p) b.height b.row b.column union count
  pub passed : (p : Picture) → ShowingBlock p b keys bits at n → next ≡ at + length (list_at p b)

-- the content that a meeting names is there to be read
pub record Readable (meeting : Meeting) (log_values : List ℕ) : Type 0 where
  pub starts : (start count : ℕ) → meeting ≡ Content start count → start < length log_values

-- the bits and the number of records of a block that has its own before the step; none where the quadrants have to be asked
abbrev pub known_of : Meeting → (own records : ℕ) (log_values : List ℕ) → Tally
known_of Apart own records vs = record { bits = own; count = records }
known_of (Leaf bits) own records vs = record { bits = bits; count = 1 }
known_of (Content start count) own records vs = record { bits = get_or vs start 0; count = count }
known_of Cut own records vs = record { bits = 0; count = 0 }

-- the keys from a place up to n ascend, and the first of them is below a number
pub record EndAsked (keys : List ℕ) (at n past : ℕ) : Type 0 where
  pub some : at < n
  pub room : n ≤ length keys
  pub first : get_or keys at 0 < past
  pub ascend : (i j : ℕ) → at ≤ i → i < j → j < n → get_or keys i 0 < get_or keys j 0

-- the place after the records with keys below a number, and what is known of so many records
pub record PassedOver (meeting : Meeting) (own past at : ℕ) (keys : List ℕ) (n : ℕ) (log_values : List ℕ) (tally : Tally) (next : ℕ) : Type 0 where
  pub next-is : next ≡ at + keys_below past (take (n - at) (drop at keys))
  pub tally_is : tally ≡ known_of meeting own (next - at) log_values

-- a block whose records are to end before a place has room for them; a block of one feature has nothing written below it, and needs none
pub record FittingBefore (p : Picture) (b : TreeBlock) (end : ℕ) (keys bits : List ℕ) : Type 0 where
  pub small : end ≤ all_keys
  pub low : one_feature p b.height b.row b.column ≡ false → length (list_at p b) ≤ end
  pub keys_room : one_feature p b.height b.row b.column ≡ false → end ≤ length keys
  pub bits_room : one_feature p b.height b.row b.column ≡ false → end ≤ length bits

-- the records below a block stand before that place, and the place of its own is known; where there is none, which is 0 here, nothing was written
pub record WrittenBefore (p : Picture) (b : TreeBlock) (end : ℕ) (keys bits keys' bits' : List ℕ) (union place : ℕ) : Type 0 where
  pub place_is : place ≡ end - length (list_at p b)
  pub written : Written p b.height b.row b.column b.key place keys bits keys' bits' union (place + length (list_at p b))

-- the records below a leaf, by its meeting: there is room for a content
pub record ContentFits (log_keys log_values : List ℕ) (end : ℕ) (keys bits : List ℕ) (start count : ℕ) : Type 0 where
  pub some : 0 < count
  pub from_keys : start + count ≤ length log_keys
  pub from_values : start + count ≤ length log_values
  pub low : count ≤ end
  pub in_keys : end ≤ length keys
  pub in-bits : end ≤ length bits

pub record Layable (meeting : Meeting) (log_keys log_values : List ℕ) (end : ℕ) (keys bits : List ℕ) : Type 0 where
  pub fits : (start count : ℕ) → meeting ≡ Content start count → ContentFits log_keys log_values end keys bits start count

-- they are laid past the leaf's own place, and that place is known
abbrev pub laid_on : Meeting → (log : List ℕ) (place : ℕ) → List ℕ → List ℕ
laid_on Apart log place l = l
laid_on (Leaf bits) log place l = l
laid_on (Content start count) log place l = sets l (place + 1) (take (count - 1) (drop (start + 1) log))
laid_on Cut log place l = l

pub record LeafLaid (meeting : Meeting) (own : ℕ) (log_keys log_values : List ℕ) (end : ℕ) (keys bits keys' bits' : List ℕ) (union place : ℕ) : Type 0 where
  pub keys_are : keys' ≡ laid_on meeting log_keys place keys
  pub bits_are : bits' ≡ laid_on meeting log_values place bits
  pub union_is : union ≡ (known_of meeting own 1 log_values).bits
  pub place_is : is_cut meeting ≡ false → place ≡ end - (known_of meeting own 1 log_values).count

-- a block that has quadrants; where they have several features together, their own places are in order, and one is free before them
pub record SettleAsked (b : TreeBlock) (first second third fourth union : ℕ) (keys bits : List ℕ) : Type 0 where
  pub positive : 0 < b.height
  pub deep : b.height ≤ 10
  pub some : one_slot union ≡ false → 0 < first
  pub asked : one_slot union ≡ false → FourAsked b.key (5 ^ (b.height - 1)) (first - 1) union second third fourth keys bits

-- their own records stand there, and the block's own place is known: before them, or before the end where it has nothing below it
pub record FourSettled (b : TreeBlock) (end nw ne sw se first second third fourth : ℕ) (keys bits keys' bits' : List ℕ) (union place : ℕ) : Type 0 where
  pub next : ℕ
  pub written : FourWritten b.key (5 ^ (b.height - 1)) (first - 1) nw ne sw se second third fourth end keys bits keys' bits' union next
  pub place_is : place ≡ cond (one_slot union) (end - 1) (first - 1)

-- the records of a block are to be written before a place
pub record WriteAsked (l : List Record) (key end : ℕ) (keys bits : List ℕ) : Type 0 where
  pub low : length l ≤ end
  pub early : end ≤ key + length l
  pub in_keys : end ≤ length keys
  pub in-bits : end ≤ length bits

-- they stand before that place, and all other places are as they were
pub record WroteBefore (l : List Record) (end : ℕ) (keys bits keys' bits' : List ℕ) (start : ℕ) : Type 0 where
  pub start_is : start + length l ≡ end
  pub keys_are : keys' ≡ sets keys start (keys_of l)
  pub bits_are : bits' ≡ sets bits start (values_of l)

-- the records before a place end in these
pub record Ending (l : List Record) (keys bits : List ℕ) (read : ℕ) : Type 0 where
  pub front : List Record
  pub in_keys : read ≤ length keys
  pub in-bits : read ≤ length bits
  pub is : records_of keys bits read ≡ front ++ l

-- these records before `read` wait to become so many before `write`, which reach none of those in front, and of which the first is at most the key
pub record Waiting (key : ℕ) (l : List Record) (count : ℕ) (keys bits : List ℕ) (read write : ℕ) : Type 0 where
  pub ending : Ending l keys bits read
  pub apart : read + count ≤ write + length l
  pub early : write ≤ key + count
  pub in_keys : write ≤ length keys
  pub in-bits : write ≤ length bits

-- they are passed, and others stand before `write`
pub record Moved (l new : List Record) (keys bits : List ℕ) (read write : ℕ) (keys' bits' : List ℕ) (read' write' : ℕ) : Type 0 where
  pub passed : read' + length l ≡ read
  pub wrote : WroteBefore new write keys bits keys' bits' write'

-- what shrinking leaves of a picture's list of a block
abbrev pub pruned_at : (t : Step) (p : Picture) (b : TreeBlock) → List Record
pruned_at t p b = pruned p (step_over t p) b.height b.row b.column b.key

-- it waits to grow
pub record Growing (t : Step) (p : Picture) (b : TreeBlock) (keys bits : List ℕ) (read write : ℕ) : Type 0 where
  pub waits : Waiting b.key (pruned_at t p b) (length (list_at (step_over t p) b)) keys bits read write

-- so of a block of the map, and of some picture; the keys that are not passed yet ascend
pub record GrowAsked (t : Step) (m : ℕ) (b : TreeBlock) (keys bits : List ℕ) (read write : ℕ) : Type 0 where
  pub picture : Picture
  pub deep : m ≤ 10
  pub block : InMap m b
  pub growing : Growing t picture b keys bits read write
  pub ascends : Ascends keys read

-- the block's list of the step over the picture stands there, of whichever picture it is
pub record Grown (t : Step) (b : TreeBlock) (keys bits : List ℕ) (read write : ℕ) (keys' bits' : List ℕ) (read' write' : ℕ) : Type 0 where
  pub holds : (p : Picture) → Growing t p b keys bits read write → Moved (pruned_at t p b) (list_at (step_over t p) b) keys bits read write keys' bits' read' write'

-- the record before one place is to be moved before another, at or past it
pub record OwnAsked (read write : ℕ) (keys bits : List ℕ) : Type 0 where
  pub some : 0 < read
  pub apart : read ≤ write
  pub in_keys : write ≤ length keys
  pub in-bits : write ≤ length bits

-- it stands there, with a key that is told
pub record OwnWritten (key read write : ℕ) (keys bits keys' bits' : List ℕ) (read' write' : ℕ) : Type 0 where
  pub read_is : read' ≡ read - 1
  pub write_is : write' ≡ write - 1
  pub keys_are : keys' ≡ set keys (write - 1) key
  pub bits_are : bits' ≡ set bits (write - 1) (get_or bits (read - 1) 0)
