-- What moving a block's records as they are asks and leaves. Only contracts need these.
use Rattle.std.specs.Prelude.{ℕ, ◌-◌, ◌≤◌, ◌<◌, ◌≡◌, List, length, get_or, take, drop}
use Rattle.std.proofs.lemmas.List.Edits.{sets}
use Rattle.list.specs.Sorted.{Ascends}
use Rattle.deeds.specs.declared.meeting.Meeting.{Meeting}
use Rattle.deeds.specs.declared.meeting.Meeting.TheVariants.{Apart}

-- the last place before `read` that has a key
pub record StartAt (key read : ℕ) (keys : List ℕ) (start : ℕ) : Type 0 where
  pub some : start < read
  pub is : get_or keys start 0 ≡ key
  pub last : (i : ℕ) → start < i → i < read → get_or keys i 0 ≡ key → ⊥

-- there is one, and the keys before `read` ascend
pub record StartAsked (key read : ℕ) (keys : List ℕ) : Type 0 where
  pub start : ℕ
  pub at : StartAt key read keys start
  pub ascends : Ascends keys read

-- the records from there up to `read` are to be moved before `write`
pub record SlideAsked (key read write : ℕ) (keys bits : List ℕ) : Type 0 where
  pub asked : StartAsked key read keys
  pub apart : read ≤ write
  pub in_keys : write ≤ length keys
  pub in-bits : write ≤ length bits

-- they stand there
pub record Slid (key read write : ℕ) (keys bits keys' bits' : List ℕ) (read' write' : ℕ) : Type 0 where
  pub at : StartAt key read keys read'
  pub write_is : write' ≡ write - (read - read')
  pub keys_are : keys' ≡ sets keys write' (take (read - read') (drop read' keys))
  pub bits_are : bits' ≡ sets bits write' (take (read - read') (drop read' bits))

-- a block stays as it is: no record before `read` has to move, or the step does not touch it
pub data Stays (meeting : Meeting) (read write : ℕ) : Type 0 where
  level : read ≡ write → Stays meeting read write
  untouched : meeting ≡ Apart → Stays meeting read write
