-- An accepted list: its records, the picture that they show, where a key stands among them, and the two slices that it was taken from. Only contracts need
-- this; proofs/Taken.antt has what it gives.
use Rattle.std.specs.Prelude.{ℕ, ◌≤◌, ◌≡◌, List, length, take}
use Rattle.definitions.specs.Picture.{Picture}
use Rattle.definitions.specs.List.{Record}
use Rattle.definitions.specs.Read.{room, records_of, picture_of}
use Rattle.list.specs.Among.{place_among}
use Rattle.list.specs.declared.accepted_list.Accepted.{Accepted}

-- the records of an accepted list
abbrev pub records_listed : Accepted → List Record
records_listed list = records_of list.keys.now list.bits.now (length list.keys.now)

-- and the picture that they show
abbrev pub picture_listed : Accepted → Picture
picture_listed list = picture_of list.m (records_listed list)

-- the place of the last of them whose key is at or before x
abbrev pub place_listed : Accepted → (x : ℕ) → ℕ
place_listed list x = place_among x (take (length list.keys.now) list.keys.now)

-- a list has the first n records of the two slices that it was taken from
pub record Taken (m : ℕ) (keys bits : List ℕ) (n : ℕ) (list : Accepted) : Type 0 where
  pub map : list.m ≡ m
  pub room_for : n ≤ room keys bits
  pub keys_taken : list.keys.now ≡ take n keys
  pub bits_taken : list.bits.now ≡ take n bits
