-- What asking the list tells the walk, by the standing of its block. Only contracts need these; what they say of the picture is proved in
-- proofs/Told.antt.
use Rattle.std.specs.Prelude.{ℕ, ◌+◌, ◌-◌, ◌≡◌, List}
use Rattle.definitions.specs.Read.{records_of}
use Rattle.definitions.specs.Standing.{standing_of}
use Rattle.definitions.specs.declared.Standing.{Standing}
use Rattle.definitions.specs.declared.Standing.TheVariants.{Listed, Inside}
use Rattle.walk.specs.declared.Spot.{Spot}
use Rattle.walk.specs.declared.asking.Told.{Told}
use Rattle.walk.specs.Walk.{BlockSpot}

-- the place of the record that has the block's bits, the last of the records of the block which that is the record of, and that block's key
abbrev pub place_in : Standing → ℕ
place_in (Listed place records) = place
place_in (Inside place leaf level) = place

abbrev pub last_in : Standing → ℕ
last_in (Listed place records) = place + (records - 1)
last_in (Inside place leaf level) = place

abbrev pub whole_in : ℕ → Standing → ℕ
whole_in κ (Listed place records) = κ
whole_in κ (Inside place leaf level) = leaf

pub record Tells (m : ℕ) (keys bits : List ℕ) (n : ℕ) (s : Spot) (told : Told) : Type 0 where
  pub place : told.place ≡ place_in (standing_of m s.key (records_of keys bits n))
  pub last : told.last ≡ last_in (standing_of m s.key (records_of keys bits n))
  pub whole : BlockSpot m told.whole
  pub key : told.whole.key ≡ whole_in s.key (standing_of m s.key (records_of keys bits n))
