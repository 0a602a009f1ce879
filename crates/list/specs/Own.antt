-- An accepted list as inner functions ask for it: the first n records are there, and are the list of the picture that they show. Only contracts
-- need it; the check of a list gives it (proofs/Own.antt).
use Rattle.std.specs.Prelude.{ℕ, ◌≤◌, ◌≡◌, true, List}
use Rattle.keys.specs.Key.{valid_key}
use Rattle.definitions.specs.Picture.{Picture}
use Rattle.definitions.specs.List.{list_of_picture}
use Rattle.definitions.specs.Read.{room, records_of, picture_of}

-- the picture that the first n records of two slices show
abbrev pub shown_by : ℕ → List ℕ → List ℕ → ℕ → Picture
shown_by m keys bits n = picture_of m (records_of keys bits n)

pub record OwnList (m : ℕ) (keys bits : List ℕ) (n : ℕ) : Type 0 where
  pub fits : n ≤ room keys bits
  pub own : records_of keys bits n ≡ list_of_picture m (shown_by m keys bits n)

-- a block of the map whose list is accepted, by its key
pub record BlockIn (m : ℕ) (keys bits : List ℕ) (n κ : ℕ) : Type 0 where
  pub deepest : m ≤ 10
  pub own : OwnList m keys bits n
  pub valid : valid_key m κ ≡ true
