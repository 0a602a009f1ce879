-- What counting anew after an edit asks: the list is already changed, in one block alone, and the summary still has the counts from before. Only
-- contracts need it; proofs/Recounted.antt has its laws.
use Rattle.std.specs.Prelude.{ℕ, ◌^◌, ◌≤◌, ◌<◌, ◌≡◌, true, false, List}
use Rattle.keys.specs.Key.{slot_limit, valid_key}
use Rattle.keys.specs.Block.{in_block}
use Rattle.definitions.specs.Picture.{Picture}
use Rattle.definitions.specs.Area.{summary_of}
use Rattle.list.specs.declared.accepted_list.Accepted.{Accepted}
use Rattle.list.specs.Taken.{picture_listed}

pub record Outdated (list : Accepted) (s : ℕ) (summary : List ℕ) (κ : ℕ) : Type 0 where
  pub few : s ≤ slot_limit
  pub valid : valid_key list.m κ ≡ true
  pub before : Picture
  pub counts : summary ≡ summary_of list.m s before
  pub outside : (row column : ℕ) → row < 2 ^ list.m → column < 2 ^ list.m → in_block list.m κ row column ≡ false → picture_listed list row column ≡ before row column
