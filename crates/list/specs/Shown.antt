-- What bitstrings show from a place on: the list of a block, without its keys. Only contracts need it; proofs/Shown.antt and ShownQuadrants.antt have
-- its laws.
use Rattle.std.specs.Prelude.{ℕ, ◌≡◌, List, ◌++◌, drop}
use Rattle.definitions.specs.Picture.{Picture}
use Rattle.definitions.specs.List.{values_of, list_of}

-- from place `at` on the bitstrings are those of the list of a block
pub record ShownAt (p : Picture) (k r c κ : ℕ) (bits : List ℕ) (at : ℕ) : Type 0 where
  pub rest : List ℕ
  pub values : drop at bits ≡ values_of (list_of p k r c κ) ++ rest
