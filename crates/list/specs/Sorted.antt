-- What the searches among keys ask of the lent key slice: only contracts need these records. Every accepted list has them (proofs/Own.antt).
use Rattle.std.specs.Prelude.{ℕ, ◌≤◌, ◌<◌, List, length, get_or}

-- the first n keys are there and ascend strictly
pub record Ascends (keys : List ℕ) (n : ℕ) : Type 0 where
  pub room : n ≤ length keys
  pub ascend : (i j : ℕ) → i < j → j < n → get_or keys i 0 < get_or keys j 0

-- and there is at least one, the first of which is at or before the key that is looked for
pub record Sorted (keys : List ℕ) (n key : ℕ) : Type 0 where
  pub ascends : Ascends keys n
  pub some : 1 ≤ n
  pub first : get_or keys 0 0 ≤ key

-- a place among the first n whose key is at or before x: the search for x can begin there
pub record Near (keys : List ℕ) (n from x : ℕ) : Type 0 where
  pub room : from < n
  pub before : get_or keys from 0 ≤ x
