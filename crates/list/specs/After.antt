-- What the functions of the check answer that pass over a node's records: the place after its last one, or none where what follows its own record are not its
-- four children. Only contracts need it; proofs/AfterNode.antt has its laws.
use Rattle.std.specs.Prelude.{ℕ, ◌≤◌, ◌<◌, ◌≡◌, List, length, drop, Option, Some, unwrap_or}
use Rattle.definitions.specs.Read.{paired}
use Rattle.list.specs.Check.{rest_place, after_node, step_under}

pub record AfterNode (keys bits : List ℕ) (first key own step : ℕ) (answer : Option ℕ) : Type 0 where
  pub within : unwrap_or answer 0 ≤ length keys
  pub past : (place : ℕ) → answer ≡ Some place → 0 < place
  pub checked : (k : ℕ) → step ≡ step_under k → unwrap_or answer 0 ≡ rest_place (length keys) (after_node k key own (drop first (paired keys bits)))
