-- What the functions of the check answer that pass over a node's records in a file: the place after its last one, or none where what follows its own record are
-- not its four children. Only contracts need it; proofs/FileAfter.antt has its laws.
use Rattle.std.specs.Prelude.{ℕ, ◌≤◌, ◌<◌, ◌≡◌, List, drop, Option, Some, unwrap_or}
use Rattle.list.specs.Check.{rest_place, after_node, step_under}
use Rattle.file.specs.Layout.{records_at}

pub record AfterNodeIn (width n : ℕ) (file : List ℕ) (first key own step : ℕ) (answer : Option ℕ) : Type 0 where
  pub within : unwrap_or answer 0 ≤ n
  pub past : (place : ℕ) → answer ≡ Some place → 0 < place
  pub checked : (k : ℕ) → step ≡ step_under k → unwrap_or answer 0 ≡ rest_place n (after_node k key own (drop first (records_at width n file)))
