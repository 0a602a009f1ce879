-- What the pass that checks a list and counts it asks of a node, and what it answers: the place that the check answers, if there is one, and then
-- the counters that the count leaves. Only contracts need it; proofs/PassTurn.antt has its laws.
use Rattle.std.specs.Prelude.{ℕ, suc, ◌+◌, ◌*◌, ◌^◌, ◌≤◌, ◌<◌, ◌≡◌, false, List, length, get_or, drop, Option, Some, unwrap_or}
use Rattle.definitions.specs.Read.{paired}
use Rattle.list.specs.Check.{one_slot, rest_place, after_node, step_under}
use Rattle.summary.specs.Count.{CountersFit, NodeCounted}

-- the own record of a node stands at a place, with its bits, and keys below the node fit
pub record NodeThere (keys bits : List ℕ) (at key own step : ℕ) : Type 0 where
  pub size : length keys ≡ length bits
  pub there : at < length keys
  pub own_is : own ≡ get_or bits at 0
  pub several : one_slot own ≡ false
  pub fits : key + 5 * step < 2 ^ 32

-- a step and an area belong to one height above the pixels
pub record OneHeight (step area : ℕ) : Type 0 where
  pub height : ℕ
  pub steps : step ≡ 5 ^ height
  pub pixels : area ≡ 4 ^ suc height

pub record PassAsked (keys bits counts : List ℕ) (at key own step area : ℕ) : Type 0 where
  pub node : NodeThere keys bits at key own step
  pub level : OneHeight step area
  pub room : CountersFit counts area

-- where no place is answered, the check's is 0
pub record PassAnswered (keys bits before after : List ℕ) (at key own step area : ℕ) (answer : Option ℕ) : Type 0 where
  pub within : unwrap_or answer 0 ≤ length keys
  pub checked : (k : ℕ) → step ≡ step_under k → unwrap_or answer 0 ≡ rest_place (length keys) (after_node k key own (drop (at + 1) (paired keys bits)))
  pub counted : (place : ℕ) → answer ≡ Some place → (0 < place) × NodeCounted bits at area before after place
