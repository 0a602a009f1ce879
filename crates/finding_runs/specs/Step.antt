-- What the contracts of one rule's step say besides Run: where a rule's waivers end, and when its findings are gathered. Only contracts need these.
use Rattle.std.specs.Prelude.{ℕ, ◌+◌, ◌≤◌, ◌<◌, ◌≡◌, true, false, List, get_or}
use Rattle.definitions.specs.declared.Rule.{Rule}
use Rattle.finding.specs.declared.Sifting.{Sifting}
use Rattle.finding_runs.specs.Run.{Progress, RulesFine, pixels_of, may_come, is_unknown}

-- the waivers from a place to another have no larger id than the rule
pub record OwnFrom (waiver_ids : List ℕ) (from count id place : ℕ) : Type 0 where
  pub start : from ≤ place
  pub within : place ≤ count
  pub own : (i : ℕ) → from ≤ i → i < place → get_or waiver_ids i 0 ≤ id

-- and that at the last place has a larger one
pub record OwnEnd (waiver_ids : List ℕ) (from count id place : ℕ) : Type 0 where
  pub run : OwnFrom waiver_ids from count id place
  pub past : place < count → id < get_or waiver_ids place 0

-- the run is not refused, the rule may come, and no waiver is wrong
pub record Gatherable (keys bits waiver_ids waiver_keys : List ℕ) (rule : Rule) (p : Progress) : Type 0 where
  pub fine : RulesFine keys bits waiver_ids waiver_keys p
  pub may : may_come rule p.state ≡ true
  pub right : p.state.faulty ≡ false
  pub known : is_unknown keys bits waiver_ids waiver_keys rule p.state ≡ false

-- as many live findings more as the rule's window has pixels
abbrev pub widened : Rule → Sifting → Sifting
widened rule at = record { passed = at.passed; furthest = at.furthest; live = at.live + pixels_of rule; hidden = at.hidden }
