-- Where the walk stands, what was sifted is what select gives below the key. Within a turn it goes down to a block that
-- lies within the window, or apart from it, or lacks the feature; the key rises from turn to turn. Rests on the laws of the way down and of the merge.
use Prim.Native.Nat.{ℕ, ◌-◌, ◌^◌}
use mathlib.Core.Path.{◌≡◌}
use mathlib.Core.List.{List}
use Rattle.definitions.specs.Picture.{Picture}
use Rattle.definitions.specs.Window.{select_in}
use Rattle.definitions.specs.declared.Window.{Window}
use lib.ListN.{length}
use Rattle.list.specs.Taken.{picture_listed}
use Rattle.list.specs.Sorted.{Near}
use Rattle.walk.specs.declared.Spot.{Spot}
use Rattle.walk.specs.Walk.{Walking}
use Rattle.walk.specs.Given.{lower}
use Rattle.finding.proofs.Descent.{Descent}
use Rattle.finding.specs.declared.Sifting.{Sifting}
use Rattle.finding.specs.Sift.{Sifted}
use Rattle.finding.proofs.sift_rule.Given as goal

-- what select gives below x was sifted
abbrev pub Below : ℕ → Picture → Window → ℕ → ℕ → ℕ → List ℕ → Sifting → Sifting → List ℕ → List ℕ → List ℕ → List ℕ → ℕ → Type 0
Below m p w f limit id waived at st ids₀ ids keys₀ keys x = Sifted m limit id waived (lower x (select_in m p w f)) at st ids₀ ids keys₀ keys x

pub record Going (m : ℕ) (p : Picture) (w : Window) (f limit id : ℕ) (waived : List ℕ) (at st : Sifting) (ids₀ ids keys₀ keys records : List ℕ) (n from : ℕ) (s : Spot) : Type 0 where
  pub walking : Walking m w s
  pub near : Near records n from s.key
  pub sifted : Below m p w f limit id waived at st ids₀ ids keys₀ keys s.key

-- on the way down from the block of the turn nothing is sifted
pub record Down (m : ℕ) (p : Picture) (w : Window) (f : ℕ) (st₀ st : Sifting) (ids₀ ids keys₀ keys records : List ℕ) (n from : ℕ) (s₀ s : Spot) : Type 0 where
  pub descent : Descent m p w f records n from s₀ s
  pub states : st ≡ st₀
  pub same_ids : ids ≡ ids₀
  pub same_keys : keys ≡ keys₀

abbrev pub invariant-loop-from-2 : goal.invariant-loop-from-2
invariant-loop-from-2 l =
    let list = l.list in
    let n = length list.keys.now in
    Down list.m (picture_listed list) l.window l.fn.rule.feature l.initial.st l.st l.initial.found_ids l.found_ids l.initial.found_keys l.found_keys list.keys.now n l.from l.initial.spot l.spot

abbrev pub decreases-loop-from-2 : goal.decreases-loop-from-2
decreases-loop-from-2 l = l.spot.step

abbrev pub invariant-loop-from : goal.invariant-loop-from
invariant-loop-from l =
    let list = l.list in
    let n = length list.keys.now in
    Going list.m (picture_listed list) l.window l.fn.rule.feature l.limit l.fn.rule.id l.waived l.initial.st l.st l.initial.found_ids l.found_ids l.initial.found_keys l.found_keys list.keys.now n l.from l.spot

abbrev pub decreases-loop-from : goal.decreases-loop-from
decreases-loop-from l = 5 ^ l.list.m - l.spot.key
