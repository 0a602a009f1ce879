-- The way down of a walk that asks the list, from the block where a turn begins: no block within the window is broken into, what select gives below the
-- key stays the same, and the place from which the next search begins serves. Rests on Steps, Asked and Below.
use Prim.Native.Nat.{ℕ, ◌≤◌}
use mathlib.Core.Path.{◌≡◌, ◌∙◌}
use mathlib.Core.Bool.{false}
use mathlib.Core.List.{List}
use native.Mathlib.Omega.{arith}
use Rattle.definitions.specs.Picture.{Picture}
use Rattle.definitions.specs.Window.{select_in}
use Rattle.definitions.specs.declared.Window.{Window}
use Rattle.list.specs.Sorted.{Near}
use Rattle.walk.specs.declared.Spot.{Spot}
use Rattle.walk.specs.Walk.{Walking, is_within, first_quadrant}
use Rattle.walk.specs.Given.{lower}
use Rattle.walk.proofs.Steps.{Parent, first_stands, parting_first}
use Rattle.walk.proofs.Asked.{near_later}
use Rattle.walk.proofs.Below.{lower_enter}

-- from the spot where the turn began to the one where the walk stands
pub record Descent (m : ℕ) (p : Picture) (w : Window) (f : ℕ) (keys : List ℕ) (n from : ℕ) (begun s : Spot) : Type 0 where
  pub walking : Walking m w s
  pub rise : begun.key ≤ s.key
  pub near : Near keys n from s.key
  pub gap : lower begun.key (select_in m p w f) ≡ lower s.key (select_in m p w f)

module _ {m : ℕ} (p : Picture) (w : Window) (f : ℕ) {keys : List ℕ} {n from : ℕ} where
  -- into a block that the window cuts, from its own place on
  pub descent_enters : {begun s : Spot} → Descent m p w f keys n from begun s → (place : ℕ) → Near keys n place s.key → Parent m s → is_within s w ≡ false
      → Descent m p w f keys n place begun (first_quadrant s)
  descent_enters d place near q e =
      record {
        walking = record { stands = first_stands q; parting = parting_first d.walking q e };
        rise = omega (arith, d.rise);
        near = near_later near _ (omega arith);
        gap = d.gap ∙ lower_enter m p w f d.walking.stands q e;
      }
