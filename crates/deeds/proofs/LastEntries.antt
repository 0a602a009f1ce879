-- The last count entries of a log as a run: where they start, and how many they are. Rests on the definitions alone.
use Prim.Native.Nat.{ℕ}
use mathlib.Core.Path.{◌≡◌}
use mathlib.Core.List.{List}
use lib.ListN.{length}
use Rattle.deeds.specs.Runs.{last_first, Chain, start_back}

-- so many entries before a place, from where they start
pub record LastOnes (m s : ℕ) (ks vs : List ℕ) (count end : ℕ) : Type 0 where
  pub chain : Chain m s ks vs (start_back count ks vs end) end
  pub many : length (last_first end ks vs (start_back count ks vs end) end) ≡ count
