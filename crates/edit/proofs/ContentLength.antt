-- How many records a block's content has: they are there, and the entry that a paint logs has them and what closes it. Rests on PlanPlaces.
use Prim.Native.Nat.{ℕ, ◌+◌, ◌^◌, ◌≤◌}
use mathlib.Core.Path.{◌≡◌, refl}
use mathlib.Core.Bool.{true}
use mathlib.Core.List.{List, [], ◌∷◌}
use native.Mathlib.Omega.{arith}
use lib.ListN.{length, take, length-take}
use lib.Dec.{ltb}
use Rattle.keys.specs.Key.{valid_key, height_of}
use Rattle.keys.proofs.Cases.{decide}
use Rattle.definitions.specs.Read.{records_of}
use Rattle.definitions.specs.Standing.{place_of, part_length}
use Rattle.definitions.specs.Log.{closing_places}
use Rattle.definitions.specs.Calls.Paint.{gained}
use Rattle.list.specs.Own.{OwnList}
use Rattle.list.specs.Among.{keys_below}
use Rattle.edit.proofs.Gained.{gained-length}
use Rattle.replace.proofs.PlanPlaces.{part_until}

-- at most all keys are below x
pub below_most : (x : ℕ) (keys : List ℕ) → keys_below x keys ≤ length keys
unfolding keys_below
below_most x [] = omega arith
below_most x (κ ∷ keys) = let h = below_most x keys in decide (ltb κ x) (λ t. rw t (omega arith)) (λ t. rw t (omega arith))

-- at most n of the first n
pub below_first : (x n : ℕ) (keys : List ℕ) → keys_below x (take n keys) ≤ n
below_first x n keys = let h = below_most x (take n keys) in let e = length-take n keys in omega arith

module _ {m n : ℕ} {keys bits : List ℕ} (own : OwnList m keys bits n) (key : ℕ) (valid : valid_key m key ≡ true) where
  -- the records of the block's part are there
  pub part_there : place_of key (records_of keys bits n) + part_length m key (records_of keys bits n) ≤ n
  part_there = let e = part_until own key (5 ^ height_of m key) valid refl in let h = below_first (key + 5 ^ height_of m key) n keys in omega arith

  -- the entry has them and what closes it
  pub gained_size : (f : ℕ) → length (gained m (records_of keys bits n) key f) ≡ part_length m key (records_of keys bits n) + closing_places
  gained_size f = gained-length m key f (records_of keys bits n) valid own.own
