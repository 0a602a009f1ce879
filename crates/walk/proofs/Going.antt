-- Where a walk stands that asks the list: at a block, from a key on, with a place from which the next search can begin. Keys only rise, so the place of a
-- block that is entered serves for its first quadrant, and the last record of one that is passed for what follows. Rests on Steps, Asked and Told.
use Prim.Native.Nat.{ℕ, ◌+◌, ◌-◌, ◌^◌, ◌≤◌, ◌<◌}
use mathlib.Core.Path.{◌≡◌}
use mathlib.Core.List.{List}
use native.Mathlib.Omega.{arith}
use Rattle.list.specs.Own.{OwnList}
use Rattle.list.specs.Sorted.{Near}
use Rattle.walk.specs.declared.Spot.{Spot}
use Rattle.walk.specs.declared.asking.Told.{Told}
use Rattle.walk.specs.Walk.{BlockSpot, first_quadrant}
use Rattle.walk.specs.Asked.{Tells}
use Rattle.walk.proofs.Steps.{Parent, some_keys, first_stands, rises}
use Rattle.list.proofs.Fuller.{near_root}
use Rattle.walk.proofs.Asked.{near_later}
use Rattle.walk.proofs.Told.{told_holds, told_beyond}

pub record WalkGoes (m : ℕ) (keys : List ℕ) (n from x : ℕ) (s : Spot) : Type 0 where
  pub stands : BlockSpot m s
  pub rise : x ≤ s.key
  pub near : Near keys n from s.key

-- at the root, with the first record
pub going_root : {m : ℕ} {keys bits : List ℕ} {n : ℕ} {s : Spot} → OwnList m keys bits n → BlockSpot m s → WalkGoes m keys n 0 s.key s
going_root o h = record { stands = h; rise = omega arith; near = near_root o _ }

-- into a block that the window cuts, with the block's own place
pub going_first : {m : ℕ} {keys : List ℕ} {n from x : ℕ} {s : Spot} → WalkGoes m keys n from x s → Parent m s → (place : ℕ) → Near keys n place s.key
    → WalkGoes m keys n place x (first_quadrant s)
going_first g q place near = record { stands = first_stands q; rise = omega (arith, g.rise); near = near_later near _ (omega arith) }

-- a block is passed, with all below it: from where the search goes on
pub record WalkPast (m : ℕ) (keys : List ℕ) (n from x : ℕ) (s : Spot) : Type 0 where
  pub stands : BlockSpot m s
  pub beyond : x < s.key + s.step
  pub near : Near keys n from (s.key + s.step)

-- one that was not asked for
pub past_unasked : {m : ℕ} {keys : List ℕ} {n from x : ℕ} {s : Spot} → WalkGoes m keys n from x s → WalkPast m keys n from x s
past_unasked {s = s} g =
    let k = some_keys g.stands in
    record { stands = g.stands; beyond = omega (arith, g.rise); near = near_later g.near _ (omega arith) }

-- or the whole block that was told
pub past_told : {m : ℕ} {keys bits : List ℕ} {n from x : ℕ} {s : Spot} {told : Told} → m ≤ 10 → OwnList m keys bits n → WalkGoes m keys n from x s
    → Tells m keys bits n s told
    → WalkPast m keys n told.last x told.whole
past_told low o g t =
    let k = some_keys g.stands in
    record {
      stands = t.whole;
      beyond = omega (arith, g.rise, told_holds low o g.stands t);
      near = told_beyond low o g.stands t;
    }

-- on to the block that follows
pub going_on : {m : ℕ} {keys : List ℕ} {n from x : ℕ} {s : Spot} → WalkPast m keys n from x s → (t : Spot) → BlockSpot m t → t.key ≡ s.key + s.step
    → WalkGoes m keys n from t.key t
going_on {keys = keys} {n} {from} p t h e = record { stands = h; rise = omega arith; near = rw e p.near }

-- after which fewer keys are left than at the block of the turn
pub going_less : {m : ℕ} {keys : List ℕ} {n from : ℕ} {s₀ s : Spot} → BlockSpot m s₀ → WalkPast m keys n from s₀.key s → (x : ℕ) → x ≡ s.key + s.step
    → 5 ^ m - x < 5 ^ m - s₀.key
going_less h p x e = rises h x (omega (arith, p.beyond))
