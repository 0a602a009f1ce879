-- A block whose record is a leaf's is passed by that record alone: the next search begins at it. Rests on walk's Going.
use Prim.Native.Nat.{ℕ}
use mathlib.Core.List.{List}
use Rattle.list.specs.Sorted.{Near}
use Rattle.walk.specs.declared.Spot.{Spot}
use Rattle.walk.proofs.Going.{WalkGoes, WalkPast, past_unasked}

pub past_leaf : {m : ℕ} {keys : List ℕ} {n from x : ℕ} {s : Spot} → WalkGoes m keys n from x s → (place : ℕ) → Near keys n place s.key → WalkPast m keys n place x s
past_leaf {m} {keys} {n} {x = x} {s} g place near =
    let here : WalkGoes m keys n place x s = record { stands = g.stands; rise = g.rise; near = near } in
    past_unasked here
