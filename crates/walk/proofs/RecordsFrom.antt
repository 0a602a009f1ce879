-- The records from a place on: the one at the place and those after it, and none past the last. Rests on the definitions alone.
use Prim.Native.Nat.{ℕ, zero, suc, ◌≤◌, ◌<◌}
use mathlib.Core.Path.{◌≡◌, refl}
use mathlib.Core.List.{List, [], ◌∷◌}
use native.Mathlib.Omega.{arith}
use lib.ListN.{length, get_or, take, drop}
use Rattle.definitions.specs.List.{record_of}
use Rattle.definitions.specs.Read.{paired, records_of}

-- the record at a place, and those after it
pub records-drop : (keys bits : List ℕ) (n i : ℕ) → i < n → n ≤ length keys → n ≤ length bits
    → drop i (records_of keys bits n) ≡ record_of (get_or keys i 0) (get_or bits i 0) ∷ drop (suc i) (records_of keys bits n)
unfolding paired
records-drop keys bits zero i h a b = absurd (omega arith)
records-drop [] bits (suc n) i h a b = absurd (omega arith)
records-drop (κ ∷ keys) [] (suc n) i h a b = absurd (omega arith)
records-drop (κ ∷ keys) (v ∷ bits) (suc n) zero h a b = refl
records-drop (κ ∷ keys) (v ∷ bits) (suc n) (suc i) h a b = records-drop keys bits n i (omega arith) (omega arith) (omega arith)

-- past the last there is none
pub records_past_end : (keys bits : List ℕ) (n i : ℕ) → n ≤ i → drop i (records_of keys bits n) ≡ []
unfolding paired
records_past_end keys bits zero i h = none i
  where
    none : (i : ℕ) → drop i (paired (take zero keys) (take zero bits)) ≡ []
    none zero = refl
    none (suc i) = refl
records_past_end keys bits (suc n) zero h = absurd (omega arith)
records_past_end [] bits (suc n) (suc i) h = refl
records_past_end (κ ∷ keys) [] (suc n) (suc i) h = refl
records_past_end (κ ∷ keys) (v ∷ bits) (suc n) (suc i) h = records_past_end keys bits n i (omega arith)
