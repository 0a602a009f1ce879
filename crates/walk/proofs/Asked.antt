-- What the place of a block's key gives on an accepted list: the block's own bits are there, and the search for a later key can begin there. Rests on the
-- laws of standing.
use Prim.Native.Nat.{ℕ, ◌≤◌, ◌<◌}
use mathlib.Core.Path.{◌≡◌, sym, ◌∙◌, ap, subst}
use mathlib.Core.List.{List}
use native.Mathlib.Omega.{arith}
use lib.ListN.{get_or, take}
use Rattle.keys.specs.Under.{MapBlock}
use Rattle.definitions.specs.Bits.{bits_of}
use Rattle.list.specs.Own.{OwnList, shown_by}
use Rattle.list.specs.Sorted.{Near}
use Rattle.list.specs.Among.{place_among}
use Rattle.list.proofs.Own.{own_place, own_bits, own_near}

-- the place is one of the list's, and has the block's bits
pub record PlaceAsked (m : ℕ) (keys bits : List ℕ) (n k r c place : ℕ) : Type 0 where
  pub room : place < n
  pub value : get_or bits place 0 ≡ bits_of (shown_by m keys bits n) k r c

-- a place from which a search can begin serves for every later key too
pub near_later : {keys : List ℕ} {n from x : ℕ} → Near keys n from x → (y : ℕ) → x ≤ y → Near keys n from y
near_later h y later = record { room = h.room; before = omega (arith, h.before) }

module _ {m : ℕ} {keys bits : List ℕ} {n : ℕ} (o : OwnList m keys bits n) where
  -- so does the place that was found
  pub near_place : (κ place : ℕ) → place ≡ place_among κ (take n keys) → Near keys n place κ
  near_place κ place e = subst (λ (x : ℕ). Near keys n x κ) (sym e) (own_near o κ)

  -- at the place of the last key at or before a block's are the block's bits
  pub asked_place : {k r c κ : ℕ} → MapBlock m k r c κ → (place : ℕ) → place ≡ place_among κ (take n keys) → PlaceAsked m keys bits n k r c place
  asked_place {κ = κ} b place e =
      let low = own_place o κ in
      record { room = omega arith; value = ap (λ x. get_or bits x 0) e ∙ own_bits o b }
