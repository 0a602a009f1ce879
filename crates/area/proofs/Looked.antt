-- What the record at a block's place tells of the block: it has the feature, or the feature alone. Rests on the window's laws of looking up.
use Prim.Native.Nat.{ℕ, ◌^◌}
use mathlib.Core.Path.{◌≡◌, sym, ◌∙◌, ap}
use mathlib.Core.Bool.{true}
use mathlib.Core.List.{List}
use lib.Bits.{bit_and}
use lib.ListN.{get_or, take}
use Rattle.definitions.specs.Bits.{has_slot}
use Rattle.list.specs.Own.{OwnList, shown_by}
use Rattle.list.specs.Among.{place_among}
use Rattle.walk.specs.Walk.{BlockSpot}
use Rattle.walk.specs.declared.Spot.{Spot}
use Rattle.walk.proofs.Asked.{asked_place}
use Rattle.walk.proofs.SpotBits.{bits_at}
use Rattle.walk.proofs.Slot.{bit_some}

module _
    {m : ℕ}
    {keys bits : List ℕ}
    {n : ℕ}
    (o : OwnList m keys bits n)
    {s : Spot}
    (h : BlockSpot m s)
    (f bit : ℕ)
    (is : bit ≡ 2 ^ f)
    (place : ℕ)
    (e : place ≡ place_among s.key (take n keys))
  where
    pub place_yes : (bit_and (get_or bits place 0) bit ≡ 0 → ⊥) → has_slot (bits_at (shown_by m keys bits n) h) f ≡ true
    place_yes some =
        let a = asked_place o h.block place e in
        bit_some _ f (λ z. some (ap (bit_and (get_or bits place 0)) is ∙ ap (λ x. bit_and x (2 ^ f)) a.value ∙ z))

    pub place_alone : get_or bits place 0 ≡ bit → bits_at (shown_by m keys bits n) h ≡ 2 ^ f
    place_alone same = sym (asked_place o h.block place e).value ∙ same ∙ is

    pub place_mixed : (get_or bits place 0 ≡ bit → ⊥) → bits_at (shown_by m keys bits n) h ≡ 2 ^ f → ⊥
    place_mixed other alone = other ((asked_place o h.block place e).value ∙ alone ∙ sym is)
