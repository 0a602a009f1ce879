-- Rests that never lead to slices with less room for a list, and demand 3's own record, of the slices lent last. Rests on Events and Claim.
use Rattle.std.specs.Prelude.{ℕ, ◌≤◌, List, [], ◌∷◌}
use Rattle.definitions.specs.Read.{room}
use Rattle.history.specs.Claim.{AsBuilt}
use Rattle.rests.specs.Events.{Event, calling, resting, resting_short, Reached, list_room, after_event}

-- an event that leads to no slices with less room for a list
abbrev pub KeepsRoom : (t : Reached) → Event → Type 0
KeepsRoom t (calling c) = Unit
KeepsRoom t (resting to) = list_room t.lent ≤ room to.keys to.bits
KeepsRoom t (resting_short to) = list_room t.lent ≤ room to.keys to.bits

-- events none of which does
unfoldable pub AllKeepRoom : (m s : ℕ) (t : Reached) → List Event → Type 0
AllKeepRoom m s t [] = Unit
AllKeepRoom m s t (e ∷ es) = KeepsRoom t e × AllKeepRoom m s (after_event m s t e) es

-- demand 3's claim, of the slices lent last
abbrev pub AsBuiltLast : (m s : ℕ) (raster : List ℕ) → Reached → Type 0
AsBuiltLast m s raster t =
    AsBuilt m s raster t.lent.keys t.lent.bits t.lent.summary t.lent.log_keys t.lent.log_values t.buffers t.paints t.in_list t.in_log
