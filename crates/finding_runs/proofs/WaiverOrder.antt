-- Waivers that ascend, place by place: each stands before every later one, by id and then key. Rests on WaiverPlaces and FindingOrder.
use Prim.Native.Nat.{ℕ, ◌<◌}
use mathlib.Core.Path.{◌≡◌}
use mathlib.Core.Bool.{true}
use mathlib.Core.List.{List}
use native.Mathlib.Omega.{arith}
use Rattle.definitions.specs.Read.{room}
use Rattle.definitions.specs.Rules.{finding_of, waivers_of, findings_ascend}
use Rattle.laws.proofs.FindingOrder.{Earlier, ascend_order, order_places}
use Rattle.finding_runs.proofs.WaiverPlaces.{waiver_at, waivers-length, waivers_at}

-- each comes before every later one
pub earlier_at : (ids keys : List ℕ) → findings_ascend (waivers_of ids keys) ≡ true → (i j : ℕ) → i < j → j < room ids keys → Earlier (waiver_at ids keys i) (waiver_at ids keys j)
earlier_at ids keys asc i j before h =
    let count = waivers-length ids keys in
    rw (← waivers_at ids keys i (omega arith)) (rw (← waivers_at ids keys j h) (order_places (finding_of 0 0) (ascend_order (waivers_of ids keys) asc) i j before (omega arith)))
