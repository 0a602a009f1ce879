-- `count::count_block`: two leaves are one record, else the four quadrants' tallies are joined. The step falls at each call.
use Prim.Native.Nat.{ℕ, ◌/◌, ◌<◌}
use mathlib.Core.List.{List}
use mathlib.Core.Path.{◌≡◌}
use native.Mathlib.Omega.{arith}
use Rattle.combine.specs.Combining.{BothEntered, CombineAsked}
use Rattle.combine.specs.declared.cursor.Pair.{Pair}
use Rattle.combine.proofs.TwoLeaves.{not_both, leaves_slots, leaves_named, leaves_counted}
use Rattle.combine.proofs.BothLists.{between_next}
use Rattle.combine.proofs.FourCalls.{records_there, step_falls, Going, going, asks, four_small, node_counted}
use Rattle.combine.proofs.count.+count_block.Goals as goal

pub enter_both-here-requires : goal.enter_both-here-requires
enter_both-here-requires t c = records_there c.requires

pub class_bits-bits-requires : goal.class_bits-bits-requires
class_bits-bits-requires t c =
    let a = c.requires in
    let e = c.enter_both-here.ensures in
    record {
      first_value = leaves_slots _ a.seen e c.in-Some.ensures;
      second_in_bounds = leaves_named _ a.seen e c.in-Some.ensures a.named;
    }

pub returns-in-Some : goal.returns-in-Some
returns-in-Some t c = leaves_counted _ c.enter_both-here.ensures c.in-Some.ensures c.class_bits-bits.ensures c.passed-next.ensures

-- what the call for the next quadrant asks
calls : {bits₁ bits₂ table : List ℕ} {s₂ step : ℕ} {x y z : Pair} {d : ℕ} (a : CombineAsked bits₁ bits₂ table s₂ step x)
    → BothEntered bits₁ bits₂ x y → not_both y → (t : ℕ) → step ≡ t → Going a z d → d < 4 → (step / 5 < t) × CombineAsked bits₁ bits₂ table s₂ (step / 5) z
calls a e n t m b h = let f = step_falls a in (omega arith, asks a e n b h)

pub count_block-nw-requires : goal.count_block-nw-requires
count_block-nw-requires t c = calls c.requires c.enter_both-here.ensures c.in_default.ensures t c.decreases (going c.requires c.enter_both-here.ensures c.in_default.ensures) (omega arith)

pub count_block-ne-requires : goal.count_block-ne-requires
count_block-ne-requires t c = calls c.requires c.enter_both-here.ensures c.in_default.ensures t c.decreases (between_next (going c.requires c.enter_both-here.ensures c.in_default.ensures) (omega arith) c.count_block-nw.ensures.passes) (omega arith)

pub count_block-sw-requires : goal.count_block-sw-requires
count_block-sw-requires t c =
    let b = between_next (going c.requires c.enter_both-here.ensures c.in_default.ensures) (omega arith) c.count_block-nw.ensures.passes in
    calls c.requires c.enter_both-here.ensures c.in_default.ensures t c.decreases (between_next b (omega arith) c.count_block-ne.ensures.passes) (omega arith)

pub count_block-se-requires : goal.count_block-se-requires
count_block-se-requires t c =
    let b = between_next (going c.requires c.enter_both-here.ensures c.in_default.ensures) (omega arith) c.count_block-nw.ensures.passes in
    let g = between_next b (omega arith) c.count_block-ne.ensures.passes in
    calls c.requires c.enter_both-here.ensures c.in_default.ensures t c.decreases (between_next g (omega arith) c.count_block-sw.ensures.passes) (omega arith)

pub joined-tally-requires : goal.joined-tally-requires
joined-tally-requires t c =
    four_small c.enter_both-here.ensures c.in_default.ensures c.count_block-nw.ensures c.count_block-ne.ensures c.count_block-sw.ensures
    c.count_block-se.ensures c.requires

pub returns : goal.returns
returns t c =
    node_counted c.enter_both-here.ensures c.in_default.ensures c.count_block-nw.ensures c.count_block-ne.ensures c.count_block-sw.ensures
    c.count_block-se.ensures c.joined-tally.ensures c.passed-next-2.ensures
