-- What the loop of `gather_leaf` keeps: what was given is what select gives from the first block on and before the key, in every picture that has the
-- feature in the leaf.
use Prim.Native.Nat.{◌-◌, ◌^◌}
use Rattle.window.proofs.LeafBlocks.{Running}
use Rattle.window.proofs.select.gather_leaf.Given as goal

abbrev pub invariant-loop-answer : goal.invariant-loop-answer
invariant-loop-answer l =
    Running l.m l.window l.limit l.end l.initial.spot.key l.count l.initial.answer l.leaf_key l.spot l.answer l.given

abbrev pub decreases-loop-answer : goal.decreases-loop-answer
decreases-loop-answer l =
    5 ^ l.m - l.spot.key
