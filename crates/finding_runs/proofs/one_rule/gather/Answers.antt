-- The part of the waivers' keys that is lent is the rule's own. Rests on StepGathered.
use Prim.Native.Nat.{◌<◌, ◌+◌}
use mathlib.Core.Path.{ap, ◌∙◌}
use native.Mathlib.Omega.{arith}
use Rattle.finding_runs.specs.Run.{counting}
use Rattle.finding_runs.proofs.StepGathered.{own_window, own_feature, own_small, own_records, passed_room, lent_ready, counts_small, widened_served, sifted_served, listed_ready, listed_window, listed_sifted}
use Rattle.finding_runs.proofs.one_rule.gather.Goals as goal

pub own_end-end-requires : goal.own_end-end-requires
own_end-end-requires c = passed_room _ _ _ _ _ _ c.requires

pub widen-requires : goal.widen-requires
widen-requires c =
    let fits : c.args.rule.id < 4294967296 = omega arith in
    let small = own_small _ _ _ _ _ _ c.requires in
    (small.0, small.1, counts_small _ _ _ _ _ _ c.requires _ c.own_end-end.ensures fits)

pub returns-then-state-eq-BOUNDING : goal.returns-then-state-eq-BOUNDING
returns-then-state-eq-BOUNDING c =
    widened_served _ _ _ _ _ _ c.requires _ c.own_end-end.ensures c.if-state-eq-BOUNDING.true c.widen.ensures
    (c.counted.ensures ∙ ap (λ k. counting (k + 1) c.own_end-end.result c.widen.result.live c.widen.result.hidden c.args.state) c.from-next.ensures)

pub taken-list-requires : goal.taken-list-requires
taken-list-requires c = (c.requires.fine.level, own_records _ _ _ _ _ _ c.requires)

pub sift_rule-sifted-requires : goal.sift_rule-sifted-requires
sift_rule-sifted-requires c =
    let fits : c.args.rule.id < 4294967296 = omega arith in
    let g = c.requires in
    let t = c.taken-list.ensures in
    (listed_window _ _ _ _ _ t c.args.rule (own_window _ _ _ _ _ _ g), own_feature _ _ _ _ _ _ g, listed_ready _ _ _ _ _ t _ _ _ _ _ _ _ (lent_ready _ _ _ _ _ _ g _ c.own_end-end.ensures fits))

pub returns : goal.returns
returns c =
    let t = c.taken-list.ensures in
    sifted_served _ _ _ _ _ _ c.requires _ c.own_end-end.ensures (listed_sifted _ _ _ _ _ t _ _ _ _ _ _ _ _ _ c.sift_rule-sifted.ensures)
    c.if-state-eq-BOUNDING.false
    (c.counted-2.ensures ∙ ap (λ k. counting (k + 1) c.own_end-end.result c.sift_rule-sifted.result.live c.sift_rule-sifted.result.hidden c.args.state) c.from-next.ensures)
