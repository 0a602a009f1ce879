-- `calls::delivered`: the count is held against both slices, and then the leaves against the raster.
use mathlib.Core.Path.{sym, ◌∙◌, ap}
use mathlib.Core.Bool.{cond}
use Rattle.std.specs.Prelude.{Some, None}
use native.Mathlib.Omega.{arith}
use lib.ListN.{length}
use Rattle.definitions.specs.Calls.ReadLeaves.{list_delivered}
use Rattle.leaves.proofs.ReadAnswer.{delivery_short, delivery_full}
use Rattle.leaves.proofs.calls.delivered.Goals as goal

pub returns-then-min-leaves : goal.returns-then-min-leaves
returns-then-min-leaves c =
    let keys = c.args.leaf_keys.now in
    let features = c.args.leaf_features.now in
    sym (ap (λ t. cond t (Some (length (list_delivered c.args.m keys features c.args.leaves))) None) (delivery_short c.args.m c.args.s keys features c.args.leaves (omega (arith, c.min.ensures, c.if-min-leaves.true))))

pub returns : goal.returns
returns c =
    let keys = c.args.leaf_keys.now in
    let features = c.args.leaf_features.now in
    c.records_of.ensures
    ∙ ap (λ t. cond t (Some (length (list_delivered c.args.m keys features c.args.leaves))) None) (sym (delivery_full c.args.m c.args.s keys features c.args.leaves (omega (arith, c.min.ensures, c.if-min-leaves.false))))
