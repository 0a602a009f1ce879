-- `count::records_of`: the pass over the root's leaves, held against their number, is the test of a delivery.
use mathlib.Core.Path.{refl, sym, ◌∙◌, ap}
use Rattle.std.proofs.Common.{Some, None}
use mathlib.Core.Bool.{cond}
use lib.ListN.{length}
use Rattle.definitions.specs.List.{list_of_picture}
use Rattle.definitions.specs.Read.{paired}
use Rattle.definitions.specs.Leaves.{picture_of_leaves}
use Rattle.list.proofs.Tests.{good_settings}
use Rattle.leaves.proofs.Delivery.{leaves_to, leaves_parted, end_leaves, bad_leaves, other_leaves}
use native.Mathlib.Omega.{arith}
use Rattle.keys.specs.Span.{root_span}
use Rattle.leaves.specs.Delivered.{LeavesLost}
use Rattle.leaves.proofs.Quarters.{asked_at}
use Rattle.leaves.proofs.PassBlock.{passed_at}
use Rattle.leaves.proofs.LayList.{root_asked}
use Rattle.leaves.proofs.count.records_of.Goals as goal

pub returns-then-has_bad_feature : goal.returns-then-has_bad_feature
returns-then-has_bad_feature c =
    let m = c.args.m in
    let keys = c.args.keys.now in
    let features = c.args.features.now in
    sym (ap (λ t. cond t (Some (length (list_of_picture m (picture_of_leaves m (paired keys features))))) None) (bad_leaves m c.args.s keys features (sym c.has_bad_feature.ensures ∙ c.if-has_bad_feature.true)))

pub root-requires : goal.root-requires
root-requires c = (good_settings _ _ c.requires.0).deep

pub pass_block-requires : goal.pass_block-requires
pass_block-requires c =
    asked_at (sym c.root.ensures) (root_asked _ _ _ _ c.requires.0 c.requires.1 (sym c.has_bad_feature.ensures ∙ c.if-has_bad_feature.false))

pub returns-in_err-whole : goal.returns-in_err-whole
returns-in_err-whole c =
    let m = c.args.m in
    let keys = c.args.keys.now in
    let features = c.args.features.now in
    let gone : LeavesLost keys (root_span m) 0 = rw c.root.ensures at c.in_err-whole.ensures in
    rw c.from_residual.ensures
    (sym (ap (λ t. cond t (Some (length (list_of_picture m (picture_of_leaves m (paired keys features))))) None)
    (other_leaves m c.args.s keys features c.requires.1 (λ e. let g = gone m refl in omega arith))))

pub returns-then-whole-keys : goal.returns-then-whole-keys
returns-then-whole-keys c =
    let m = c.args.m in
    let keys = c.args.keys.now in
    let features = c.args.features.now in
    let w = passed_at c.root.ensures c.in_ok-whole.ensures in
    let are = end_leaves m c.args.s keys features (sym (w.next-is m refl) ∙ c.if-whole-keys.true) (sym c.has_bad_feature.ensures ∙ c.if-has_bad_feature.false) in
    ap Some (w.tally (picture_of_leaves m (paired keys features)) m 0 0 refl (leaves_parted m c.args.s keys features c.requires.1 (leaves_to m c.args.s keys features are))).count-is
    ∙ sym (ap (λ t. cond t (Some (length (list_of_picture m (picture_of_leaves m (paired keys features))))) None) are)

pub returns : goal.returns
returns c =
    let m = c.args.m in
    let keys = c.args.keys.now in
    let features = c.args.features.now in
    sym (ap (λ t. cond t (Some (length (list_of_picture m (picture_of_leaves m (paired keys features))))) None) (other_leaves m c.args.s keys features c.requires.1 (λ e. c.if-whole-keys.false ((passed_at c.root.ensures c.in_ok-whole.ensures).next-is m refl ∙ e))))
