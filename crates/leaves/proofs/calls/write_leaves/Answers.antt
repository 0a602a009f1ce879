-- `calls::write_leaves`: the refusals in their order, and then the leaves of the list. Rests on WriteAnswer and list's Taken and FirstRefusal.
use Rattle.std.proofs.Common.{length, refl, ◌∙◌, ap, arith}
use Rattle.std.proofs.lemmas.Result.{err_from_is_err_and}
use Rattle.definitions.specs.List.{keys_of, values_of}
use Rattle.definitions.specs.Leaves.{leaves_of}
use Rattle.definitions.specs.Buffer.{over}
use Rattle.list.proofs.FirstRefusal.{list_passed}
use Rattle.list.proofs.Taken.{taken_records}
use Rattle.leaves.proofs.WriteAnswer.{leaves_number, write_twelve, write_none, write_refused, write_told, write_done}
use Rattle.leaves.proofs.calls.write_leaves.Goals as goal

pub returns-in_err-list : goal.returns-in_err-list
returns-in_err-list c =
    let p = err_from_is_err_and c.from_residual.result c.from_residual.ensures.1 in
    let r = write_told c.args.m c.args.s c.args.keys.now c.args.bits.now c.args.n c.args.leaf_keys.now c.args.leaf_features.now _ c.in_err-list.ensures.told in
    record { value = rw (p.1, p.2) r.0; leaf_keys_after = r.1.0; leaf_features_after = r.1.1 }

pub returns-then-min-leaves : goal.returns-then-min-leaves
returns-then-min-leaves c =
    let p = list_passed c.args.m c.args.s c.args.keys.now c.args.bits.now c.args.n _ c.in_ok-list.ensures.told refl in
    let n = leaves_number _ _ _ _ _ p.list in
    let r = write_refused c.args.m c.args.s c.args.keys.now c.args.bits.now c.args.n c.args.leaf_keys.now c.args.leaf_features.now 12 _
    (write_twelve _ _ _ _ _ _ _ p.sound p.list (omega arith))
    (λ z. omega arith)
    n in
    record { value = r.0; leaf_keys_after = r.1.0; leaf_features_after = r.1.1 }

pub pick-requires : goal.pick-requires
pick-requires c =
    let p = list_passed c.args.m c.args.s c.args.keys.now c.args.bits.now c.args.n _ c.in_ok-list.ensures.told refl in
    let n = leaves_number _ _ _ _ _ p.list in
    let same = ap (λ records. length (leaves_of records)) (taken_records c.in_ok-list.ensures.list) in
    omega arith

pub returns : goal.returns
returns c =
    let p = list_passed c.args.m c.args.s c.args.keys.now c.args.bits.now c.args.n _ c.in_ok-list.ensures.told refl in
    let n = leaves_number _ _ _ _ _ p.list in
    let same = taken_records c.in_ok-list.ensures.list in
    let r = write_done c.args.m c.args.s c.args.keys.now c.args.bits.now c.args.n c.args.leaf_keys.now c.args.leaf_features.now _ _ _
    (write_none _ _ _ _ _ _ _ p.sound p.list (omega arith))
    n
    (c.pick.ensures.leaf_keys_after ∙ ap (λ records. over (keys_of (leaves_of records)) c.args.leaf_keys.now) same)
    (c.pick.ensures.leaf_features_after ∙ ap (λ records. over (values_of (leaves_of records)) c.args.leaf_features.now) same) in
    record { value = r.0; leaf_keys_after = r.1.0; leaf_features_after = r.1.1 }
