-- `pick::pick_one`: a record of several features is passed, a leaf written. Rests on Picking.
use Rattle.std.proofs.Common.{sym, ◌∙◌, arith}
use Rattle.leaves.proofs.Picking.{picked_places, added_none, added_one}
use Rattle.leaves.proofs.pick.pick_one.Goals as goal

pub returns-then-not-has_one_slot : goal.returns-then-not-has_one_slot
returns-then-not-has_one_slot c = added_none _ _ _ _ _ (sym c.has_one_slot.ensures ∙ c.if-not-has_one_slot.true)

pub bounds-leaf_keys-at : goal.bounds-leaf_keys-at
bounds-leaf_keys-at c =
    let h = picked_places c.args.key c.args.bits (sym c.has_one_slot.ensures ∙ c.if-not-has_one_slot.false) in
    omega (arith, c.requires)

pub bounds-leaf_features-at : goal.bounds-leaf_features-at
bounds-leaf_features-at c =
    let h = picked_places c.args.key c.args.bits (sym c.has_one_slot.ensures ∙ c.if-not-has_one_slot.false) in
    omega (arith, c.requires)

pub returns : goal.returns
returns c = added_one _ _ _ _ _ _ (sym c.has_one_slot.ensures ∙ c.if-not-has_one_slot.false) c.feature_of.ensures
