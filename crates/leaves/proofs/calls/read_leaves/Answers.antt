-- `calls::read_leaves`: the refusals in their order, and then the list of the delivery. Rests on ReadAnswer.
use Rattle.std.proofs.Common.{ℕ, List, ◌≡◌, true, length, take, sym, ◌∙◌, arith}
use lib.Seq.{length-take-le}
use Rattle.definitions.specs.Leaves.{is_delivery}
use Rattle.leaves.proofs.ReadAnswer.{delivery_within, delivery_leaves, number_none, number_some, number-length, read_one, read_nineteen, read_nine, read_none, read_refused, read_done}
use Rattle.leaves.proofs.calls.read_leaves.Goals as goal

-- both slices have the leaves of a delivery
module _ (m s : ℕ) (keys features : List ℕ) (leaves : ℕ) (is : is_delivery m s keys features leaves ≡ true) where
  keys_long : length (take leaves keys) ≡ leaves
  keys_long = let h = delivery_within _ _ _ _ _ is in length-take-le _ _ (omega arith)

  features_long : length (take leaves features) ≡ leaves
  features_long = let h = delivery_within _ _ _ _ _ is in length-take-le _ _ (omega arith)

pub returns-then-are_bad : goal.returns-then-are_bad
returns-then-are_bad c =
    let r = read_refused c.args.m c.args.s c.args.leaf_keys.now c.args.leaf_features.now c.args.leaves c.args.keys.now c.args.bits.now 1 (read_one _ _ _ _ _ _ _ (sym c.are_bad.ensures ∙ c.if-are_bad.true)) (λ z. omega arith) in
    record { value = r.0; keys_after = r.1.0; bits_after = r.1.1 }

pub returns-in_default : goal.returns-in_default
returns-in_default c =
    let r = read_refused c.args.m c.args.s c.args.leaf_keys.now c.args.leaf_features.now c.args.leaves c.args.keys.now c.args.bits.now 19
    (read_nineteen _ _ _ _ _ _ _ (sym c.are_bad.ensures ∙ c.if-are_bad.false) (number_none _ _ _ _ _ c.in_default.ensures))
    (λ z. omega arith) in
    record { value = r.0; keys_after = r.1.0; bits_after = r.1.1 }

pub returns-then-min-n : goal.returns-then-min-n
returns-then-min-n c =
    let is = number_some c.args.m c.args.s c.args.leaf_keys.now c.args.leaf_features.now c.args.leaves _ c.in-Some.ensures in
    let n = number-length c.args.m c.args.s c.args.leaf_keys.now c.args.leaf_features.now c.args.leaves _ c.in-Some.ensures in
    let r = read_refused c.args.m c.args.s c.args.leaf_keys.now c.args.leaf_features.now c.args.leaves c.args.keys.now c.args.bits.now 9
    (read_nine _ _ _ _ _ _ _ (sym c.are_bad.ensures ∙ c.if-are_bad.false) is (omega arith))
    (λ z. omega arith) in
    record { value = r.0; keys_after = r.1.0; bits_after = r.1.1 }

pub slice_bounds-lay_list-end : goal.slice_bounds-lay_list-end
slice_bounds-lay_list-end c = sym (keys_long _ _ _ _ _ (number_some c.args.m c.args.s c.args.leaf_keys.now c.args.leaf_features.now c.args.leaves _ c.in-Some.ensures))

pub slice_bounds-lay_list-end-2 : goal.slice_bounds-lay_list-end-2
slice_bounds-lay_list-end-2 c = sym (features_long _ _ _ _ _ (number_some c.args.m c.args.s c.args.leaf_keys.now c.args.leaf_features.now c.args.leaves _ c.in-Some.ensures))

pub lay_list-requires : goal.lay_list-requires
lay_list-requires c =
    let is = number_some c.args.m c.args.s c.args.leaf_keys.now c.args.leaf_features.now c.args.leaves _ c.in-Some.ensures in
    let n = number-length c.args.m c.args.s c.args.leaf_keys.now c.args.leaf_features.now c.args.leaves _ c.in-Some.ensures in
    (sym c.are_bad.ensures ∙ c.if-are_bad.false, features_long c.args.m c.args.s c.args.leaf_keys.now c.args.leaf_features.now c.args.leaves is ∙ sym (keys_long c.args.m c.args.s c.args.leaf_keys.now c.args.leaf_features.now c.args.leaves is), delivery_leaves _ _ _ _ _ is, omega arith)

pub returns : goal.returns
returns c =
    let is = number_some c.args.m c.args.s c.args.leaf_keys.now c.args.leaf_features.now c.args.leaves _ c.in-Some.ensures in
    let n = number-length c.args.m c.args.s c.args.leaf_keys.now c.args.leaf_features.now c.args.leaves _ c.in-Some.ensures in
    let r = read_done c.args.m c.args.s c.args.leaf_keys.now c.args.leaf_features.now c.args.leaves c.args.keys.now c.args.bits.now _ _ _
    (read_none _ _ _ _ _ _ _ (sym c.are_bad.ensures ∙ c.if-are_bad.false) is (omega arith))
    n c.lay_list.ensures.keys_after c.lay_list.ensures.bits_after in
    record { value = r.0; keys_after = r.1.0; bits_after = r.1.1 }
