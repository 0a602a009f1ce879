-- `lay::lay_list`: the records below the root and the root's own are the list.
use native.Mathlib.Omega.{arith}
use Rattle.definitions.specs.Read.{paired}
use Rattle.definitions.specs.Leaves.{picture_of_leaves}
use Rattle.laws.proofs.ListOf.{list_some}
use Rattle.list.proofs.Tests.{good_settings}
use Rattle.leaves.proofs.LayList.{root_ready, root_keys, root_bits}
use Rattle.leaves.proofs.lay.lay_list.Goals as goal

pub root-requires : goal.root-requires
root-requires c = (good_settings _ _ c.requires.0).deep

pub lay_below-root-requires : goal.lay_below-root-requires
lay_below-root-requires c =
    root_ready c.args.m c.args.s _ _ _ _ c.requires.1 c.requires.2 c.requires.0 c.requires.3 c.root.ensures

pub bounds-keys-0 : goal.bounds-keys-0
bounds-keys-0 c =
    let n = list_some (picture_of_leaves c.args.m (paired c.args.leaf_keys.now c.args.leaf_features.now)) c.args.m 0 0 0 in
    omega (arith, c.requires.3, c.lay_below-root.auto.keys)

pub bounds-bits-0 : goal.bounds-bits-0
bounds-bits-0 c =
    let n = list_some (picture_of_leaves c.args.m (paired c.args.leaf_keys.now c.args.leaf_features.now)) c.args.m 0 0 0 in
    omega (arith, c.requires.3, c.lay_below-root.auto.bits)

pub returns : goal.returns
returns c = record { keys_after = root_keys c.args.m c.args.s _ _ _ _ c.requires.1 c.requires.2 c.root.ensures c.lay_below-root.ensures c.requires.3; bits_after = root_bits c.args.m c.args.s _ _ _ _ c.requires.1 c.requires.2 c.root.ensures c.lay_below-root.ensures c.requires.3 }
