-- `pick::pick`: the leaves of one record more are written. Rests on Picking.
use Rattle.std.proofs.Common.{arith}
use Rattle.leaves.proofs.Picking.{picks_begin, picks_fit, picks_go_on, picks_end}
use Rattle.leaves.proofs.pick.pick.Goals as goal

pub loop-i-init : goal.loop-i-init
loop-i-init c = picks_begin _ _ _ _ _

pub pick_one-at-requires : goal.pick_one-at-requires
pick_one-at-requires c = picks_fit c.loop-i.invariant c.args.list.now.own.fits c.requires (omega arith)

pub loop-i-preserved : goal.loop-i-preserved
loop-i-preserved c = picks_go_on c.loop-i.invariant c.args.list.now.own.fits c.requires (omega arith) c.pick_one-at.ensures

pub returns : goal.returns
returns c =
    let r = picks_end c.loop-i.invariant c.args.list.now.own.fits c.requires (omega arith) in
    record { leaf_keys_after = r.0; leaf_features_after = r.1 }
