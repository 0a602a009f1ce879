-- After each turn one block more is written.
use Prim.Native.Nat.{◌^◌, ◌<◌}
use native.Mathlib.Omega.{arith}
use Rattle.definitions.specs.Area.{summary_level}
use Rattle.summary.proofs.Renewed.{renew_begins, renew_turns}
use Rattle.summary.proofs.renew.write_blocks.Goals as goal

pub loop-b-init : goal.loop-b-init
loop-b-init g c = renew_begins _ _ _ _ _ _ c.requires.renewable.order

pub loop-b-preserved : goal.loop-b-preserved
loop-b-preserved g c =
    let most : c.loop-b.b < 4 ^ summary_level c.args.list.now.m = omega (arith, c.requires.renewable.most) in
    renew_turns _ _ _ _ _ c.loop-b.invariant c.requires.renewable (omega arith) (c.requires.right c.loop-b.b _ most c.counts-row.ensures) c.copy.ensures
