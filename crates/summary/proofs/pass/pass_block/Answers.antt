-- The step 5 is that of sixteen pixels.
use Rattle.summary.proofs.PassTurn.{larger, sixteen_asked, sixteen_answered}
use Rattle.summary.proofs.pass.pass_block.Goals as goal

pub pass_sixteen-requires : goal.pass_sixteen-requires
pass_sixteen-requires c = sixteen_asked c.requires.0 c.if-step-eq5.true

pub returns-then-step-eq5 : goal.returns-then-step-eq5
returns-then-step-eq5 c = sixteen_answered c.requires.0 c.if-step-eq5.true c.pass_sixteen.ensures

pub pass_node-requires : goal.pass_node-requires
pass_node-requires c =
    let pre = c.requires in
    (pre.0, larger _ _ pre.0.level pre.1 c.if-step-eq5.false)
