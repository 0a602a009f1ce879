-- Block after block the places are compared with what is counted.
use native.Mathlib.Omega.{arith}
use Rattle.list.specs.Taken.{picture_listed}
use Rattle.summary.proofs.IsSummary.{length-right, length-wrong, all_right, block_wrong, block_right}
use Rattle.summary.proofs.check.is_summary.Goals as goal

pub returns-then-not-have_length : goal.returns-then-not-have_length
returns-then-not-have_length c = length-wrong _ _ _ _ _ c.have_length.ensures c.if-not-have_length.true

pub loop-b-preserved : goal.loop-b-preserved
loop-b-preserved c =
    block_right _ _ (picture_listed c.args.counted.now.list) _ c.loop-b.b _ (omega (arith, c.number_of-blocks.ensures)) c.requires c.counts_of-counts.ensures c.loop-b.invariant _ c.ne.ensures c.if-ne.false

pub returns-then-ne : goal.returns-then-ne
returns-then-ne c =
    block_wrong _ _ (picture_listed c.args.counted.now.list) _ c.loop-b.b _ (omega (arith, c.number_of-blocks.ensures)) c.requires c.counts_of-counts.ensures _ c.ne.ensures c.if-ne.true

pub returns : goal.returns
returns c =
    all_right _ _ _ _ c.loop-b.b c.loop-b.invariant (omega (arith, c.number_of-blocks.ensures)) (length-right _ _ c.args.summary.now _ c.have_length.ensures c.if-not-have_length.false)
