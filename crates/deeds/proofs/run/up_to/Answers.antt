-- `up_to` meets its contract: an entry past the block is left out, and the first that is not ends the walk.
use Rattle.deeds.proofs.Chains.{run_ended}
use Rattle.deeds.proofs.EntryTurns.{turn_less}
use Rattle.deeds.proofs.ShortRuns.{short_begins, short_turns, short_by}
use Rattle.deeds.proofs.run.up_to.Goals as goal

pub loop-end-init : goal.loop-end-init
loop-end-init c = short_begins _ c.requires.0

pub last_entry-last-requires : goal.last_entry-last-requires
last_entry-last-requires c = run_ended c.loop-end.invariant.entries.between c.loop-end-test.true

pub loop-end-smaller : goal.loop-end-smaller
loop-end-smaller c = turn_less c.loop-end.invariant.entries.between c.loop-end-test.true _ c.last_entry-last.ensures

pub loop-end-preserved : goal.loop-end-preserved
loop-end-preserved c = short_turns c.loop-end.invariant c.loop-end-test.true _ c.last_entry-last.ensures c.if-last-past.false

pub returns-after-loop-end : goal.returns-after-loop-end
returns-after-loop-end c = short_by c.end-past.ensures c.loop-end.invariant

pub returns-then-last-past : goal.returns-then-last-past
returns-then-last-past c = short_by c.end-past.ensures c.loop-end.invariant
