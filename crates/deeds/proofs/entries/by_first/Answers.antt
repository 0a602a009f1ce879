-- `by_first` meets its contract: what the entries from the end on make of the block is what those before leave where they are apart from it.
use mathlib.Core.Path.{refl, ◌∙◌}
use Rattle.deeds.proofs.Chains.{run_ended}
use Rattle.deeds.proofs.EntryTurns.{turn_less, turn_rest, turn_asking, first_turns, first_over}
use Rattle.deeds.proofs.entries.by_first.Goals as goal

pub loop-end-init : goal.loop-end-init
loop-end-init c = (c.requires.2.between, refl)

pub last_entry-last-requires : goal.last_entry-last-requires
last_entry-last-requires c = run_ended c.loop-end.invariant.0 c.loop-end-test.true

pub met-answer-requires : goal.met-answer-requires
met-answer-requires c = (c.requires.0, c.requires.1, turn_asking c.loop-end.invariant.0 c.loop-end-test.true _ c.last_entry-last.ensures _)

pub loop-end-smaller : goal.loop-end-smaller
loop-end-smaller c = turn_less c.loop-end.invariant.0 c.loop-end-test.true _ c.last_entry-last.ensures

pub loop-end-preserved : goal.loop-end-preserved
loop-end-preserved c =
    let i = c.loop-end.invariant in
    let t = c.loop-end-test.true in
    let f = c.last_entry-last.ensures in
    (turn_rest i.0 t _ f, first_turns i.0 t _ f _ _ _ _ i.1 c.met-answer.ensures)

pub returns : goal.returns
returns c = first_over _ _ _ _ _ _ _ _ c.loop-end-test.false ∙ c.loop-end.invariant.1
