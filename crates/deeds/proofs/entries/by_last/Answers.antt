-- `by_last` meets its contract: an entry that is apart from the block leaves it to those before it.
use mathlib.Core.Path.{refl, sym, ◌∙◌}
use Rattle.deeds.proofs.Chains.{run_ended}
use Rattle.deeds.proofs.EntryTurns.{turn_less, turn_valid, turn_slot, turn_held, turn_entries, last_holds, last_parted, last_apart, last_stops, last_over}
use Rattle.deeds.proofs.entries.by_last.Goals as goal

pub loop-end-init : goal.loop-end-init
loop-end-init c = (c.requires.2, refl)

pub last_entry-last-requires : goal.last_entry-last-requires
last_entry-last-requires c = run_ended c.loop-end.invariant.0.between c.loop-end-test.true

pub holds-requires : goal.holds-requires
holds-requires c = (c.requires.0, turn_valid c.loop-end.invariant.0.between c.loop-end-test.true _ c.last_entry-last.ensures)

pub given-requires : goal.given-requires
given-requires c =
    let i = c.loop-end.invariant in
    let t = c.loop-end-test.true in
    let f = c.last_entry-last.ensures in
    (turn_slot i.0.between t _ f, turn_held i.0.between t _ f _ (sym c.holds.ensures ∙ c.if-holds.true))

pub returns-then-holds : goal.returns-then-holds
returns-then-holds c =
    let i = c.loop-end.invariant in
    let t = c.loop-end-test.true in
    let f = c.last_entry-last.ensures in
    c.given.ensures ∙ (last_holds i.0.between t _ f _ _ _ (sym c.holds.ensures ∙ c.if-holds.true) ∙ i.1)

pub holds-requires-in-loop-end : goal.holds-requires-in-loop-end
holds-requires-in-loop-end c = (c.requires.0, c.requires.1)

pub returns-then-holds-2 : goal.returns-then-holds-2
returns-then-holds-2 c =
    let i = c.loop-end.invariant in
    let t = c.loop-end-test.true in
    let f = c.last_entry-last.ensures in
    last_parted i.0.between t _ f _ _ _ (sym c.holds.ensures ∙ c.if-holds.false) (sym c.holds-in-loop-end.ensures ∙ c.if-holds-2.true) ∙ i.1

pub returns-then-last-key : goal.returns-then-last-key
returns-then-last-key c =
    let i = c.loop-end.invariant in
    let t = c.loop-end-test.true in
    let f = c.last_entry-last.ensures in
    last_stops i.0.between t _ f _ _ _ (i.0.told c.if-run.true) (sym c.holds.ensures ∙ c.if-holds.false) (sym c.holds-in-loop-end.ensures ∙ c.if-holds-2.false) c.if-last-key.true ∙ i.1

pub loop-end-smaller : goal.loop-end-smaller
loop-end-smaller c =
    let i = c.loop-end.invariant in
    let t = c.loop-end-test.true in
    let f = c.last_entry-last.ensures in
    turn_less i.0.between t _ f

pub loop-end-preserved : goal.loop-end-preserved
loop-end-preserved c =
    let i = c.loop-end.invariant in
    let t = c.loop-end-test.true in
    let f = c.last_entry-last.ensures in (
      turn_entries i.0 t _ f,
      last_apart i.0.between t _ f _ _ _ (sym c.holds.ensures ∙ c.if-holds.false) (sym c.holds-in-loop-end.ensures ∙ c.if-holds-2.false) ∙ i.1,
    )

pub returns : goal.returns
returns c = last_over _ _ _ _ _ _ _ _ c.loop-end-test.false ∙ c.loop-end.invariant.1
