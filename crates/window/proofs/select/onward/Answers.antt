-- `select::onward` meets its contract: past a block that the window holds, past one apart from it, or into one that it cuts.
use mathlib.Core.Path.{sym, ◌∙◌}
use Rattle.walk.proofs.Lies.{small}
use Rattle.walk.proofs.Steps.{few_keys, cut_parent}
use Rattle.window.proofs.LeafBlocks.{comes_held, comes_apart, onward_after, onward_first}
use Rattle.window.proofs.select.onward.Goals as goal
use Rattle.window.proofs.select.onward.Goals.{then-held-via-then-held, then-held-via-else-held+then-apart}

pub apart-requires : goal.apart-requires
apart-requires c = small _ _ _ c.requires.0 c.requires.1 c.requires.2.stands

pub returns-then-held : goal.returns-then-held
returns-then-held c =
    let walking = c.requires.2 in
    onward_after walking c.after.result c.after.ensures
    (elim c.then-held.branch [
      | then-held-via-then-held w ↦ comes_held walking (sym c.requires.3 ∙ w.if-held.true)
      | then-held-via-else-held+then-apart w ↦ comes_apart walking (sym w.apart.ensures ∙ w.if-apart.true) (sym c.requires.3 ∙ w.if-held.false)
    ])

pub first-requires : goal.first-requires
first-requires c = few_keys c.requires.0 c.requires.2.stands

pub returns : goal.returns
returns c =
    let cut = sym c.requires.3 ∙ c.if-held.false in
    rw c.first.ensures
    (onward_first c.requires.2 cut (cut_parent _ c.requires.2.stands cut (sym c.apart.ensures ∙ c.if-apart.false)))
