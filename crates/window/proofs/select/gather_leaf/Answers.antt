-- `select::gather_leaf` meets its contract: a block that the window holds is given, and the walk goes on to the leaf's end. Rests on LeafBlocks.
use Prim.Native.Nat.{ℕ, ◌+◌, ◌≤◌}
use mathlib.Core.Path.{refl, sym, ◌∙◌}
use native.Mathlib.Omega.{arith}
use Rattle.walk.proofs.Lies.{small}
use Rattle.walk.proofs.Steps.{some_keys, few_keys, rises}
use Rattle.window.specs.Gather.{Comes}
use Rattle.window.proofs.LeafBlocks.{Reached, reached_none, reached_named, reached_held, reached_not, running_on, running_end}
use Rattle.window.proofs.select.gather_leaf.Goals as goal
use Rattle.window.proofs.select.gather_leaf.Goals.{After-onward, then-held, else-held}

pub overflow_add-end : goal.overflow_add-end
overflow_add-end c = record { fits = omega (arith, few_keys c.requires.0 c.requires.2.block) }

pub loop-answer-init : goal.loop-answer-init
loop-answer-init c =
    let i = c.requires.2 in
    record { walking = i.walking; from = i.from; until = i.until; rise = omega arith; reached = reached_none _ _ _ _ _ _ _ }

pub within-held-requires : goal.within-held-requires
within-held-requires c = small _ _ _ c.requires.0 c.requires.1 c.loop-answer.invariant.walking.stands

-- what was given where the walk comes to
reached : (c : After-onward) (y : ℕ) → Comes c.args.m c.args.window c.loop-answer.spot y
    → Reached c.args.m c.args.window c.args.limit (c.args.leaf.key + c.args.leaf.step) c.args.first.key c.args.count c.args.answer.now y c.if-held.answer c.if-held.given
reached c y comes =
    let r = c.loop-answer.invariant in
    let held = c.within-held.ensures in
    elim c.if-held.branch [
      | then-held w ↦ reached_named _ _ _ _ _ _ _ (reached_held _ _ _ _ _ _ _ r comes (sym held ∙ w.if-held.true) _ w.write_within.ensures) _ _ w.answer-is w.given-is
      | else-held w ↦ reached_named _ _ _ _ _ _ _ (reached_not _ _ _ _ _ _ _ r comes (sym held ∙ w.if-held.false)) _ _ w.answer-is w.given-is
    ]

-- what is given once the walk comes past the leaf
past_leaf_end : (c : After-onward) (y : ℕ) → Comes c.args.m c.args.window c.loop-answer.spot y → c.args.leaf.key + c.args.leaf.step ≤ y
    → Reached c.args.m c.args.window c.args.limit (c.args.leaf.key + c.args.leaf.step) c.args.first.key c.args.count c.args.answer.now (c.args.leaf.key + c.args.leaf.step)
    c.if-held.answer c.if-held.given
past_leaf_end c y comes ends = running_end _ _ _ _ _ _ _ c.loop-answer.invariant comes ends (reached c y comes)

pub returns-in_default : goal.returns-in_default
returns-in_default c = (past_leaf_end (goal.at.returns-in_default c).After-onward _ c.in_default.ensures (some_keys c.requires.2.block).1).gave

pub returns-then-end-next : goal.returns-then-end-next
returns-then-end-next c = (past_leaf_end (goal.at.returns-then-end-next c).After-onward _ c.in-Some.ensures.1 c.if-end-next.true).gave

pub loop-answer-smaller : goal.loop-answer-smaller
loop-answer-smaller c = rises c.loop-answer.invariant.walking.stands _ c.in-Some.ensures.1.rise

pub loop-answer-preserved : goal.loop-answer-preserved
loop-answer-preserved c =
    let comes = c.in-Some.ensures in
    running_on _ _ _ _ _ _ _ c.loop-answer.invariant comes.1 _ refl comes.0 _ c.requires.2.block refl refl c.if-end-next.false
    (reached (goal.at.loop-answer-preserved c).After-onward _ comes.1)
