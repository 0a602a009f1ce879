-- `check::four_pixels` meets its contract: each test is the model's test of all four records, and each way out answers what the model does there. Rests on
-- Pixels.
use mathlib.Core.Path.{sym, ◌∙◌}
use native.Mathlib.Omega.{arith}
use borrow.Author.Tests.{eq-eqb, ne_eqb}
use Rattle.list.proofs.Pixels.{too_few, keys_wrong, union_wrong, slots_decide}
use Rattle.list.proofs.check.four_pixels.Goals as goal

pub returns-then-keys-first-lt4 : goal.returns-then-keys-first-lt4
returns-then-keys-first-lt4 c = too_few _ _ _ c.args.key c.args.own c.requires.0 c.if-keys-first-lt4.true

pub returns-then-not-are_pixels : goal.returns-then-not-are_pixels
returns-then-not-are_pixels c =
    keys_wrong _ _ _ c.args.key c.args.own c.requires.0 c.if-keys-first-lt4.false (sym c.are_pixels.ensures ∙ c.if-not-are_pixels.true)

pub returns-then-a-b : goal.returns-then-a-b
returns-then-a-b c =
    union_wrong _ _ _ c.args.key c.args.own c.requires.0 c.if-keys-first-lt4.false (sym c.are_pixels.ensures ∙ c.if-not-are_pixels.false) (ne_eqb _ _ c.if-a-b.true)

pub returns : goal.returns
returns c =
    slots_decide _ _ _ c.args.key c.args.own c.requires.0 c.if-keys-first-lt4.false _ (sym c.are_pixels.ensures ∙ c.if-not-are_pixels.false)
    (eq-eqb _ _ c.if-a-b.false) c.have_one_slot.ensures
