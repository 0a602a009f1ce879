-- `check_file::holds_block`: each way out answers what the definition does there. Rests on FileList, FileAfter and AfterNode of crate list.
use Rattle.std.proofs.Common.{arith, sym, ◌∙◌}
use borrow.Author.Tests.{ltb-true, ltb-false}
use Rattle.keys.proofs.LastZeros.{keys_height}
use Rattle.list.proofs.Content.{step_is_under, keys_fit}
use Rattle.list.proofs.AfterNode.{answer_is}
use Rattle.file.proofs.FileAfter.{answered_in}
use Rattle.file.proofs.FileList.{none_in_file, other_first, large_first, leaf_first, node_first}
use Rattle.file.proofs.check_file.holds_block.Goals as goal

pub returns-then-n-eq0 : goal.returns-then-n-eq0
returns-then-n-eq0 c = none_in_file _ _ _ _ _ c.args.file.now c.requires.3 c.if-n-eq0.true

pub returns-then-key_at-key : goal.returns-then-key_at-key
returns-then-key_at-key c = other_first _ _ _ _ _ _ c.requires.3 c.if-n-eq0.false _ c.key_at.ensures c.if-key_at-key.true

pub returns-then-not-slots_below : goal.returns-then-not-slots_below
returns-then-not-slots_below c =
    large_first _ _ _ _ _ _ c.requires.3 c.if-n-eq0.false _ c.key_at.ensures c.if-key_at-key.false _ c.bits_at-own.ensures
    (ltb-false _ _ (sym c.slots_below.ensures ∙ c.if-not-slots_below.true))

pub returns-then-has_one_slot : goal.returns-then-has_one_slot
returns-then-has_one_slot c =
    leaf_first _ _ _ _ _ _ c.requires.3 c.if-n-eq0.false _ c.key_at.ensures c.if-key_at-key.false _ c.bits_at-own.ensures
    (ltb-true _ _ (sym c.slots_below.ensures ∙ c.if-not-slots_below.false)) (sym c.has_one_slot.ensures ∙ c.if-has_one_slot.true)

pub after_node-requires : goal.after_node-requires
after_node-requires c =
    (c.requires.0, omega arith, keys_fit _ _ _ c.requires.1 c.requires.3 (c.keys_in-step.ensures ∙ keys_height _ _ c.requires.3))

pub returns : goal.returns
returns c =
    c.eq.ensures
    ∙ answer_is c.after_node.result c.args.n c.if-n-eq0.false
    ∙ node_first _ _ _ _ _ _ c.requires.3 c.if-n-eq0.false _ c.key_at.ensures c.if-key_at-key.false _ c.bits_at-own.ensures
    (ltb-true _ _ (sym c.slots_below.ensures ∙ c.if-not-slots_below.false))
    _ _
    (sym c.has_one_slot.ensures ∙ c.if-has_one_slot.false)
    (step_is_under _ _ _ (c.keys_in-step.ensures ∙ keys_height _ _ c.requires.3))
    (answered_in c.after_node.ensures)
