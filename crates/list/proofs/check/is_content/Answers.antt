-- `check::is_content` meets its contract: each way out answers what the definition does there. Rests on Content and AfterNode.
use Prim.Native.Nat.{ℕ, ◌≤◌}
use mathlib.Core.Path.{◌≡◌, sym, ◌∙◌}
use mathlib.Core.Bool.{true}
use mathlib.Core.List.{List}
use native.Mathlib.Omega.{arith}
use lib.ListN.{length}
use borrow.Author.Tests.{ltb-true, ltb-false}
use Rattle.keys.specs.Key.{valid_key}
use Rattle.keys.proofs.LastZeros.{keys_height}
use Rattle.list.proofs.Content.{step_is_under, keys_fit, Stand, keys_length, bits_length, no_records, other_key, large_bits, one_record, many_records}
use Rattle.list.proofs.AfterNode.{answer_is}
use Rattle.list.proofs.check.is_content.Goals as goal

-- the records are there, and the key is valid
there : {m κ : ℕ} {K B : List ℕ} {n : ℕ} → (n ≡ 0 → ⊥) → n ≤ length K → n ≤ length B → valid_key m κ ≡ true → Stand m κ K B n
there some in_keys in_bits valid = record { some = some; in_keys = in_keys; in-bits = in_bits; valid = valid }

pub returns-then-n-eq0 : goal.returns-then-n-eq0
returns-then-n-eq0 c =
    let a = c.args in
    no_records a.m a.s a.key a.keys.now a.bits.now a.n c.requires.2 c.if-n-eq0.true

pub returns-then-keys-key : goal.returns-then-keys-key
returns-then-keys-key c =
    let st = there c.if-n-eq0.false c.if-keys-n.false c.if-bits-n.false c.requires.2 in
    other_key st c.args.s c.if-keys-key.true

pub returns-then-not-slots_below : goal.returns-then-not-slots_below
returns-then-not-slots_below c =
    let st = there c.if-n-eq0.false c.if-keys-n.false c.if-bits-n.false c.requires.2 in
    large_bits st c.args.s c.if-keys-key.false (ltb-false _ _ (sym c.slots_below.ensures ∙ c.if-not-slots_below.true))

pub returns-then-has_one_slot : goal.returns-then-has_one_slot
returns-then-has_one_slot c =
    let st = there c.if-n-eq0.false c.if-keys-n.false c.if-bits-n.false c.requires.2 in
    one_record st c.args.s c.if-keys-key.false (ltb-true _ _ (sym c.slots_below.ensures ∙ c.if-not-slots_below.false))
    (sym c.has_one_slot.ensures ∙ c.if-has_one_slot.true)

pub after_node-requires : goal.after_node-requires
after_node-requires c =
    let st = there c.if-n-eq0.false c.if-keys-n.false c.if-bits-n.false c.requires.2 in
    let h = keys_length st in
    let z = st.some in
    (h ∙ sym (bits_length st), omega arith, keys_fit c.args.m c.args.key c.keys_in-step.result c.requires.0 c.requires.2 (c.keys_in-step.ensures ∙ keys_height _ _ c.requires.2))

pub returns : goal.returns
returns c =
    let st = there c.if-n-eq0.false c.if-keys-n.false c.if-bits-n.false c.requires.2 in
    c.eq.ensures
    ∙ answer_is c.after_node.result c.args.n st.some
    ∙ many_records st c.args.s c.if-keys-key.false (ltb-true _ _ (sym c.slots_below.ensures ∙ c.if-not-slots_below.false)) _
    (sym c.has_one_slot.ensures ∙ c.if-has_one_slot.false)
    (c.after_node.ensures.checked _ (step_is_under _ _ _ (c.keys_in-step.ensures ∙ keys_height _ _ c.requires.2)))
