-- `next::pass`: each way out is one of the model. Rests on Stepping and NextBit.
use Rattle.std.proofs.Common.{cond, drop, sym, ◌∙◌, ap, arith}
use Rattle.keys.proofs.LastZeros.{keys_most}
use Rattle.keys.proofs.Powers.{five_le}
use Rattle.definitions.specs.BitStrings.{bits_in, four_equal}
use Rattle.bit_strings.proofs.NextBit.{drop-on, no_digit}
use Rattle.bit_strings.proofs.Stepping.{pass_no_leaf, pass_leaf, pass_none, pass_deep, pass_equal, pass_inner}
use Rattle.bit_strings.proofs.next.pass.Goals as goal

pub returns-in_err-node : goal.returns-in_err-node
returns-in_err-node c = rw c.from_residual.ensures (pass_none _ _ _ c.keys_in-step.ensures _ _ (sym c.in_err-node.ensures))

pub returns-in_err-_feature : goal.returns-in_err-_feature
returns-in_err-_feature c =
    let one = sym c.in_ok-node.ensures ∙ ap (λ b. cond b 1 0) c.if-node.true in
    rw c.from_residual-in_err-_feature.ensures (pass_no_leaf _ _ _ c.keys_in-step.ensures _ _ one (sym c.in_err-_feature.ensures))

pub overflow_add-result : goal.overflow_add-result
overflow_add-result c =
    let h = five_le 10 c.requires.0 in
    omega (arith, keys_most c.args.m c.args.key, c.keys_in-step.ensures, c.requires.1)

pub returns-then-node : goal.returns-then-node
returns-then-node c =
    let one = sym c.in_ok-node.ensures ∙ ap (λ b. cond b 1 0) c.if-node.true in
    pass_leaf _ _ _ c.keys_in-step.ensures _ _ one (λ two. no_digit _ (sym (c.in_ok-_feature.ensures ∙ two)))

pub returns-then-step-eq1 : goal.returns-then-step-eq1
returns-then-step-eq1 c =
    let zero = sym c.in_ok-node.ensures ∙ ap (λ b. cond b 1 0) c.if-node.false in
    pass_deep _ _ _ c.keys_in-step.ensures _ _ (λ e. omega arith) (λ e. omega arith) c.if-step-eq1.true

pub equal_siblings-requires : goal.equal_siblings-requires
equal_siblings-requires c = let h = five_le 10 c.requires.0 in (omega arith, omega arith)

pub returns-then-equal_siblings : goal.returns-then-equal_siblings
returns-then-equal_siblings c =
    let s = c.args in
    let zero = sym c.in_ok-node.ensures ∙ ap (λ b. cond b 1 0) c.if-node.false in
    pass_equal _ _ _ c.keys_in-step.ensures (drop s.i (bits_in s.nodes.now)) (drop s.j (bits_in s.leaves.now))
    (λ e. omega arith) (λ e. omega arith)
    c.if-step-eq1.false
    (ap (λ l. four_equal l (drop s.j (bits_in s.leaves.now))) (drop-on (bits_in s.nodes.now) s.i) ∙ sym c.equal_siblings.ensures ∙ c.if-equal_siblings.true)

pub overflow_add-result-2 : goal.overflow_add-result-2
overflow_add-result-2 c =
    let h = five_le 10 c.requires.0 in
    omega (arith, keys_most c.args.m c.args.key, c.keys_in-step.ensures, c.requires.1)

pub returns : goal.returns
returns c =
    let s = c.args in
    let zero = sym c.in_ok-node.ensures ∙ ap (λ b. cond b 1 0) c.if-node.false in
    pass_inner _ _ _ c.keys_in-step.ensures (drop s.i (bits_in s.nodes.now)) (drop s.j (bits_in s.leaves.now))
    (λ e. omega arith) (λ e. omega arith)
    c.if-step-eq1.false
    (ap (λ l. four_equal l (drop s.j (bits_in s.leaves.now))) (drop-on (bits_in s.nodes.now) s.i) ∙ sym c.equal_siblings.ensures ∙ c.if-equal_siblings.false)
