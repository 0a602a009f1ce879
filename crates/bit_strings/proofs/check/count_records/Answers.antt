-- `check::count_records`: each turn passes one block more, and past the last what is left over decides. Rests on Counting.
use Rattle.std.proofs.Common.{sym, ◌∙◌, arith}
use Rattle.bit_strings.proofs.Counting.{counting_start, counting_stuck, counting_on, counting_turn, counting_nodes, counting_leaves, counting_end}
use Rattle.bit_strings.proofs.NextBit.{byte_digit}
use Rattle.bit_strings.proofs.check.count_records.Goals as goal

pub loop-key-init : goal.loop-key-init
loop-key-init c = counting_start _ _ _

pub returns-in_err-passed : goal.returns-in_err-passed
returns-in_err-passed c =
    rw c.from_residual.ensures (counting_stuck _ _ _ _ _ _ c.loop-key.invariant (omega (arith, c.power_of_five-end.ensures)) c.in_err-passed.ensures)

pub loop-key-smaller : goal.loop-key-smaller
loop-key-smaller c =
    let b = (counting_on _ _ _ _ _ _ c.loop-key.invariant (omega (arith, c.power_of_five-end.ensures)) _ c.in_ok-passed.ensures).beyond in
    omega arith

pub loop-key-preserved : goal.loop-key-preserved
loop-key-preserved c = counting_turn _ _ _ _ _ _ c.loop-key.invariant (omega (arith, c.power_of_five-end.ensures)) _ c.in_ok-passed.ensures _ (c.from-j.ensures ∙ byte_digit c.in_ok-passed.passed.leaf)

pub returns-then-not-only_spare : goal.returns-then-not-only_spare
returns-then-not-only_spare c =
    counting_nodes _ _ _ _ _ _ c.loop-key.invariant (omega (arith, c.power_of_five-end.ensures)) (sym c.only_spare.ensures ∙ c.if-not-only_spare.true)

pub returns-then-not-only_spare-2 : goal.returns-then-not-only_spare-2
returns-then-not-only_spare-2 c =
    counting_leaves _ _ _ _ _ _ c.loop-key.invariant (omega (arith, c.power_of_five-end.ensures)) (sym c.only_spare.ensures ∙ c.if-not-only_spare.false) (sym c.only_spare-2.ensures ∙ c.if-not-only_spare-2.true)

pub returns : goal.returns
returns c =
    counting_end _ _ _ _ _ _ c.loop-key.invariant (omega (arith, c.power_of_five-end.ensures)) (sym c.only_spare.ensures ∙ c.if-not-only_spare.false) (sym c.only_spare-2.ensures ∙ c.if-not-only_spare-2.false)
