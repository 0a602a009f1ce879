-- `bits::begins_four`: each turn looks at one bit more. Rests on NextBit.
use Rattle.std.proofs.Common.{sym, ◌∙◌, arith}
use Rattle.definitions.specs.BitStrings.{bits_in}
use Rattle.bit_strings.proofs.NextBit.{begins_turn, begins_stop, begins_end, no_digit, differ, agree}
use Rattle.bit_strings.proofs.bits.begins_four.Goals as goal

pub returns-in_default : goal.returns-in_default
returns-in_default c = begins_stop _ _ c.loop-i.i _ _ (omega arith) c.loop-i.invariant (λ e. no_digit _ (c.in_default.ensures ∙ e))

pub returns-then-found-bit : goal.returns-then-found-bit
returns-then-found-bit c =
    begins_stop _ _ c.loop-i.i _ _ (omega arith) c.loop-i.invariant (λ e. differ _ _ c.if-found-bit.true (c.in-Some.ensures ∙ e))

pub loop-i-preserved : goal.loop-i-preserved
loop-i-preserved c =
    begins_turn _ _ c.loop-i.i _ _ (omega arith) c.loop-i.invariant (sym c.in-Some.ensures ∙ agree _ _ c.if-found-bit.false)

pub returns : goal.returns
returns c = begins_end (bits_in c.args.bytes.now) c.args.at c.loop-i.i c.args.bit _ (omega arith) c.loop-i.invariant
